use Rattle.rule_model.proofs.event_copy.enter_finish.Goals as goal

pub returns : goal.returns
returns c = rw (c.in_ok-input.ensures, c.as_slice.ensures, c.in_ok-optional.ensures)
