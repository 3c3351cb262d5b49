use Rattle.script_lines.proofs.step_acts.update_aad.Goals as goal

pub returns : goal.returns
returns c = rw (c.in_ok-op.ensures, c.in_ok-input.ensures)
