use Rattle.rule_model.proofs.event.Act.settles.Goals as goal

pub returns : goal.returns
returns c = rw c.row.ensures.row
