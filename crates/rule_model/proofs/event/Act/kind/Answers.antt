use Rattle.rule_model.proofs.event.Act.kind.Goals as goal

pub returns-in-EnterUpdate : goal.returns-in-EnterUpdate
returns-in-EnterUpdate c = rw c.in-EnterUpdate.is
