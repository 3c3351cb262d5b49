use Rattle.tags.proofs.plan.Plan.may_end.Goals as goal

pub returns-else-seal : goal.returns-else-seal
returns-else-seal c = rw (c.in-Gcm.is, c.if-seal.false)
