use Rattle.step_rules.proofs.rules.may_take_aad.Goals as goal

pub returns-then-takes_aad : goal.returns-then-takes_aad
returns-then-takes_aad c = rw (← c.if-not-is_aad.ensures, ← c.if-takes_aad.ensures)
