use Rattle.key_rules.proofs.rules.has_some_uses.Goals as goal

pub returns : goal.returns
returns c = rw (c.has.ensures)
