use Rattle.use_rules.proofs.rules.has_manage_blob.Goals as goal

pub returns-in-Some : goal.returns-in-Some
returns-in-Some c = rw (c.in-Some.is, ← c.of_bits.ensures) c.has.ensures
