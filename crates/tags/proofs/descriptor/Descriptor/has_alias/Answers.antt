use Rattle.tags.proofs.descriptor.Descriptor.has_alias.Goals as goal

pub returns-in-Some : goal.returns-in-Some
returns-in-Some c = rw (c.in-Some.is, ← c.as_slice.ensures) c.is_alias.ensures
