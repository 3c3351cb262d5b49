use Rattle.key_domains.proofs.permission.Permissions.can_share.Goals as goal

pub returns-then-not-has : goal.returns-then-not-has
returns-then-not-has c = rw (c.covers.ensures, ← c.has.ensures, c.if-not-has.true)
