use Rattle.use_rules.specs.Plans.{nonce_wanted}
use Rattle.use_rules.proofs.plans.wanted.Goals as goal

pub returns-then-not-gives_nonce : goal.returns-then-not-gives_nonce
unfolding nonce_wanted
returns-then-not-gives_nonce c = rw (← c.if-takes_nonce.ensures, ← c.if-is_only.ensures, ← c.if-not-gives_nonce.ensures) c.nonce_size.ensures
