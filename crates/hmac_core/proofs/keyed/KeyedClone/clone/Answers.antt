use Rattle.hmac_core.proofs.keyed.KeyedClone.clone.Goals as goal

pub returns : goal.returns
returns g c = record { cases = (c.in_ok-clone.ensures.cases, c.in_ok-clone-2.ensures.cases) }
