use Rattle.hmac_core.proofs.mac.digest_size.Goals as goal

pub returns-in-5 : goal.returns-in-5
returns-in-5 c = rw c.in-5.is
