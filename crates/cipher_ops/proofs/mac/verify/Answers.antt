use Rattle.std.proofs.Common.{refl}
use Rattle.cipher_ops.proofs.mac.verify.Goals as goal

pub returns-in_default : goal.returns-in_default
returns-in_default c = λ digest key text held. rw c.in_default.is refl
