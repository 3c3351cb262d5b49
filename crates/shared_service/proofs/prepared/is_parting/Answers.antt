use Rattle.std.proofs.Common.{◌≡◌, ◌&&◌, Bool, true, false, refl}
use Rattle.shared_service.proofs.prepared.is_parting.Goals as goal

and_true : (b : Bool) → b ≡ (b && true)
and_true true = refl
and_true false = refl

pub returns-then-connected : goal.returns-then-connected
returns-then-connected c = rw (c.is_disconnect.ensures, c.if-connected.true) (and_true _)
