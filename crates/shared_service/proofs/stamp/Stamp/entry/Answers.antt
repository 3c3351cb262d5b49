use Rattle.std.proofs.Common.{refl}
use Rattle.shared_service.proofs.stamp.Stamp.entry.Goals as goal

pub returns : goal.returns
returns c = refl
