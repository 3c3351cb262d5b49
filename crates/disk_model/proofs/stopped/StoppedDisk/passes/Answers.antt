use Rattle.std.proofs.Common.{refl}
use Rattle.disk_model.proofs.stopped.StoppedDisk.passes.Goals as goal

pub returns-clause-left : goal.returns-clause-left
returns-clause-left g c = refl
