use Rattle.std.proofs.Common.{refl}
use Rattle.aes_wide.specs.Circuit.{run}
use Rattle.aes_wide.specs.Planes.{lanes}
use Rattle.aes_wide.specs.Steps.{double_gates, double_outs}
use Rattle.aes_wide.proofs.planes.doubled_planes.Goals as goal

pub returns : goal.returns
unfolding run lanes double_gates double_outs
returns c = rw c.requires refl
