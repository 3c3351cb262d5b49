use Rattle.std.proofs.Common.{refl}
use Rattle.aes_wide.specs.Circuit.{run}
use Rattle.aes_wide.specs.Planes.{lanes}
use Rattle.aes_wide.specs.Gates.{bottom_gates, bottom_outs}
use Rattle.aes_wide.proofs.circuit.bottom.Goals as goal

pub returns : goal.returns
unfolding run lanes bottom_gates bottom_outs
returns c = rw c.requires refl
