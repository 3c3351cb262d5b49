use Rattle.std.proofs.Common.{refl}
use Rattle.aes_wide.specs.Circuit.{run}
use Rattle.aes_wide.specs.Planes.{lanes}
use Rattle.aes_wide.specs.Gates.{unlinear_gates, unlinear_outs}
use Rattle.aes_wide.proofs.circuit.unlinear.Goals as goal

pub returns : goal.returns
unfolding run lanes unlinear_gates unlinear_outs
returns c = rw c.requires refl
