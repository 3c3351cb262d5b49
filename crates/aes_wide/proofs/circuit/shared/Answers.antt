use Rattle.std.proofs.Common.{refl}
use Rattle.aes_wide.specs.Circuit.{run}
use Rattle.aes_wide.specs.Planes.{lanes}
use Rattle.aes_wide.specs.Gates.{shared_gates, shared_outs}
use Rattle.aes_wide.proofs.circuit.shared.Goals as goal

pub returns : goal.returns
unfolding run lanes shared_gates shared_outs
returns c = rw c.requires refl
