use Rattle.std.proofs.Common.{refl}
use Rattle.aes_wide.specs.Circuit.{run}
use Rattle.aes_wide.specs.Planes.{lanes}
use Rattle.aes_wide.specs.Gates.{top_gates, top_outs}
use Rattle.aes_wide.proofs.circuit.top.Goals as goal

pub returns : goal.returns
unfolding run lanes top_gates top_outs
returns c = rw c.requires refl
