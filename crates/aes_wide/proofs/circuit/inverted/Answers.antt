use Rattle.std.proofs.Common.{refl}
use Rattle.aes_wide.specs.Circuit.{run}
use Rattle.aes_wide.specs.Planes.{lanes}
use Rattle.aes_wide.specs.Gates.{inverted_gates, inverted_outs}
use Rattle.aes_wide.proofs.circuit.inverted.Goals as goal

pub returns : goal.returns
unfolding run lanes inverted_gates inverted_outs
returns c = rw c.requires refl
