use Rattle.std.proofs.Common.{refl}
use Rattle.aes_wide.specs.Circuit.{run}
use Rattle.aes_wide.specs.Planes.{lanes}
use Rattle.aes_wide.specs.Gates.{products_gates, products_outs}
use Rattle.aes_wide.proofs.circuit.products.Goals as goal

pub returns : goal.returns
unfolding run lanes products_gates products_outs
returns c = rw (c.requires.t, c.requires.y) refl
