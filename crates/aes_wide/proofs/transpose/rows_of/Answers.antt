use Rattle.std.proofs.Common.{refl}
use Rattle.aes_core.specs.State.{state_of}
use Rattle.aes_wide.specs.Planes.{lanes, by_rows}
use Rattle.aes_wide.proofs.transpose.rows_of.Goals as goal

pub returns : goal.returns
unfolding lanes by_rows state_of
returns c = rw c.requires refl
