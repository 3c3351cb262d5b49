use Rattle.std.proofs.Common.{refl}
use Rattle.aes_core.specs.State.{state_of}
use Rattle.aes_core.specs.State.{inv_shift_rows}
use Rattle.aes_wide.specs.Planes.{lanes, block, by_rows, standing}
use Rattle.aes_wide.proofs.planes.rows_unshifted.Goals as goal

pub returns-clause-whole : goal.returns-clause-whole
unfolding lanes
returns-clause-whole c = rw c.requires refl

pub returns-clause-blocks : goal.returns-clause-blocks
unfolding lanes block by_rows standing inv_shift_rows state_of
returns-clause-blocks c = λ b. rw c.requires refl
