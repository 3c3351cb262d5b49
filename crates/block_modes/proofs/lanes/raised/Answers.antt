use Rattle.std.proofs.Common.{◌<◌, ◌^◌, arith}
use Rattle.block_modes.proofs.LastByte.{last_up}
use Rattle.block_modes.proofs.lanes.raised.Goals as goal

pub returns : goal.returns
returns c =
    let small : c.args._number < 2 ^ 128 = omega arith in
    rw c.requires.spells (last_up c.args._number c.requires.last small)
