use Rattle.std.proofs.Common.{◌≡◌, slice_index, refl}
use Rattle.aes_core.specs.State.{shift_rows, state_of}
use Rattle.aes_wide.specs.Steps.{turned}
use Rattle.aes_wide.specs.Planes.{lanes}
use Rattle.aes_wide.proofs.Lanes.{lanes_whole}
use Rattle.aes_wide.proofs.single.shifted_and_turned_once.Goals as goal

pub returns : goal.returns
unfolding turned shift_rows state_of lanes
returns c =
    let x : c.args.x ≡ lanes (slice_index c.args.x) = lanes_whole c.args.x c.fits-x.0 in
    rw x refl
