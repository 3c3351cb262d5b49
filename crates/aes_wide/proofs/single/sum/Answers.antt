use Rattle.std.proofs.Common.{◌≡◌, slice_index, refl}
use Rattle.aes_core.specs.State.{add_round_key, state_of}
use Rattle.aes_wide.specs.Planes.{lanes}
use Rattle.aes_wide.proofs.Lanes.{lanes_whole}
use Rattle.aes_wide.proofs.single.sum.Goals as goal

pub returns : goal.returns
unfolding add_round_key state_of lanes
returns c =
    let a : c.args.a ≡ lanes (slice_index c.args.a) = lanes_whole c.args.a c.fits-a.0 in
    let b : c.args.b ≡ lanes (slice_index c.args.b) = lanes_whole c.args.b c.fits-b.0 in
    rw (a, b) refl
