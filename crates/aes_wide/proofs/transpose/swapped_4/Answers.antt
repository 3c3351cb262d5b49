use Rattle.std.proofs.Common.{slice_index}
use Rattle.aes_wide.specs.Planes.{lanes}
use Rattle.aes_wide.specs.Swaps.{low_4, high_4}
use Rattle.aes_wide.proofs.Lanes.{lanes_same, lanes_whole, lane_below}
use Rattle.aes_wide.proofs.SwapLemmas.{first_4, second_4, first_at_4, second_at_4}
use Rattle.aes_wide.proofs.transpose.swapped_4.Goals as goal

pub returns-clause-low : goal.returns-clause-low
unfolding lanes
returns-clause-low c =
    let u = slice_index c.args.a in
    let w = slice_index c.args.b in
    rw (lanes_whole c.args.a c.fits-a.0, lanes_whole c.args.b c.fits-b.0)
    (lanes_same (λ j. first_4 (u j) (w j)) (λ j. low_4 (u j) (w j))
    (λ j h. first_at_4 (u j) (w j) (lane_below c.args.a c.fits-a.0 c.fits-a.1 j h) (lane_below c.args.b c.fits-b.0 c.fits-b.1 j h)))

pub returns-clause-high : goal.returns-clause-high
unfolding lanes
returns-clause-high c =
    let u = slice_index c.args.a in
    let w = slice_index c.args.b in
    rw (lanes_whole c.args.a c.fits-a.0, lanes_whole c.args.b c.fits-b.0)
    (lanes_same (λ j. second_4 (u j) (w j)) (λ j. high_4 (u j) (w j))
    (λ j h. second_at_4 (u j) (w j) (lane_below c.args.a c.fits-a.0 c.fits-a.1 j h) (lane_below c.args.b c.fits-b.0 c.fits-b.1 j h)))
