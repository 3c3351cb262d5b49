use Rattle.std.proofs.Common.{map, ◌∙◌, ap}
use Rattle.aes_core.specs.Tower.{look, low, high, to_low, to_high, to_tower}
use Rattle.aes_core.proofs.TowerLemmas.{places_ok, low_places, high_places, sum_of_looks}
use Rattle.aes_core.proofs.tower.to_tower.Goals as goal

pub look-front-requires : goal.look-front-requires
look-front-requires c = rw c.low.ensures (places_ok low c.args.x low_places c.fits-x.1)

pub look-back-requires : goal.look-back-requires
look-back-requires c = rw c.high.ensures (places_ok high c.args.x high_places c.fits-x.1)

pub returns : goal.returns
unfolding to_tower
returns c =
    c.sum.ensures
    ∙ sum_of_looks to_low to_high low high c.args.x c.look-front.result c.look-back.result (c.look-front.ensures ∙ ap (map (look to_low)) c.low.ensures) (c.look-back.ensures ∙ ap (map (look to_high)) c.high.ensures)
