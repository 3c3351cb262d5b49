use Rattle.std.proofs.Common.{map, ◌∙◌, ap}
use Rattle.aes_core.specs.Tower.{look, first, second, out_first, out_second, out}
use Rattle.aes_core.proofs.TowerLemmas.{places_ok, first_places, second_places, sum_of_looks}
use Rattle.aes_core.proofs.tower.sub_out_of_tower.Goals as goal

pub look-requires : goal.look-requires
look-requires c = rw c.places.ensures.first (places_ok first c.args.y first_places c.fits-y.1)

pub look-requires-2 : goal.look-requires-2
look-requires-2 c = rw c.places.ensures.second (places_ok second c.args.y second_places c.fits-y.1)

pub returns : goal.returns
unfolding out
returns c =
    c.sum.ensures
    ∙ sum_of_looks out_first out_second first second c.args.y c.look.result c.look-2.result (c.look.ensures ∙ ap (map (look out_first)) c.places.ensures.first) (c.look-2.ensures ∙ ap (map (look out_second)) c.places.ensures.second)
