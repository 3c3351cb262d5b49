use Rattle.std.proofs.Common.{map, ◌∙◌, ap}
use Rattle.aes_core.specs.Tower.{look, first, second, once_first, once_second, twice_first, twice_second, once, twice}
use Rattle.aes_core.proofs.TowerLemmas.{places_ok, first_places, second_places, sum_of_looks}
use Rattle.aes_core.proofs.tower.sub_in_tower.Goals as goal

pub look-requires : goal.look-requires
look-requires c = rw c.places.ensures.first (places_ok first c.args.y first_places c.fits-y.1)

pub look-requires-2 : goal.look-requires-2
look-requires-2 c = rw c.places.ensures.second (places_ok second c.args.y second_places c.fits-y.1)

pub look-requires-3 : goal.look-requires-3
look-requires-3 c = rw c.places.ensures.first (places_ok first c.args.y first_places c.fits-y.1)

pub look-requires-4 : goal.look-requires-4
look-requires-4 c = rw c.places.ensures.second (places_ok second c.args.y second_places c.fits-y.1)

pub returns-clause-once : goal.returns-clause-once
unfolding once
returns-clause-once c =
    c.sum-once.ensures
    ∙ sum_of_looks once_first once_second first second c.args.y c.look.result c.look-2.result (c.look.ensures ∙ ap (map (look once_first)) c.places.ensures.first) (c.look-2.ensures ∙ ap (map (look once_second)) c.places.ensures.second)

pub returns-clause-twice : goal.returns-clause-twice
unfolding twice
returns-clause-twice c =
    c.sum-twice.ensures
    ∙ sum_of_looks twice_first twice_second first second c.args.y c.look-3.result c.look-4.result (c.look-3.ensures ∙ ap (map (look twice_first)) c.places.ensures.first) (c.look-4.ensures ∙ ap (map (look twice_second)) c.places.ensures.second)
