use Rattle.std.proofs.Common.{◌≡◌, map, ◌∙◌, ap}
use Rattle.std.specs.Int.Bits.{bit_xor}
use Rattle.std.proofs.lemmas.Simd.{zip2_of_maps}
use Rattle.aes_core.specs.Tower.{look, low, high, inverses, ratios, over_high, over_both, first, second}
use Rattle.aes_core.proofs.TowerLemmas.{places_ok, low_places, high_places, both_places, over_high_places, over_both_places, sum_of_looks, sum_of_look}
use Rattle.aes_core.proofs.tower.places.Goals as goal

pub look-ratio-requires : goal.look-ratio-requires
look-ratio-requires c = rw c.low-k.ensures (places_ok low c.args.y low_places c.fits-y.1)

pub look-requires : goal.look-requires
look-requires c = rw c.high-i.ensures (places_ok high c.args.y high_places c.fits-y.1)

pub look-requires-2 : goal.look-requires-2
look-requires-2 c =
    let j : c.sum-j.result ≡ map (λ v. bit_xor (high v) (low v)) c.args.y = c.sum-j.ensures ∙ zip2_of_maps bit_xor high low c.args.y c.high-i.ensures c.low-k.ensures in
    rw j (places_ok (λ v. bit_xor (high v) (low v)) c.args.y both_places c.fits-y.1)

pub look-requires-3 : goal.look-requires-3
look-requires-3 c =
    let over : c.sum-over_i.result ≡ map over_high c.args.y =
    c.sum-over_i.ensures
    ∙ sum_of_looks inverses ratios high low c.args.y c.look.result c.look-ratio.result (c.look.ensures ∙ ap (map (look inverses)) c.high-i.ensures) (c.look-ratio.ensures ∙ ap (map (look ratios)) c.low-k.ensures) in
    rw over (places_ok over_high c.args.y over_high_places c.fits-y.1)

pub look-requires-4 : goal.look-requires-4
look-requires-4 c =
    let j : c.sum-j.result ≡ map (λ v. bit_xor (high v) (low v)) c.args.y = c.sum-j.ensures ∙ zip2_of_maps bit_xor high low c.args.y c.high-i.ensures c.low-k.ensures in
    let over : c.sum-over_j.result ≡ map over_both c.args.y =
    c.sum-over_j.ensures
    ∙ sum_of_looks inverses ratios (λ v. bit_xor (high v) (low v)) low c.args.y c.look-2.result c.look-ratio.result (c.look-2.ensures ∙ ap (map (look inverses)) j)
    (c.look-ratio.ensures ∙ ap (map (look ratios)) c.low-k.ensures) in
    rw over (places_ok over_both c.args.y over_both_places c.fits-y.1)

pub returns-clause-first : goal.returns-clause-first
unfolding first
returns-clause-first c =
    let j : c.sum-j.result ≡ map (λ v. bit_xor (high v) (low v)) c.args.y = c.sum-j.ensures ∙ zip2_of_maps bit_xor high low c.args.y c.high-i.ensures c.low-k.ensures in
    let over : c.sum-over_i.result ≡ map over_high c.args.y =
    c.sum-over_i.ensures
    ∙ sum_of_looks inverses ratios high low c.args.y c.look.result c.look-ratio.result (c.look.ensures ∙ ap (map (look inverses)) c.high-i.ensures) (c.look-ratio.ensures ∙ ap (map (look ratios)) c.low-k.ensures) in
    c.sum.ensures ∙ sum_of_look inverses over_high (λ v. bit_xor (high v) (low v)) c.args.y c.look-3.result c.sum-j.result (c.look-3.ensures ∙ ap (map (look inverses)) over) j

pub returns-clause-second : goal.returns-clause-second
unfolding second
returns-clause-second c =
    let j : c.sum-j.result ≡ map (λ v. bit_xor (high v) (low v)) c.args.y = c.sum-j.ensures ∙ zip2_of_maps bit_xor high low c.args.y c.high-i.ensures c.low-k.ensures in
    let over : c.sum-over_j.result ≡ map over_both c.args.y =
    c.sum-over_j.ensures
    ∙ sum_of_looks inverses ratios (λ v. bit_xor (high v) (low v)) low c.args.y c.look-2.result c.look-ratio.result (c.look-2.ensures ∙ ap (map (look inverses)) j)
    (c.look-ratio.ensures ∙ ap (map (look ratios)) c.low-k.ensures) in
    c.sum-2.ensures ∙ sum_of_look inverses over_both high c.args.y c.look-4.result c.high-i.result (c.look-4.ensures ∙ ap (map (look inverses)) over) c.high-i.ensures
