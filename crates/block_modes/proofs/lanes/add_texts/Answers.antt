use Rattle.std.proofs.Common.{◌≡◌, ◌<◌, length, take, get_or, [], ap, ◌∙◌, arith, length-take}
use Rattle.std.specs.Simd.Lanes.{zip2}
use Rattle.std.proofs.lemmas.Simd.{length-zip2}
use Rattle.block_modes.specs.Texts.{xor_bytes}
use Rattle.block_modes.proofs.LaneLemmas.{filled_more, get_next, added_next}
use Rattle.block_modes.proofs.lanes.add_texts.Goals as goal

pub each-preserved : goal.each-preserved
each-preserved c =
    let within : c.each.i < length c.args.texts.now = omega arith in
    let same : length c.args.texts.now ≡ length c.args.keys.now = c.requires in
    let done = zip2 xor_bytes (take c.each.i c.args.texts.now) (take c.each.i c.args.keys.now) in
    let alike : length (take c.each.i c.args.texts.now) ≡ length (take c.each.i c.args.keys.now) = omega (arith, length-take c.each.i c.args.texts.now, length-take c.each.i c.args.keys.now) in
    let size : length done ≡ c.each.i = omega (arith, length-zip2 xor_bytes (take c.each.i c.args.texts.now) (take c.each.i c.args.keys.now) alike, length-take c.each.i c.args.texts.now) in
    let key : get_or c.each.keys c.each.i [] ≡ get_or c.args.keys.now c.each.i [] = ap (λ l. get_or l c.each.i []) c.each.invariant ∙ get_next done c.args.keys.now c.each.i [] size in
    filled_more _ _ _ c.args.keys.now c.each.i _ c.each.invariant size (omega arith)
    (added_next xor_bytes c.args.texts.now c.args.keys.now c.each.i _ within same (c.xor.ensures ∙ ap (λ t. xor_bytes (get_or c.args.texts.now c.each.i []) t) key))
