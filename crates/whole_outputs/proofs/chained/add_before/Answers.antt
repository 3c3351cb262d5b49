use Rattle.std.proofs.Common.{◌≡◌, ◌<◌, length, take, get_or, [], ap, ◌∙◌, arith, length-take}
use Rattle.std.specs.Simd.Lanes.{zip2}
use Rattle.std.proofs.lemmas.Simd.{length-zip2}
use Rattle.block_modes.specs.Texts.{xor_bytes}
use Rattle.block_modes.specs.Steps.{before_each}
use Rattle.block_modes.proofs.LaneLemmas.{filled_more, get_next, unchained_next, before_next_more, length-before_each}
use Rattle.whole_outputs.proofs.chained.add_before.Goals as goal

pub each-preserved : goal.each-preserved
each-preserved c =
    let within : c.each.i < length c.args.texts.now = omega arith in
    let here : c.each.i < length c.args.made.now = omega arith in
    let same : length c.args.texts.now ≡ length c.args.made.now = c.requires in
    let befores = before_each c.args.before (take c.each.i c.args.texts.now) in
    let done = zip2 xor_bytes (take c.each.i c.args.made.now) befores in
    let alike : length (take c.each.i c.args.made.now) ≡ length befores =
    omega (arith, length-take c.each.i c.args.texts.now, length-take c.each.i c.args.made.now, length-before_each c.args.before (take c.each.i c.args.texts.now)) in
    let size : length done ≡ c.each.i = omega (arith, length-zip2 xor_bytes (take c.each.i c.args.made.now) befores alike, length-take c.each.i c.args.made.now) in
    let block : get_or c.each.made c.each.i [] ≡ get_or c.args.made.now c.each.i [] = ap (λ l. get_or l c.each.i []) c.each.invariant.made ∙ get_next done c.args.made.now c.each.i [] size in
    record {
      made = filled_more _ _ _ c.args.made.now c.each.i _ c.each.invariant.made size here
          (unchained_next xor_bytes c.args.made.now c.args.texts.now c.args.before c.each.i _ here same
          (c.sum-block.ensures ∙ ap (λ t. xor_bytes t c.each.last) block ∙ ap (λ t. xor_bytes (get_or c.args.made.now c.each.i []) t) c.each.invariant.last));
      last = before_next_more c.args.before c.args.texts.now c.each.i within;
    }
