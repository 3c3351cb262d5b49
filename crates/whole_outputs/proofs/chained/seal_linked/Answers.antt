use Rattle.std.proofs.Common.{◌≡◌, ◌<◌, true, false, length, take, get_or, [], ap, ◌∙◌, arith, length-take}
use Rattle.tags.specs.declared.plan.Plan.TheVariants.{Cbc}
use Rattle.block_modes.specs.Texts.{xor_bytes}
use Rattle.block_modes.specs.Steps.{outs}
use Rattle.block_modes.proofs.LaneLemmas.{filled_more, outs_next, chain_next, length-outs}
use Rattle.cipher_ops.specs.Standing.{aes, aes_inverse}
use Rattle.whole_outputs.proofs.chained.seal_linked.Goals as goal

pub each-preserved : goal.each-preserved
each-preserved c =
    let e = aes c.args.cipher.now in
    let d = aes_inverse c.args.cipher.now in
    let within : c.each.i < length c.args.texts.now = omega arith in
    let size : length (outs e d (Cbc true false) c.args.before (take c.each.i c.args.texts.now)) ≡ c.each.i =
    omega (arith, length-outs e d (Cbc true false) c.args.before (take c.each.i c.args.texts.now), length-take c.each.i c.args.texts.now) in
    let out = c.encrypt-block.ensures ∙ ap e c.sum.ensures ∙ ap (λ t. e (xor_bytes (get_or c.args.texts.now c.each.i []) t)) c.each.invariant.chain in
    record {
      made = filled_more _ _ _ c.args.made.now c.each.i _ c.each.invariant.made size (omega arith) (outs_next e d (Cbc true false) c.args.before c.args.texts.now c.each.i _ within out);
      chain = out ∙ chain_next e d (Cbc true false) c.args.before c.args.texts.now c.each.i within;
    }
