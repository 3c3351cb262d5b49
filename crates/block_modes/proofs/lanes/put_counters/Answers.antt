use Rattle.std.proofs.Common.{◌+◌, ◌%◌, ◌^◌, ◌<◌, ◌++◌, ◌∷◌, [], sym, ap, ◌∙◌, arith, rules}
use Rattle.std.specs.Int.{w128, to_be_bytes}
use Rattle.std.proofs.lemmas.List.{length-set}
use Rattle.block_modes.specs.Steps.{counter_blocks}
use Rattle.block_modes.proofs.LaneLemmas.{filled_more, counters_next, number_next, length-counter_blocks}
use Rattle.block_modes.proofs.lanes.put_counters.Goals as goal

pub each-init : goal.each-init
each-init c = record {
  blocks = search rules;
  spells = c.to_be_bytes-block.ensures;
  next = c.to_be_bytes-block.ensures ∙ ap (λ k. to_be_bytes w128 ((k + 1) % 2 ^ 128)) c.from_be_bytes-number.ensures;
}

pub each-preserved : goal.each-preserved
each-preserved c =
    let small : c.each.number < 2 ^ 128 = omega arith in
    record {
      blocks = filled_more _ _ _ c.args.out.now c.each.i _ c.each.invariant.blocks (length-counter_blocks c.each.i c.args.first) (omega (arith, length-set c.args.out.now 0 c.args.first))
          (counters_next c.each.i c.args.first ∙ ap (λ b. counter_blocks c.each.i c.args.first ++ b ∷ []) (sym c.each.invariant.next));
      spells = c.next_block-next.ensures;
      next = c.next_block-next.ensures ∙ number_next c.each.i c.args.first c.each.number small (sym c.each.invariant.spells ∙ c.each.invariant.next);
    }
