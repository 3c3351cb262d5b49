use Rattle.std.proofs.Common.{◌++◌, ◌∷◌, [], sym, ap, ◌∙◌, arith}
use Rattle.block_modes.proofs.LaneLemmas.{filled_more}
use Rattle.whole_outputs.specs.Streams.{next_of, counters}
use Rattle.whole_outputs.proofs.KeyBytes.{raised_next, length-counters, counters_more}
use Rattle.whole_outputs.proofs.key_stream.put_counters.Goals as goal

pub each-preserved : goal.each-preserved
each-preserved c =
    let next = next_of c.args.counting in
    record {
      blocks = filled_more _ _ _ c.args.out.now c.each.i _ c.each.invariant.blocks (length-counters next c.each.i c.args.first) (omega arith)
          (counters_more next c.each.i c.args.first ∙ ap (λ b. counters next c.each.i c.args.first ++ b ∷ []) (sym c.each.invariant.next));
      next = c.next-more.ensures ∙ ap next c.each.invariant.next ∙ raised_next next c.each.i c.args.first;
    }
