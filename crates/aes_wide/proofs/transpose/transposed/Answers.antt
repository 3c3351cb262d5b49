use Rattle.std.proofs.Common.{[], length, map, slice_index_or, refl, sym, ap, ◌∙◌}
use Rattle.std.specs.List.{range_with_len}
use Rattle.std.proofs.lemmas.List.FromFn.{fill_by_all}
use Rattle.aes_wide.specs.Planes.{block}
use Rattle.aes_wide.proofs.TransposeLemmas.{turned_about}
use Rattle.aes_wide.proofs.transpose.transposed.Goals as goal

pub returns : goal.returns
returns c =
    let listed = fill_by_all (λ i. slice_index_or c.args.x i []) c.args.x 8 [] (ap length c.requires) (λ k _. refl) in
    turned_about (slice_index_or c.args.x 0 []) (slice_index_or c.args.x 1 []) (slice_index_or c.args.x 2 []) (slice_index_or c.args.x 3 []) (slice_index_or c.args.x 4 []) (slice_index_or c.args.x 5 []) (slice_index_or c.args.x 6 []) (slice_index_or c.args.x 7 []) c.swapped_1.result.0 c.swapped_1.result.1 c.swapped_1-2.result.0 c.swapped_1-2.result.1 c.swapped_1-3.result.0 c.swapped_1-3.result.1 c.swapped_1-4.result.0 c.swapped_1-4.result.1 c.swapped_2.result.0 c.swapped_2-2.result.0 c.swapped_2.result.1 c.swapped_2-2.result.1 c.swapped_2-3.result.0 c.swapped_2-4.result.0 c.swapped_2-3.result.1 c.swapped_2-4.result.1 c.swapped_4.result.0 c.swapped_4-2.result.0 c.swapped_4-3.result.0 c.swapped_4-4.result.0 c.swapped_4.result.1 c.swapped_4-2.result.1 c.swapped_4-3.result.1 c.swapped_4-4.result.1
    c.swapped_1.ensures.low c.swapped_1.ensures.high c.swapped_1-2.ensures.low c.swapped_1-2.ensures.high c.swapped_1-3.ensures.low c.swapped_1-3.ensures.high c.swapped_1-4.ensures.low c.swapped_1-4.ensures.high c.swapped_2.ensures.low c.swapped_2-2.ensures.low c.swapped_2.ensures.high c.swapped_2-2.ensures.high c.swapped_2-3.ensures.low c.swapped_2-4.ensures.low c.swapped_2-3.ensures.high c.swapped_2-4.ensures.high c.swapped_4.ensures.low c.swapped_4-2.ensures.low c.swapped_4-3.ensures.low c.swapped_4-4.ensures.low c.swapped_4.ensures.high c.swapped_4-2.ensures.high c.swapped_4-3.ensures.high c.swapped_4-4.ensures.high
    ∙ ap (λ t. map (block t) (range_with_len 0 8)) (sym listed)
