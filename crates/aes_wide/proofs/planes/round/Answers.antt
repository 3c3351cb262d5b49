use Rattle.std.proofs.Common.{◌≡◌, ap, subst, sym, ◌∙◌}
use Rattle.aes_core.specs.Block.{IsBytes}
use Rattle.aes_core.specs.State.{shift_rows, sub_bytes, mix_columns, add_round_key}
use Rattle.aes_wide.specs.Planes.{standing, at}
use Rattle.aes_wide.specs.Steps.{constant}
use Rattle.aes_wide.proofs.Standing.{sub_shifted}
use Rattle.aes_wide.proofs.StepLemmas.{boxed_standing, standing_whole}
use Rattle.aes_wide.proofs.MovedLemmas.{sum_moved, mix_moved}
use Rattle.aes_wide.proofs.planes.round.Goals as goal

pub returns-clause-blocks : goal.returns-clause-blocks
returns-clause-blocks c = λ b k.
    let s = standing c.args.x b in
    let boxed = standing c.boxed.result b in
    let bytes : IsBytes boxed = subst (λ t. IsBytes (standing t b)) (sym c.boxed.ensures.whole) (standing_whole (at c.boxed.result) b).bytes in
    let is : add_round_key boxed constant ≡ shift_rows (sub_bytes s) =
    boxed_standing c.rows_shifted.result c.boxed.result b c.rows_shifted.ensures.whole c.boxed.ensures.columns ∙ ap sub_bytes (c.rows_shifted.ensures.blocks b) ∙ sub_shifted s in
    ap (λ t. add_round_key t (add_round_key k constant)) (c.mixed.ensures.blocks b)
    ∙ sum_moved (mix_columns boxed) k
    ∙ ap (λ t. add_round_key t k) (sym (mix_moved boxed bytes) ∙ ap mix_columns is)
