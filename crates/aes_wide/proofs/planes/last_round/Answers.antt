use Rattle.std.proofs.Common.{◌≡◌, ap, ◌∙◌}
use Rattle.aes_core.specs.State.{shift_rows, sub_bytes, add_round_key}
use Rattle.aes_wide.specs.Planes.{standing}
use Rattle.aes_wide.specs.Steps.{constant}
use Rattle.aes_wide.proofs.Standing.{sub_shifted}
use Rattle.aes_wide.proofs.StepLemmas.{boxed_standing}
use Rattle.aes_wide.proofs.MovedLemmas.{sum_moved}
use Rattle.aes_wide.proofs.planes.last_round.Goals as goal

pub returns-clause-blocks : goal.returns-clause-blocks
returns-clause-blocks c = λ b k.
    let s = standing c.args.x b in
    let boxed = standing c.boxed.result b in
    let is : add_round_key boxed constant ≡ shift_rows (sub_bytes s) =
    boxed_standing c.rows_shifted-shifted.result c.boxed.result b c.rows_shifted-shifted.ensures.whole c.boxed.ensures.columns ∙ ap sub_bytes (c.rows_shifted-shifted.ensures.blocks b) ∙ sub_shifted s in
    sum_moved boxed k ∙ ap (λ t. add_round_key t k) is
