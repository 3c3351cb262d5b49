use Rattle.std.proofs.Common.{◌≡◌, ◌∙◌, ap}
use Rattle.aes_core.specs.State.{shift_rows, add_round_key}
use Rattle.aes_core.specs.Laws.StateLaws.{shift_rows_block}
use Rattle.aes_wide.specs.Single.{towered}
use Rattle.aes_wide.proofs.SingleLemmas.{shifted_towered, last_is}
use Rattle.aes_wide.proofs.single.last_tower_round.Goals as goal

pub returns : goal.returns
returns c s k bytes is_y is_key =
    let shifted : c.rows_shifted.result ≡ towered (shift_rows s) = c.rows_shifted.ensures ∙ ap shift_rows is_y ∙ shifted_towered s in
    c.sum.ensures ∙ ap (add_round_key c.sub_out_of_tower.result) is_key
    ∙ last_is s k c.rows_shifted.result c.sub_out_of_tower.result (shift_rows_block s bytes).bytes shifted c.sub_out_of_tower.ensures
