use Rattle.std.proofs.Common.{◌≡◌, ◌∙◌, ap}
use Rattle.aes_core.specs.State.{shift_rows, add_round_key}
use Rattle.aes_core.specs.Laws.StateLaws.{shift_rows_block}
use Rattle.aes_wide.specs.Single.{towered}
use Rattle.aes_wide.specs.Steps.{turned, constant}
use Rattle.aes_wide.proofs.SingleLemmas.{round_is}
use Rattle.aes_wide.proofs.single.tower_round.Goals as goal

pub returns : goal.returns
returns c s k bytes key_bytes is_y is_key =
    let a = c.sub_in_tower.result.0 in
    let d = c.sub_in_tower.result.1 in
    let half : c.sum-half.result ≡ add_round_key (shift_rows d) (turned 1 (shift_rows a)) =
    c.sum-half.ensures ∙ ap (λ t. add_round_key t c.shifted_and_turned_once.result) c.rows_shifted.ensures ∙ ap (add_round_key (shift_rows d)) c.shifted_and_turned_once.ensures in
    let rest : c.sum-rest.result ≡ add_round_key (turned 3 (shift_rows a)) (towered (add_round_key k constant)) =
    c.sum-rest.ensures ∙ ap (λ t. add_round_key t c.args.key) c.shifted_and_turned_thrice.ensures ∙ ap (add_round_key (turned 3 (shift_rows a))) is_key in
    c.sum-2.ensures
    ∙ rw (c.sum.ensures, c.turned_once.ensures, half, rest)
    (round_is s k c.args.y a d bytes (shift_rows_block s bytes).bytes key_bytes is_y c.sub_in_tower.ensures.once c.sub_in_tower.ensures.twice)
