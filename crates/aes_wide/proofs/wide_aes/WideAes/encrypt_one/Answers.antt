use Rattle.std.proofs.Common.{◌≡◌, ◌-◌, ◌<◌, ◌≤◌, ◌+◌, ◌∙◌, ap, sym, arith}
use Rattle.aes_core.specs.Block.{IsBytes}
use Rattle.aes_core.specs.Cipher.{rounds}
use Rattle.aes_core.specs.Expansion.{key_expansion, round_key, rounds_of}
use Rattle.aes_core.specs.State.{sub_bytes, shift_rows, add_round_key}
use Rattle.aes_core.specs.Laws.AesLaws.{key_of_is_key}
use Rattle.aes_core.specs.Laws.ScheduleLaws.{key_expansion_bytes, round_key_bytes}
use Rattle.aes_core.specs.Laws.StateLaws.{add_round_key_block}
use Rattle.aes_wide.specs.WideKey.{wide_key_of}
use Rattle.aes_wide.specs.Single.{towered, row_at}
use Rattle.aes_wide.proofs.GroupLemmas.{rounds_few, rounds_some}
use Rattle.aes_wide.proofs.SingleLemmas.{row_block, map_towered, begun_in_tower}
use Rattle.aes_wide.proofs.RowLemmas.{added_middle, added_last, on_start, on_more, on_end}
use Rattle.aes_wide.proofs.wide_aes.WideAes.encrypt_one.Goals as goal

pub rounds-init : goal.rounds-init
rounds-init c =
    let key = wide_key_of c.args.self.now in
    let w = key_expansion key in
    let x = row_block c.args.x c.fits-x.0 c.fits-x.1 in
    let first : IsBytes (round_key w 0) = round_key_bytes w 0 (key_expansion_bytes key (key_of_is_key c.args.self.now.plain).bytes) in
    on_start w (add_round_key c.args.x (round_key w 0)) c.sum-state.result (add_round_key_block c.args.x (round_key w 0) x.bytes first).bytes
    (c.sum-state.ensures
    ∙ ap (λ t. add_round_key t (row_at c.args.self.now.rows 0)) (c.to_tower.ensures ∙ map_towered c.args.x c.fits-x.0)
    ∙ ap (add_round_key (towered c.args.x)) (c.args.self.now.has_rows 0 (omega arith))
    ∙ begun_in_tower c.args.x (round_key w 0) x.bytes first)

pub offset_bounds-self-done : goal.offset_bounds-self-done
offset_bounds-self-done c = omega (arith, c.rounds-count.ensures, rounds_few c.args.self.now.plain)

pub bounds-self-done : goal.bounds-self-done
bounds-self-done c = omega (arith, c.rounds-count.ensures, rounds_few c.args.self.now.plain)

pub rounds-preserved : goal.rounds-preserved
rounds-preserved c =
    let key = wide_key_of c.args.self.now in
    let w = key_expansion key in
    let n = c.rounds.done + 1 in
    let some : 0 < n = omega arith in
    let below : n < rounds_of key = omega (arith, c.rounds-count.ensures) in
    let few : n ≤ rounds_of key = omega (arith, below) in
    let bytes : IsBytes (round_key w n) = round_key_bytes w n (key_expansion_bytes key (key_of_is_key c.args.self.now.plain).bytes) in
    let start = add_round_key c.args.x (round_key w 0) in
    on_more w c.rounds.done start c.rounds.state c.tower_round-next.result c.rounds.invariant bytes
    (c.tower_round-next.ensures (rounds w c.rounds.done start) (round_key w n) c.rounds.invariant.bytes bytes c.rounds.invariant.is (c.args.self.now.has_rows n few ∙ sym (added_middle key n some below)))

pub offset_bounds-self-count : goal.offset_bounds-self-count
offset_bounds-self-count c = omega (arith, c.rounds-count.ensures, rounds_few c.args.self.now.plain)

pub bounds-self-count : goal.bounds-self-count
bounds-self-count c = omega (arith, c.rounds-count.ensures, rounds_few c.args.self.now.plain)

pub returns : goal.returns
returns c =
    let key = wide_key_of c.args.self.now in
    let w = key_expansion key in
    let n = c.rounds-count.result in
    let is_count : n ≡ rounds_of key = c.rounds-count.ensures in
    let some : 0 < n = omega (arith, is_count, rounds_some c.args.self.now.plain) in
    let few : n ≤ rounds_of key = omega (arith, is_count) in
    let end : rounds_of key ≤ n = omega (arith, is_count) in
    let all : c.rounds.done ≡ rounds_of key - 1 = omega (arith, is_count, rounds_some c.args.self.now.plain) in
    let start = add_round_key c.args.x (round_key w 0) in
    let state = rounds w c.rounds.done start in
    on_end key c.args.x c.last_tower_round.result c.rounds.done all
    (c.last_tower_round.ensures state (round_key w n) c.rounds.invariant.bytes c.rounds.invariant.is (c.args.self.now.has_rows n few ∙ sym (added_last key n some end))
    ∙ ap (λ m. add_round_key (shift_rows (sub_bytes state)) (round_key w m)) is_count)
