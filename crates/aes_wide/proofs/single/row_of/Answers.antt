use Rattle.std.proofs.Common.{◌≡◌, ◌<◌, ◌≤◌, length, map, ◌∙◌, ap, arith, rules}
use Rattle.aes_core.specs.Expansion.{rounds_of}
use Rattle.aes_core.specs.KeyOf.{key_of}
use Rattle.aes_core.specs.State.{add_round_key}
use Rattle.aes_core.specs.Tower.{to_tower}
use Rattle.aes_wide.specs.Single.{towered}
use Rattle.aes_wide.specs.Steps.{constant}
use Rattle.aes_wide.proofs.SingleLemmas.{map_towered, constant_row, summed_long}
use Rattle.aes_wide.proofs.RowLemmas.{added_first, added_middle, added_last}
use Rattle.aes_wide.proofs.single.row_of.Goals as goal

pub returns-then-round-eq0 : goal.returns-then-round-eq0
returns-then-round-eq0 c =
    let none : c.args.round ≡ 0 = omega arith in
    let long : length c.round_key-key.result ≡ 16 = search rules in
    c.to_tower-bytes.ensures ∙ map_towered c.round_key-key.result long ∙ ap towered c.round_key-key.ensures ∙ added_first (key_of c.args.plain.now) c.args.round none

pub returns-then-round-rounds : goal.returns-then-round-rounds
returns-then-round-rounds c =
    let some : 0 < c.args.round = omega arith in
    let below : c.args.round < rounds_of (key_of c.args.plain.now) = omega (arith, c.rounds.ensures) in
    let moved : c.sum-moved.result ≡ add_round_key c.round_key-key.result constant = c.sum-moved.ensures ∙ ap (add_round_key c.round_key-key.result) constant_row in
    c.to_tower-bytes-then-round-rounds.ensures
    ∙ ap (map to_tower) moved
    ∙ map_towered (add_round_key c.round_key-key.result constant) (summed_long c.round_key-key.result constant)
    ∙ ap (λ t. towered (add_round_key t constant)) c.round_key-key.ensures
    ∙ added_middle (key_of c.args.plain.now) c.args.round some below

pub returns-else-round-rounds : goal.returns-else-round-rounds
returns-else-round-rounds c =
    let some : 0 < c.args.round = omega arith in
    let end : rounds_of (key_of c.args.plain.now) ≤ c.args.round = omega (arith, c.rounds.ensures) in
    c.sum-moved.ensures
    ∙ ap (add_round_key c.round_key-key.result) constant_row
    ∙ ap (λ t. add_round_key t constant) c.round_key-key.ensures
    ∙ added_last (key_of c.args.plain.now) c.args.round some end
