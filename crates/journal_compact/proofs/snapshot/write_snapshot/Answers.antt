-- The rows are gathered, and the closing byte behind them.
use Rattle.std.proofs.Common.{◌+◌, List, [], ◌∷◌, ◌++◌, length, take, set, subst, arith, rules, length-take}
use Rattle.std.specs.Prelude.{map, reverse}
use Rattle.journal_records.specs.declared.record.Record.{Record}
use Rattle.journal_records.specs.Spelling.{spelled}
use Rattle.journal_records.specs.Storable.{held_key, snapshot_length}
use Rattle.gated_records.specs.Areas.{HoldsAt}
use Rattle.journal_compact.specs.Gathering.{AllAhead}
use Rattle.journal_compact.proofs.Adding.{closed, cut, with_closed}
use Rattle.journal_compact.proofs.Whole.{all_rows, first_gathered, first_row, snapshot_within}
use Rattle.journal_compact.proofs.snapshot.write_snapshot.Goals as goal

pub put_keys-requires-clause-end : goal.put_keys-requires-clause-end
put_keys-requires-clause-end g c =
    let part = g.K.Held.part c.args.keys.now in
    omega (arith, c.frame_next_into-count.ensures.count, c.requires.place, snapshot_within part c.requires.storable)

pub put_grants-requires-clause-end : goal.put_grants-requires-clause-end
put_grants-requires-clause-end g c =
    let part = g.K.Held.part c.args.keys.now in
    omega (arith, c.in-Ok.ensures.end, c.frame_next_into-count.ensures.count, c.requires.place, snapshot_within part c.requires.storable)

pub returns-in_default-clause-torn : goal.returns-in_default-clause-torn
returns-in_default-clause-torn g c =
    let part = g.K.Held.part c.args.keys.now in
    let most = snapshot_length part + 1 in
    let one = first_gathered g.D.Disk c.args.disk.now part c.args.at c.next_numbers-key.result c.frame_next_into-count.result c.frame_next_into-count.new.out c.next_numbers-key.ensures c.frame_next_into-count.ensures.count
    (search rules) c.frame_next_into-count.ensures.front in
    let is = c.in_default.ensures.gathers c.args.disk.now c.args.at most (first_row part ∷ []) one (omega (arith, c.frame_next_into-count.ensures.count)) in
    is.torn

pub returns-in_default-clause-passes : goal.returns-in_default-clause-passes
returns-in_default-clause-passes g c =
    let part = g.K.Held.part c.args.keys.now in
    let most = snapshot_length part + 1 in
    let one = first_gathered g.D.Disk c.args.disk.now part c.args.at c.next_numbers-key.result c.frame_next_into-count.result c.frame_next_into-count.new.out c.next_numbers-key.ensures c.frame_next_into-count.ensures.count
    (search rules) c.frame_next_into-count.ensures.front in
    let is = c.in_default.ensures.gathers c.args.disk.now c.args.at most (first_row part ∷ []) one (omega (arith, c.frame_next_into-count.ensures.count)) in
    is.passes

pub returns-in_default-put_grants-clause-torn : goal.returns-in_default-put_grants-clause-torn
returns-in_default-put_grants-clause-torn g c =
    let part = g.K.Held.part c.args.keys.now in
    let most = snapshot_length part + 1 in
    let one = first_gathered g.D.Disk c.args.disk.now part c.args.at c.next_numbers-key.result c.frame_next_into-count.result c.frame_next_into-count.new.out c.next_numbers-key.ensures c.frame_next_into-count.ensures.count
    (search rules) c.frame_next_into-count.ensures.front in
    let two = c.in-Ok.ensures.gathers c.args.disk.now c.args.at most (first_row part ∷ []) one (omega (arith, c.frame_next_into-count.ensures.count)) in
    let is = c.in_default-put_grants.ensures.gathers c.args.disk.now c.args.at most (reverse (map held_key part.keys) ++ first_row part ∷ []) two (omega (arith, c.in-Ok.ensures.end, c.frame_next_into-count.ensures.count)) in
    is.torn

pub returns-in_default-put_grants-clause-passes : goal.returns-in_default-put_grants-clause-passes
returns-in_default-put_grants-clause-passes g c =
    let part = g.K.Held.part c.args.keys.now in
    let most = snapshot_length part + 1 in
    let one = first_gathered g.D.Disk c.args.disk.now part c.args.at c.next_numbers-key.result c.frame_next_into-count.result c.frame_next_into-count.new.out c.next_numbers-key.ensures c.frame_next_into-count.ensures.count
    (search rules) c.frame_next_into-count.ensures.front in
    let two = c.in-Ok.ensures.gathers c.args.disk.now c.args.at most (first_row part ∷ []) one (omega (arith, c.frame_next_into-count.ensures.count)) in
    let is = c.in_default-put_grants.ensures.gathers c.args.disk.now c.args.at most (reverse (map held_key part.keys) ++ first_row part ∷ []) two (omega (arith, c.in-Ok.ensures.end, c.frame_next_into-count.ensures.count)) in
    is.passes

pub returns-in_default-write_ahead-clause-torn : goal.returns-in_default-write_ahead-clause-torn
returns-in_default-write_ahead-clause-torn g c =
    let part = g.K.Held.part c.args.keys.now in
    let most = snapshot_length part + 1 in
    let one = first_gathered g.D.Disk c.args.disk.now part c.args.at c.next_numbers-key.result c.frame_next_into-count.result c.frame_next_into-count.new.out c.next_numbers-key.ensures c.frame_next_into-count.ensures.count
    (search rules) c.frame_next_into-count.ensures.front in
    let two = c.in-Ok.ensures.gathers c.args.disk.now c.args.at most (first_row part ∷ []) one (omega (arith, c.frame_next_into-count.ensures.count)) in
    let three = c.in-Ok-put_grants.ensures.gathers c.args.disk.now c.args.at most (reverse (map held_key part.keys) ++ first_row part ∷ []) two (omega (arith, c.in-Ok.ensures.end, c.frame_next_into-count.ensures.count)) in
    let rows = c.in-Ok-put_grants.rows in
    let bytes = c.put_grants.new.bytes in
    let is = cut g.D.Disk c.args.disk.now c.put_grants.new.disk c.write_ahead.new.disk c.args.at most rows bytes _ three (length (take (rows.count + 1) (set bytes rows.count 0))) (omega (arith, length-take (rows.count + 1) (set bytes rows.count 0)))
    c.write_ahead.ensures.torn c.write_ahead.ensures.passes in
    is.torn

pub returns-in_default-write_ahead-clause-passes : goal.returns-in_default-write_ahead-clause-passes
returns-in_default-write_ahead-clause-passes g c =
    let part = g.K.Held.part c.args.keys.now in
    let most = snapshot_length part + 1 in
    let one = first_gathered g.D.Disk c.args.disk.now part c.args.at c.next_numbers-key.result c.frame_next_into-count.result c.frame_next_into-count.new.out c.next_numbers-key.ensures c.frame_next_into-count.ensures.count
    (search rules) c.frame_next_into-count.ensures.front in
    let two = c.in-Ok.ensures.gathers c.args.disk.now c.args.at most (first_row part ∷ []) one (omega (arith, c.frame_next_into-count.ensures.count)) in
    let three = c.in-Ok-put_grants.ensures.gathers c.args.disk.now c.args.at most (reverse (map held_key part.keys) ++ first_row part ∷ []) two (omega (arith, c.in-Ok.ensures.end, c.frame_next_into-count.ensures.count)) in
    let rows = c.in-Ok-put_grants.rows in
    let bytes = c.put_grants.new.bytes in
    let is = cut g.D.Disk c.args.disk.now c.put_grants.new.disk c.write_ahead.new.disk c.args.at most rows bytes _ three (length (take (rows.count + 1) (set bytes rows.count 0))) (omega (arith, length-take (rows.count + 1) (set bytes rows.count 0)))
    c.write_ahead.ensures.torn c.write_ahead.ensures.passes in
    is.passes

pub returns-clause-torn : goal.returns-clause-torn
returns-clause-torn g c =
    let part = g.K.Held.part c.args.keys.now in
    let most = snapshot_length part + 1 in
    let one = first_gathered g.D.Disk c.args.disk.now part c.args.at c.next_numbers-key.result c.frame_next_into-count.result c.frame_next_into-count.new.out c.next_numbers-key.ensures c.frame_next_into-count.ensures.count
    (search rules) c.frame_next_into-count.ensures.front in
    let two = c.in-Ok.ensures.gathers c.args.disk.now c.args.at most (first_row part ∷ []) one (omega (arith, c.frame_next_into-count.ensures.count)) in
    let three = c.in-Ok-put_grants.ensures.gathers c.args.disk.now c.args.at most (reverse (map held_key part.keys) ++ first_row part ∷ []) two (omega (arith, c.in-Ok.ensures.end, c.frame_next_into-count.ensures.count)) in
    let rows = c.in-Ok-put_grants.rows in
    let bytes = c.put_grants.new.bytes in
    let is = cut g.D.Disk c.args.disk.now c.put_grants.new.disk c.write_ahead.new.disk c.args.at most rows bytes _ three (length (take (rows.count + 1) (set bytes rows.count 0))) (omega (arith, length-take (rows.count + 1) (set bytes rows.count 0)))
    c.write_ahead.ensures.torn c.write_ahead.ensures.passes in
    is.torn

pub returns-clause-passes : goal.returns-clause-passes
returns-clause-passes g c =
    let part = g.K.Held.part c.args.keys.now in
    let most = snapshot_length part + 1 in
    let one = first_gathered g.D.Disk c.args.disk.now part c.args.at c.next_numbers-key.result c.frame_next_into-count.result c.frame_next_into-count.new.out c.next_numbers-key.ensures c.frame_next_into-count.ensures.count
    (search rules) c.frame_next_into-count.ensures.front in
    let two = c.in-Ok.ensures.gathers c.args.disk.now c.args.at most (first_row part ∷ []) one (omega (arith, c.frame_next_into-count.ensures.count)) in
    let three = c.in-Ok-put_grants.ensures.gathers c.args.disk.now c.args.at most (reverse (map held_key part.keys) ++ first_row part ∷ []) two (omega (arith, c.in-Ok.ensures.end, c.frame_next_into-count.ensures.count)) in
    let rows = c.in-Ok-put_grants.rows in
    let bytes = c.put_grants.new.bytes in
    let is = cut g.D.Disk c.args.disk.now c.put_grants.new.disk c.write_ahead.new.disk c.args.at most rows bytes _ three (length (take (rows.count + 1) (set bytes rows.count 0))) (omega (arith, length-take (rows.count + 1) (set bytes rows.count 0)))
    c.write_ahead.ensures.torn c.write_ahead.ensures.passes in
    is.passes

pub overflow_add-result : goal.overflow_add-result
overflow_add-result g c =
    let part = g.K.Held.part c.args.keys.now in
    omega (arith, c.in-Ok-put_grants.ensures.end, c.in-Ok.ensures.end, c.frame_next_into-count.ensures.count, c.requires.place, snapshot_within part c.requires.storable)

pub returns-clause-ahead : goal.returns-clause-ahead
returns-clause-ahead g c =
    let part = g.K.Held.part c.args.keys.now in
    let most = snapshot_length part + 1 in
    let one = first_gathered g.D.Disk c.args.disk.now part c.args.at c.next_numbers-key.result c.frame_next_into-count.result c.frame_next_into-count.new.out c.next_numbers-key.ensures c.frame_next_into-count.ensures.count
    (search rules) c.frame_next_into-count.ensures.front in
    let two = c.in-Ok.ensures.gathers c.args.disk.now c.args.at most (first_row part ∷ []) one (omega (arith, c.frame_next_into-count.ensures.count)) in
    let three = c.in-Ok-put_grants.ensures.gathers c.args.disk.now c.args.at most (reverse (map held_key part.keys) ++ first_row part ∷ []) two (omega (arith, c.in-Ok.ensures.end, c.frame_next_into-count.ensures.count)) in
    let rows = c.in-Ok-put_grants.rows in
    let bytes = c.put_grants.new.bytes in
    subst (λ (told : List Record). AllAhead g.D.Disk c.write_ahead.new.disk (HoldsAt c.args.at (spelled told ++ 0 ∷ []))) (all_rows part)
    (closed g.D.Disk c.args.disk.now c.put_grants.new.disk c.write_ahead.new.disk c.args.at most rows bytes _ three (take (rows.count + 1) (set bytes rows.count 0)) (with_closed rows.count bytes c.in-Ok-put_grants.ensures.count) c.in-Ok-write_ahead.ensures.ahead)
