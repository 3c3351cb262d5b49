use Rattle.std.proofs.Common.{◌≡◌, Some, sym, ap, ◌∙◌, arith}
use Rattle.std.specs.Prelude.{reverse}
use Rattle.std.specs.Option.{option_map}
use Rattle.ks_outside.proofs.Joins.{passes_none}
use Rattle.journal_records.specs.Storable.{snapshot, snapshot_length}
use Rattle.journal_compact.proofs.Whole.{snapshot_within}
use Rattle.journal_compact.specs.Holding.{record_bytes}
use Rattle.lasting_table.specs.TableView.{lasting_in}
use Rattle.key_database.specs.Compacting.{extent_of, is_due}
use Rattle.key_database.specs.Store.{StandsFor, left_by, part_of}
use Rattle.key_database.proofs.Compacted.{turned_passes, turned_to}
use Rattle.key_database.proofs.Extents.{not_due, stays, turned_fits, turned_within, turns_if}
use Rattle.key_database.proofs.Addings.{kept_surely}
use Rattle.key_database.proofs.Steps.{stays_surely, turned_surely}
use Rattle.key_database.proofs.compacting.compact_if_due.Goals as goal

pub returns-then-not-is_due-clause-passes : goal.returns-then-not-is_due-clause-passes
returns-then-not-is_due-clause-passes g c = λ kept. passes_none g.D.Disk c.args.disk.now (StandsFor (lasting_in c.args.table.now))

pub returns-then-not-is_due-clause-compacts : goal.returns-then-not-is_due-clause-compacts
returns-then-not-is_due-clause-compacts g c =
    stays (is_due (record_bytes c.args.areas.now) (snapshot_length (lasting_in c.args.table.now)) c.args.count) (snapshot_length (lasting_in c.args.table.now)) (extent_of c.args.areas.now)
    (sym c.is_due.ensures ∙ c.if-not-is_due.true)

pub returns-then-not-is_due-clause-bounded : goal.returns-then-not-is_due-clause-bounded
returns-then-not-is_due-clause-bounded g c = (not_due (record_bytes c.args.areas.now) (snapshot_length (lasting_in c.args.table.now)) c.args.count (sym c.is_due.ensures ∙ c.if-not-is_due.true)).0

pub returns-then-not-is_due-clause-fits : goal.returns-then-not-is_due-clause-fits
returns-then-not-is_due-clause-fits g c = (not_due (record_bytes c.args.areas.now) (snapshot_length (lasting_in c.args.table.now)) c.args.count (sym c.is_due.ensures ∙ c.if-not-is_due.true)).1

pub returns-clause-turned : goal.returns-clause-turned
returns-clause-turned g c = λ kept.
    let part = lasting_in c.args.table.now in
    let rows = reverse (snapshot part) in
    let same : left_by rows ≡ Some part = ap (option_map part_of) (c.storable_law.ensures.restores part c.storable.ensures) in
    turned_to g.D.Disk c.args.areas.now c.compact.new.self c.args.disk.now c.compact.new.disk part rows same kept c.compact.result c.compact.ensures.compacts

pub returns-clause-passes : goal.returns-clause-passes
returns-clause-passes g c = λ kept.
    let part = lasting_in c.args.table.now in
    let rows = reverse (snapshot part) in
    let same : left_by rows ≡ Some part = ap (option_map part_of) (c.storable_law.ensures.restores part c.storable.ensures) in
    turned_passes g.D.Disk c.args.areas.now c.compact.new.self c.args.disk.now c.compact.new.disk part rows same kept c.compact.result (c.storable_law.ensures.spells part c.storable.ensures).0 c.compact.ensures.compacts

pub returns-clause-compacts : goal.returns-clause-compacts
returns-clause-compacts g c =
    let snapshot_is = snapshot_length (lasting_in c.args.table.now) in
    let due = is_due (record_bytes c.args.areas.now) snapshot_is c.args.count in
    turns_if c.compact.result c.args.areas.now c.compact.new.self due snapshot_is (sym {b = due} c.is_due.ensures ∙ c.if-not-is_due.false) (omega arith)
    c.compact.ensures.selected c.compact.ensures.bytes c.compact.ensures.kept

pub returns-clause-bounded : goal.returns-clause-bounded
returns-clause-bounded g c = turned_within c.compact.result c.compact.new.self (snapshot_length (lasting_in c.args.table.now)) c.compact.ensures.bytes

pub returns-clause-fits : goal.returns-clause-fits
returns-clause-fits g c =
    let part = lasting_in c.args.table.now in
    turned_fits c.compact.result c.compact.new.self (snapshot_length part) c.args.count (omega (arith, snapshot_within part c.storable.ensures, c.requires.small)) c.compact.ensures.bytes

pub returns-then-not-is_due-clause-surely : goal.returns-then-not-is_due-clause-surely
returns-then-not-is_due-clause-surely g c = λ kept sure told.
    let part = lasting_in c.args.table.now in
    stays_surely g.D.Disk g.met.D.Disk.content_is_image c.args.areas.now c.args.disk.now part (kept_surely g.D.Disk c.args.areas.now c.args.disk.now part sure told kept)

pub returns-clause-surely : goal.returns-clause-surely
returns-clause-surely g c = λ kept sure told.
    let part = lasting_in c.args.table.now in
    let rows = reverse (snapshot part) in
    let same : left_by rows ≡ Some part = ap (option_map part_of) (c.storable_law.ensures.restores part c.storable.ensures) in
    turned_surely g.D.Disk g.met.D.Disk.content_is_image c.args.areas.now c.compact.new.self c.args.disk.now c.compact.new.disk part sure (c.compact.ensures.goes.telling ∙ told) kept rows same
    (c.storable_law.ensures.spells part c.storable.ensures).0 c.compact.result c.compact.ensures.compacts (c.compact.ensures.goes.sure sure) c.compact.ensures.counted c.compact.ensures.place
