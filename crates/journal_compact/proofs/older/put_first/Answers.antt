-- What is written behind a journal leaves it.
use Rattle.std.proofs.Common.{arith}
use Rattle.std.specs.Prelude.{reverse}
use Rattle.ks_outside.proofs.Joins.{passes_as, passes_on}
use Rattle.use_journal.specs.Journal.{IsJournal}
use Rattle.journal_records.specs.Storable.{snapshot}
use Rattle.journal_compact.specs.declared.places.TheConstants.{AREA_A, SELECTOR}
use Rattle.journal_compact.proofs.Comings.{comes_on, comes_torn}
use Rattle.journal_compact.proofs.Olders.{first_ahead_all, journal_stays_all}
use Rattle.journal_compact.proofs.Whole.{snapshot_within}
use Rattle.journal_compact.proofs.older.put_first.Goals as goal

pub returns-in_default-clause-stays : goal.returns-in_default-clause-stays
returns-in_default-clause-stays g c = λ past all image left. journal_stays_all g.D.Disk c.args.disk.now past AREA_A _ (omega arith) all image (c.write_snapshot.ensures.torn image left)

pub returns-in_default-clause-passes : goal.returns-in_default-clause-passes
returns-in_default-clause-passes g c = λ past all.
    passes_as g.D.Disk c.args.disk.now c.write_snapshot.new.disk _ (IsJournal past) c.write_snapshot.ensures.passes (journal_stays_all g.D.Disk c.args.disk.now past AREA_A _ (omega arith) all)

pub returns-in_default-write_ahead-clause-stays : goal.returns-in_default-write_ahead-clause-stays
returns-in_default-write_ahead-clause-stays g c = λ past all image left.
    journal_stays_all g.D.Disk c.write_snapshot.new.disk past SELECTOR _ (omega arith) (λ image left. journal_stays_all g.D.Disk c.args.disk.now past AREA_A _ (omega arith) all image (c.write_snapshot.ensures.torn image left)) image (c.write_ahead.ensures.torn image left)

pub returns-in_default-write_ahead-clause-passes : goal.returns-in_default-write_ahead-clause-passes
returns-in_default-write_ahead-clause-passes g c = λ past all.
    passes_on g.D.Disk c.args.disk.now c.write_snapshot.new.disk c.write_ahead.new.disk _ _ (IsJournal past) c.write_snapshot.ensures.passes c.write_ahead.ensures.passes (journal_stays_all g.D.Disk c.args.disk.now past AREA_A _ (omega arith) all)
    (journal_stays_all g.D.Disk c.write_snapshot.new.disk past SELECTOR _ (omega arith) (λ image left. journal_stays_all g.D.Disk c.args.disk.now past AREA_A _ (omega arith) all image (c.write_snapshot.ensures.torn image left)))

pub returns-clause-stays : goal.returns-clause-stays
returns-clause-stays g c = λ past all image left.
    journal_stays_all g.D.Disk c.write_snapshot.new.disk past SELECTOR _ (omega arith) (λ image left. journal_stays_all g.D.Disk c.args.disk.now past AREA_A _ (omega arith) all image (c.write_snapshot.ensures.torn image left)) image (c.write_ahead.ensures.torn image left)

pub returns-clause-passes : goal.returns-clause-passes
returns-clause-passes g c = λ past all.
    passes_on g.D.Disk c.args.disk.now c.write_snapshot.new.disk c.write_ahead.new.disk _ _ (IsJournal past) c.write_snapshot.ensures.passes c.write_ahead.ensures.passes (journal_stays_all g.D.Disk c.args.disk.now past AREA_A _ (omega arith) all)
    (journal_stays_all g.D.Disk c.write_snapshot.new.disk past SELECTOR _ (omega arith) (λ image left. journal_stays_all g.D.Disk c.args.disk.now past AREA_A _ (omega arith) all image (c.write_snapshot.ensures.torn image left)))

pub returns-clause-ahead : goal.returns-clause-ahead
returns-clause-ahead g c =
    let part = g.K.Held.part c.args.keys.now in
    let short = (c.storable_law.ensures.spells part c.requires).1 in
    first_ahead_all g.D.Disk c.write_snapshot.new.disk c.write_ahead.new.disk (reverse (snapshot part)) (omega (arith, short, snapshot_within part c.requires)) c.in-Ok.ensures.ahead c.in-Ok-write_ahead.ensures.ahead

pub returns-in_default-clause-comes : goal.returns-in_default-clause-comes
returns-in_default-clause-comes g c = comes_torn g.D.Disk c.args.disk.now c.write_snapshot.new.disk _ _ c.write_snapshot.ensures.torn c.write_snapshot.ensures.passes

pub returns-in_default-write_ahead-clause-comes : goal.returns-in_default-write_ahead-clause-comes
returns-in_default-write_ahead-clause-comes g c =
    comes_on g.D.Disk c.args.disk.now c.write_snapshot.new.disk c.write_ahead.new.disk (comes_torn g.D.Disk c.args.disk.now c.write_snapshot.new.disk _ _ c.write_snapshot.ensures.torn c.write_snapshot.ensures.passes)
    (comes_torn g.D.Disk c.write_snapshot.new.disk c.write_ahead.new.disk _ _ c.write_ahead.ensures.torn c.write_ahead.ensures.passes)

pub returns-clause-comes : goal.returns-clause-comes
returns-clause-comes g c =
    comes_on g.D.Disk c.args.disk.now c.write_snapshot.new.disk c.write_ahead.new.disk (comes_torn g.D.Disk c.args.disk.now c.write_snapshot.new.disk _ _ c.write_snapshot.ensures.torn c.write_snapshot.ensures.passes)
    (comes_torn g.D.Disk c.write_snapshot.new.disk c.write_ahead.new.disk _ _ c.write_ahead.ensures.torn c.write_ahead.ensures.passes)
