-- What was ahead is on each image.
use Rattle.ks_outside.proofs.Joins.{passes_on}
use Rattle.use_journal.specs.Journal.{IsJournal}
use Rattle.journal_compact.proofs.Comings.{comes_on, comes_read}
use Rattle.journal_compact.proofs.older.put_beside_journal.Goals as goal

pub returns-clause-beside : goal.returns-clause-beside
returns-clause-beside g c = λ past all image left. record {
  journal = c.put_first.ensures.stays past all image (c.sync_ahead.ensures.goes.images image left);
  first = c.in-Ok.ensures.ahead image (c.in-Ok-sync_ahead.ensures.made image left);
}

pub returns-in_default-sync_ahead-clause-passes : goal.returns-in_default-sync_ahead-clause-passes
returns-in_default-sync_ahead-clause-passes g c = λ past all.
    passes_on g.D.Disk c.args.disk.now c.put_first.new.disk c.sync_ahead.new.disk _ _ (IsJournal past) (c.put_first.ensures.passes past all) c.sync_ahead.ensures.goes.passes (λ image journal. journal) (λ image left. c.put_first.ensures.stays past all image left)

pub returns-clause-passes : goal.returns-clause-passes
returns-clause-passes g c = λ past all.
    passes_on g.D.Disk c.args.disk.now c.put_first.new.disk c.sync_ahead.new.disk _ _ (IsJournal past) (c.put_first.ensures.passes past all) c.sync_ahead.ensures.goes.passes (λ image journal. journal) (λ image left. c.put_first.ensures.stays past all image left)

pub returns-in_default-sync_ahead-clause-comes : goal.returns-in_default-sync_ahead-clause-comes
returns-in_default-sync_ahead-clause-comes g c =
    comes_on g.D.Disk c.args.disk.now c.put_first.new.disk c.sync_ahead.new.disk c.put_first.ensures.comes (comes_read g.D.Disk c.put_first.new.disk c.sync_ahead.new.disk _ c.sync_ahead.ensures.goes)

pub returns-clause-comes : goal.returns-clause-comes
returns-clause-comes g c =
    comes_on g.D.Disk c.args.disk.now c.put_first.new.disk c.sync_ahead.new.disk c.put_first.ensures.comes (comes_read g.D.Disk c.put_first.new.disk c.sync_ahead.new.disk _ c.sync_ahead.ensures.goes)

pub returns-in_default-sync_ahead-clause-stays : goal.returns-in_default-sync_ahead-clause-stays
returns-in_default-sync_ahead-clause-stays g c = λ past all image left. c.put_first.ensures.stays past all image (c.sync_ahead.ensures.goes.images image left)

pub returns-clause-stays : goal.returns-clause-stays
returns-clause-stays g c = λ past all image left. c.put_first.ensures.stays past all image (c.sync_ahead.ensures.goes.images image left)
