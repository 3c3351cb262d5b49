-- The seal stands over the journal.
use Rattle.ks_outside.proofs.Joins.{passes_as}
use Rattle.record_areas.specs.Frames.{IsStore}
use Rattle.journal_compact.specs.Older.{new_frame}
use Rattle.journal_compact.proofs.Comings.{comes_torn}
use Rattle.journal_compact.proofs.Olders.{sealed_all}
use Rattle.journal_compact.proofs.older.seal_journal.Goals as goal

pub returns-clause-stays : goal.returns-clause-stays
returns-clause-stays g c = λ rows all image left. sealed_all g.D.Disk c.args.disk.now rows all image (c.write_synced.ensures.torn image left)

pub returns-clause-passes : goal.returns-clause-passes
returns-clause-passes g c = λ rows all.
    passes_as g.D.Disk c.args.disk.now c.write_synced.new.disk _ (IsStore new_frame rows) c.write_synced.ensures.passes (sealed_all g.D.Disk c.args.disk.now rows all)

pub returns-clause-comes : goal.returns-clause-comes
returns-clause-comes g c = comes_torn g.D.Disk c.args.disk.now c.write_synced.new.disk _ _ c.write_synced.ensures.torn c.write_synced.ensures.passes
