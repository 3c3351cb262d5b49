-- One byte, whatever it is.
use Rattle.ks_outside.proofs.Joins.{passes_as}
use Rattle.journal_compact.specs.Older.{IsOlderOrNew}
use Rattle.journal_compact.proofs.Comings.{comes_torn}
use Rattle.journal_compact.proofs.Olders.{renewed_all, version_all}
use Rattle.journal_compact.proofs.older.renew_version.Goals as goal

pub returns-clause-renewed : goal.returns-clause-renewed
returns-clause-renewed g c = λ past rows all. renewed_all g.D.Disk c.args.disk.now c.write_synced.new.disk past rows c.write_synced.result all c.write_synced.ensures.written

pub returns-clause-either : goal.returns-clause-either
returns-clause-either g c = λ past rows all image left. version_all g.D.Disk c.args.disk.now past rows all image (c.write_synced.ensures.torn image left)

pub returns-clause-passes : goal.returns-clause-passes
returns-clause-passes g c = λ past rows all.
    passes_as g.D.Disk c.args.disk.now c.write_synced.new.disk _ (IsOlderOrNew past rows) c.write_synced.ensures.passes (version_all g.D.Disk c.args.disk.now past rows all)

pub returns-clause-comes : goal.returns-clause-comes
returns-clause-comes g c = comes_torn g.D.Disk c.args.disk.now c.write_synced.new.disk _ _ c.write_synced.ensures.torn c.write_synced.ensures.passes
