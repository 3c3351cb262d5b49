-- The version, and then the seal.
use Rattle.ks_outside.proofs.Joins.{passes_on}
use Rattle.journal_compact.specs.Older.{IsOlderOrNew}
use Rattle.journal_compact.proofs.Comings.{comes_on}
use Rattle.journal_compact.proofs.Olders.{as_new}
use Rattle.journal_compact.proofs.Turns.{on_ok}
use Rattle.journal_compact.proofs.older.turn_journal.Goals as goal

pub returns-clause-renewed : goal.returns-clause-renewed
returns-clause-renewed g c = λ past rows all. on_ok c.seal_journal.result _ (c.seal_journal.ensures.stays rows (c.in-Ok.ensures.renewed past rows all))

pub returns-clause-either : goal.returns-clause-either
returns-clause-either g c = λ past rows all image left. as_new past rows image (c.seal_journal.ensures.stays rows (c.in-Ok.ensures.renewed past rows all) image left)

pub returns-clause-passes : goal.returns-clause-passes
returns-clause-passes g c = λ past rows all.
    passes_on g.D.Disk c.args.disk.now c.renew_version.new.disk c.seal_journal.new.disk _ _ (IsOlderOrNew past rows) (c.renew_version.ensures.passes past rows all)
    (c.seal_journal.ensures.passes rows (c.in-Ok.ensures.renewed past rows all)) (λ image either. either) (λ image store. as_new past rows image store)

pub returns-clause-comes : goal.returns-clause-comes
returns-clause-comes g c = comes_on g.D.Disk c.args.disk.now c.renew_version.new.disk c.seal_journal.new.disk c.renew_version.ensures.comes c.seal_journal.ensures.comes
