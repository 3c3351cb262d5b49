-- Whatever the selector is, it selects records.
use Rattle.std.proofs.Common.{ap, ◌∙◌}
use Rattle.ks_outside.proofs.Joins.{passes_as}
use Rattle.journal_compact.specs.Stores.{byte_of}
use Rattle.journal_compact.specs.Turning.{IsEither}
use Rattle.journal_compact.proofs.Surely.{beside_all}
use Rattle.journal_compact.proofs.Turns.{either_all, turned_all}
use Rattle.journal_compact.proofs.turning.select_other.Goals as goal

pub returns-clause-turned : goal.returns-clause-turned
returns-clause-turned g c = λ frame past rows of all.
    turned_all c.args.selected frame past rows of g.D.Disk c.args.disk.now c.write_synced.new.disk c.byte.result c.write_synced.result (c.byte.ensures ∙ ap byte_of c.other.ensures) all c.write_synced.ensures.written

pub returns-clause-either : goal.returns-clause-either
returns-clause-either g c = λ frame past rows of all image left. either_all c.args.selected frame past rows of g.D.Disk c.args.disk.now all image (c.write_synced.ensures.torn image left)

pub returns-clause-passes : goal.returns-clause-passes
returns-clause-passes g c = λ frame past rows of all.
    passes_as g.D.Disk c.args.disk.now c.write_synced.new.disk _ (IsEither of.version c.args.selected past rows) c.write_synced.ensures.passes (either_all c.args.selected frame past rows of g.D.Disk c.args.disk.now all)

pub returns-clause-beside : goal.returns-clause-beside
returns-clause-beside g c = λ frame past rows of all. beside_all g.D.Disk c.args.selected frame past rows of c.args.disk.now c.write_synced.new.disk all c.write_synced.ensures.torn
