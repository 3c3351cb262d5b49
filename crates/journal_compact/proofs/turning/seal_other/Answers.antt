-- The seal stands in the other area.
use Rattle.std.proofs.Common.{ap, ◌∙◌, arith}
use Rattle.ks_outside.proofs.Joins.{passes_as}
use Rattle.record_areas.specs.Frames.{IsStore}
use Rattle.journal_compact.specs.Stores.{start_of}
use Rattle.journal_compact.proofs.Turns.{stays_all}
use Rattle.journal_compact.proofs.turning.seal_other.Goals as goal

pub returns-clause-stays : goal.returns-clause-stays
returns-clause-stays g c = λ frame past of all image left.
    stays_all c.args.selected frame past past of g.D.Disk c.args.disk.now c.start.result 5 (c.start.ensures ∙ ap start_of c.other.ensures) (omega arith) all image (c.write_synced.ensures.torn image left)

pub returns-clause-passes : goal.returns-clause-passes
returns-clause-passes g c = λ frame past of all.
    passes_as g.D.Disk c.args.disk.now c.write_synced.new.disk _ (IsStore frame past) c.write_synced.ensures.passes
    (stays_all c.args.selected frame past past of g.D.Disk c.args.disk.now c.start.result 5 (c.start.ensures ∙ ap start_of c.other.ensures) (omega arith) all)
