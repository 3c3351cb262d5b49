-- The snapshot stands beside what is selected.
use Rattle.std.proofs.Common.{ap, ◌∙◌, arith}
use Rattle.std.specs.Prelude.{reverse}
use Rattle.ks_outside.proofs.Joins.{passes_as, passes_on}
use Rattle.record_areas.specs.Frames.{IsStore}
use Rattle.journal_records.specs.Storable.{snapshot}
use Rattle.journal_compact.specs.Stores.{start_of}
use Rattle.journal_compact.proofs.Turns.{beside_of, stays_all}
use Rattle.journal_compact.proofs.Whole.{snapshot_within}
use Rattle.journal_compact.proofs.turning.put_beside.Goals as goal

pub returns-in_default-clause-stays : goal.returns-in_default-clause-stays
returns-in_default-clause-stays g c = λ frame past of all image left. stays_all c.args.selected frame past past of g.D.Disk c.args.disk.now c.start.result _ (c.start.ensures ∙ ap start_of c.other.ensures) (omega (arith, snapshot_within (g.K.Held.part c.args.keys.now) c.requires)) all image (c.write_snapshot.ensures.torn image left)

pub returns-in_default-clause-passes : goal.returns-in_default-clause-passes
returns-in_default-clause-passes g c = λ frame past of all.
    passes_as g.D.Disk c.args.disk.now c.write_snapshot.new.disk _ (IsStore frame past) c.write_snapshot.ensures.passes (stays_all c.args.selected frame past past of g.D.Disk c.args.disk.now c.start.result _ (c.start.ensures ∙ ap start_of c.other.ensures) (omega (arith, snapshot_within (g.K.Held.part c.args.keys.now) c.requires)) all)

pub returns-in_default-sync_ahead-clause-stays : goal.returns-in_default-sync_ahead-clause-stays
returns-in_default-sync_ahead-clause-stays g c = λ frame past of all image left. stays_all c.args.selected frame past past of g.D.Disk c.args.disk.now c.start.result _ (c.start.ensures ∙ ap start_of c.other.ensures) (omega (arith, snapshot_within (g.K.Held.part c.args.keys.now) c.requires)) all image (c.write_snapshot.ensures.torn image (c.sync_ahead.ensures.goes.images image left))

pub returns-in_default-sync_ahead-clause-passes : goal.returns-in_default-sync_ahead-clause-passes
returns-in_default-sync_ahead-clause-passes g c = λ frame past of all.
    passes_on g.D.Disk c.args.disk.now c.write_snapshot.new.disk c.sync_ahead.new.disk _ _ (IsStore frame past) c.write_snapshot.ensures.passes c.sync_ahead.ensures.goes.passes (stays_all c.args.selected frame past past of g.D.Disk c.args.disk.now c.start.result _ (c.start.ensures ∙ ap start_of c.other.ensures) (omega (arith, snapshot_within (g.K.Held.part c.args.keys.now) c.requires)) all)
    (λ image left. stays_all c.args.selected frame past past of g.D.Disk c.args.disk.now c.start.result _ (c.start.ensures ∙ ap start_of c.other.ensures) (omega (arith, snapshot_within (g.K.Held.part c.args.keys.now) c.requires)) all image (c.write_snapshot.ensures.torn image left))

pub returns-clause-stays : goal.returns-clause-stays
returns-clause-stays g c = λ frame past of all image left. stays_all c.args.selected frame past past of g.D.Disk c.args.disk.now c.start.result _ (c.start.ensures ∙ ap start_of c.other.ensures) (omega (arith, snapshot_within (g.K.Held.part c.args.keys.now) c.requires)) all image (c.write_snapshot.ensures.torn image (c.sync_ahead.ensures.goes.images image left))

pub returns-clause-passes : goal.returns-clause-passes
returns-clause-passes g c = λ frame past of all.
    passes_on g.D.Disk c.args.disk.now c.write_snapshot.new.disk c.sync_ahead.new.disk _ _ (IsStore frame past) c.write_snapshot.ensures.passes c.sync_ahead.ensures.goes.passes (stays_all c.args.selected frame past past of g.D.Disk c.args.disk.now c.start.result _ (c.start.ensures ∙ ap start_of c.other.ensures) (omega (arith, snapshot_within (g.K.Held.part c.args.keys.now) c.requires)) all)
    (λ image left. stays_all c.args.selected frame past past of g.D.Disk c.args.disk.now c.start.result _ (c.start.ensures ∙ ap start_of c.other.ensures) (omega (arith, snapshot_within (g.K.Held.part c.args.keys.now) c.requires)) all image (c.write_snapshot.ensures.torn image left))

pub returns-clause-beside : goal.returns-clause-beside
returns-clause-beside g c = λ frame past of all image left.
    let part = g.K.Held.part c.args.keys.now in
    let short = (c.storable_law.ensures.spells part c.requires).1 in
    record {
      store = stays_all c.args.selected frame past past of g.D.Disk c.args.disk.now c.start.result _ (c.start.ensures ∙ ap start_of c.other.ensures) (omega (arith, snapshot_within (g.K.Held.part c.args.keys.now) c.requires)) all image (c.write_snapshot.ensures.torn image (c.sync_ahead.ensures.goes.images image left));
      beside = beside_of c.args.selected (reverse (snapshot part)) c.start.result image (c.start.ensures ∙ ap start_of c.other.ensures) (omega (arith, short, snapshot_within part c.requires))
          (c.in-Ok.ensures.ahead image (c.in-Ok-sync_ahead.ensures.made image left));
    }
