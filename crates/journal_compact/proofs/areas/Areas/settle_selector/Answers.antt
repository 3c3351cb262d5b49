-- The selector tells which area each image has.
use Rattle.std.proofs.Common.{inl, inr, ap, ◌∙◌, sym}
use Rattle.journal_compact.specs.Stores.{selected_in}
use Rattle.journal_compact.specs.Waiting.{next_of}
use Rattle.journal_compact.proofs.Kept.{off_own, same_or_other, stays_settled, turned_settled, turning_fewer}
use Rattle.journal_compact.proofs.areas.Areas.settle_selector.Goals as goal

pub returns-in_default-clause-turned : goal.returns-in_default-clause-turned
returns-in_default-clause-turned g c = λ frame past rows is. turning_fewer g.D.Disk c.args.self.now c.args.disk.now c.read_synced_byte.new.disk frame past rows c.read_synced_byte.ensures.goes.images is

pub returns-clause-turned : goal.returns-clause-turned
returns-clause-turned g c = λ frame past rows is.
    let areas = c.args.self.now in
    let there = ap next_of c.requires in
    elim (same_or_other (selected_in c.in-Ok.byte) areas.selected) [
      | inl own ↦ stays_settled g.D.Disk areas c.chosen.result c.args.disk.now c.read_synced_byte.new.disk frame past rows c.read_synced_byte.ensures.goes.images is c.chosen.ensures.idle
          c.args.next c.in-Ok.byte c.requires c.in-Ok.ensures.byte c.chosen.ensures.selected own (c.chosen.ensures.same own)
      | inr off ↦ turned_settled g.D.Disk areas c.chosen.result c.args.disk.now c.read_synced_byte.new.disk frame past rows c.read_synced_byte.ensures.goes.images is c.chosen.ensures.idle
          c.args.next c.in-Ok.byte c.requires c.in-Ok.ensures.byte c.chosen.ensures.selected off (c.chosen.ensures.other (λ own. off_own areas.selected (sym own ∙ off)))
          (areas.next_idle c.args.next there) (areas.next_starts c.args.next there) (areas.next_ends c.args.next there)
    ]
