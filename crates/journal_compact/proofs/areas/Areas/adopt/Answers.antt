-- A snapshot is written beside the journal, and then the version.
use Rattle.std.proofs.Common.{inl, ℕ, ◌+◌, refl, sym, ap, ◌∙◌, arith}
use Rattle.std.specs.Prelude.{reverse}
use Rattle.ks_outside.proofs.Joins.{passes_as, passes_on}
use Rattle.use_journal.specs.Journal.{IsJournal}
use Rattle.journal_records.specs.Storable.{snapshot}
use Rattle.journal_compact.specs.declared.places.TheConstants.{AREA_A}
use Rattle.journal_compact.specs.Older.{IsOlderOrNew, new_frame}
use Rattle.journal_compact.proofs.Comings.{comes_on}
use Rattle.journal_compact.proofs.Kept.{settled_with}
use Rattle.journal_compact.proofs.Olders.{new_is_frame}
use Rattle.journal_compact.proofs.Whole.{snapshot_within}
use Rattle.journal_compact.proofs.areas.Areas.adopt.Goals as goal

pub at-area-requires : goal.at-area-requires
at-area-requires g c = omega (arith, c.in-Ok.ensures.end, snapshot_within (g.K.Held.part c.args.keys.now) c.requires, c.limit.ensures)

pub returns-in_default-clause-adopts : goal.returns-in_default-clause-adopts
returns-in_default-clause-adopts g c = λ past all. record {
  left = tt;
  images = λ image left. inl (c.put_beside_journal.ensures.stays past all image left);
  passes = passes_as g.D.Disk c.args.disk.now c.put_beside_journal.new.disk (IsJournal past) (IsOlderOrNew past (reverse (snapshot (g.K.Held.part c.args.keys.now)))) (c.put_beside_journal.ensures.passes past all) (λ image journal. inl journal);
}

pub returns-in_default-turn_journal-clause-adopts : goal.returns-in_default-turn_journal-clause-adopts
returns-in_default-turn_journal-clause-adopts g c = λ past all.
    let rows = reverse (snapshot (g.K.Held.part c.args.keys.now)) in
    let beside = c.in-Ok.ensures.beside past all in
    record {
      left = tt;
      images = c.turn_journal.ensures.either past rows beside;
      passes = passes_on g.D.Disk c.args.disk.now c.put_beside_journal.new.disk c.turn_journal.new.disk (IsJournal past) (IsOlderOrNew past rows) (IsOlderOrNew past rows) (c.put_beside_journal.ensures.passes past all)
          (c.turn_journal.ensures.passes past rows beside) (λ image journal. inl journal) (λ image either. either);
    }

pub returns-clause-marked : goal.returns-clause-marked
returns-clause-marked g c = λ past all image left.
    (c.in-Ok-turn_journal.ensures.renewed past (reverse (snapshot (g.K.Held.part c.args.keys.now))) (c.in-Ok.ensures.beside past all) image left).marked

pub returns-clause-adopts : goal.returns-clause-adopts
returns-clause-adopts g c = λ past all.
    let part = g.K.Held.part c.args.keys.now in
    let rows = reverse (snapshot part) in
    let spells = c.storable_law.ensures.spells part c.requires in
    let beside = c.in-Ok.ensures.beside past all in
    record {
      left = record {
        frame = new_frame;
        settled = settled_with g.D.Disk _ c.turn_journal.new.disk new_frame rows refl new_is_frame c.at-area.ensures.idle (c.at-area.ensures.start ∙ c.start.ensures) (c.at-area.ensures.limit ∙ c.limit.ensures)
            (c.at-area.ensures.end ∙ c.in-Ok.ensures.end ∙ ap (λ (n : ℕ). AREA_A + n) (sym spells.1)) spells.0 (c.in-Ok-turn_journal.ensures.renewed past rows beside);
      };
      images = c.turn_journal.ensures.either past rows beside;
      passes = passes_on g.D.Disk c.args.disk.now c.put_beside_journal.new.disk c.turn_journal.new.disk (IsJournal past) (IsOlderOrNew past rows) (IsOlderOrNew past rows) (c.put_beside_journal.ensures.passes past all)
          (c.turn_journal.ensures.passes past rows beside) (λ image journal. inl journal) (λ image either. either);
    }

pub returns-in_default-turn_journal-clause-comes : goal.returns-in_default-turn_journal-clause-comes
returns-in_default-turn_journal-clause-comes g c =
    comes_on g.D.Disk c.args.disk.now c.put_beside_journal.new.disk c.turn_journal.new.disk c.put_beside_journal.ensures.comes c.turn_journal.ensures.comes

pub returns-clause-comes : goal.returns-clause-comes
returns-clause-comes g c =
    comes_on g.D.Disk c.args.disk.now c.put_beside_journal.new.disk c.turn_journal.new.disk c.put_beside_journal.ensures.comes c.turn_journal.ensures.comes
