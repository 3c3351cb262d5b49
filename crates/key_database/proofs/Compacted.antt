-- What areas keep where they are written anew, and where a change is added, over plain variables.
use Rattle.std.proofs.Common.{◌≡◌, inl, inr, ⊎_elim, ℕ, List, [], ◌∷◌, true, Some, Result, Ok, Err, refl}
use Rattle.std.specs.Prelude.{OnOk}
use Rattle.ks_outside.specs.declared.disk.Disk.{Ghosts}
use Rattle.ks_outside.specs.declared.faults.Failed.{Failed}
use Rattle.ks_outside.specs.Images.{AllImages, Passes}
use Rattle.ks_outside.proofs.Joins.{passes_as, passes_on}
use Rattle.journal_records.specs.declared.change.Change.{Change}
use Rattle.journal_records.specs.LastingPart.{Lasting, empty_lasting}
use Rattle.journal_records.specs.Needs.{is_met}
use Rattle.journal_records.specs.Effects.{after}
use Rattle.journal_records.specs.Storable.{area_kinds}
use Rattle.journal_records.specs.declared.record.Record.{Record}
use Rattle.journal_records.specs.declared.record.Record.TheVariants as records
use Rattle.record_areas.specs.Frames.{AreRecords, Frame, IsBeforeOrAfter}
use Rattle.journal_compact.specs.Holding.{Appends, Compacts, IsOneOf, IsSettledOn, selected_of}
use Rattle.journal_compact.specs.Stores.{IsAreas, IsAreasFrame}
use Rattle.journal_compact.specs.declared.areas.Areas.{Areas}
use Rattle.key_database.specs.Store.{StandsFor, left_by}
use Rattle.key_database.specs.Stands.{KeepsPart, StandsAround, TurnedTo, TurnsPart, Writes, left_after, stands_in, turning_stands}
use Rattle.key_database.proofs.Storables.{area_records, frame_records}

pub frame_is : {D : Type 0} (g : Ghosts D) (areas : Areas) (disk : D) (part : Lasting) (kept : KeepsPart g areas disk part) → IsAreasFrame kept.frame
frame_is g areas disk part kept = record { selected = selected_of areas; of = kept.settled.is_frame }

-- a store of areas with records that leave a part
of_areas : (past : List Record) (part : Lasting) (c : List ℕ) → AreRecords area_kinds past → left_by past ≡ Some part → IsAreas past c → StandsFor part c
of_areas past part c fits left a = stands_in a.frame past part c a.is_frame (frame_records a.frame past a.is_frame fits) left a.store

-- an empty store
pub formatted : {D T : Type 0} (g : Ghosts D) (disk : D) (result : Result T Failed) → OnOk result (AllImages g disk (IsAreas [])) → OnOk result (AllImages g disk (StandsFor empty_lasting))
formatted g disk (Ok done) all = λ c image. of_areas [] empty_lasting c tt refl (all c image)
formatted g disk (Err fault) all = tt

-- ---- a compaction

module _ {D : Type 0} (g : Ghosts D) (areas areas' : Areas) (disk disk' : D) (part : Lasting) (rows : List Record) (same : left_by rows ≡ Some part) (kept : KeepsPart g areas disk part) where
  pub turned_to : (result : Result Unit Failed) → ((frame : Frame) (past : List Record) → IsSettledOn g areas disk frame past → Compacts g areas' disk disk' frame past rows result) → TurnedTo g areas' disk' part result
  turned_to (Ok done) compacts =
      let turned = (compacts kept.frame kept.past kept.settled).left in
      record { frame = turned.frame; past = rows; settled = turned.settled; left = same }
  turned_to (Err fault) compacts = record {
    frame = kept.frame;
    past = kept.past;
    rows = rows;
    turning = (compacts kept.frame kept.past kept.settled).left;
    left = kept.left;
    same = same;
  }

  pub turned_passes : (result : Result Unit Failed) → AreRecords area_kinds rows → ((frame : Frame) (past : List Record) → IsSettledOn g areas disk frame past → Compacts g areas' disk disk' frame past rows result)
      → Passes g disk disk' (StandsFor part)
  turned_passes result fits compacts =
      let own = area_records kept.frame kept.past (frame_is g areas disk part kept) kept.settled.area.records in
      passes_as g disk disk' (IsOneOf kept.past rows) (StandsFor part) (compacts kept.frame kept.past kept.settled).passes
      (λ c one. ⊎_elim (λ is. of_areas kept.past part c own kept.left is) (λ is. of_areas rows part c fits same is) one)

-- ---- a change that is added

module _ {D : Type 0} (g : Ghosts D) (areas areas' : Areas) (disk disk' : D) (part : Lasting) (change : Change) (met : is_met part change ≡ true) (kept : KeepsPart g areas disk part) where
  around : (c : List ℕ) → AreRecords kept.frame.kinds (records.Change change ∷ kept.past) → IsBeforeOrAfter kept.frame kept.past (records.Change change) c → StandsAround part change c
  around c fits held =
      let is = frame_is g areas disk part kept in
      ⊎_elim (λ j. inl (stands_in kept.frame kept.past part c is kept.settled.area.records kept.left j))
      (λ j. inr (stands_in kept.frame (records.Change change ∷ kept.past) (after part change) c is fits (left_after kept.past change part kept.left met) j)) held

  pub added : (result : Result Unit Failed) → ((frame : Frame) (past : List Record) → IsSettledOn g areas disk frame past → Appends g areas' disk disk' frame past (records.Change change) result)
      → Writes g areas' disk disk' part change result
  added (Ok done) appends =
      let all = appends kept.frame kept.past kept.settled in
      record {
        written = record { frame = kept.frame; past = records.Change change ∷ kept.past; settled = all.left; left = left_after kept.past change part kept.left met };
        passes = passes_as g disk disk' (IsBeforeOrAfter kept.frame kept.past (records.Change change)) (StandsAround part change) all.passes (λ c held. around c all.left.area.records held);
        nothing = λ sure. tt;
      }
  added (Err fault) appends =
      let all = appends kept.frame kept.past kept.settled in
      record {
        written = inl (record { frame = kept.frame; past = kept.past; unsettled = all.left; left = kept.left });
        passes = passes_as g disk disk' (IsBeforeOrAfter kept.frame kept.past (records.Change change)) (StandsAround part change) all.passes (λ c held. around c all.left.area.records held);
        nothing = λ sure c image. stands_in kept.frame kept.past part c (frame_is g areas disk part kept) kept.settled.area.records kept.left (all.nothing sure c image);
      }

-- ---- both

module _ {D : Type 0} (g : Ghosts D) (areas : Areas) (disk mid : D) (part : Lasting) (change : Change) (first : Passes g disk mid (StandsFor part)) where
  pub turn_failed : (fault : Failed) → TurnsPart g areas mid part → Writes g areas disk mid part change (Err fault)
  turn_failed fault turning = record {
    written = inr turning;
    passes = passes_as g disk mid (StandsFor part) (StandsAround part change) first (λ c stands. inl stands);
    nothing = λ sure. turning_stands g areas mid part turning;
  }

  pub turn_added : (result : Result Unit Failed) (disk' : D) → (g.is_sure disk → g.is_sure mid) → Writes g areas mid disk' part change result → Writes g areas disk disk' part change result
  turn_added result disk' sure_on writes = record {
    written = writes.written;
    passes = passes_on g disk mid disk' (StandsFor part) (StandsAround part change) (StandsAround part change) first writes.passes (λ c stands. inl stands) (λ c stands. stands);
    nothing = λ sure. writes.nothing (sure_on sure);
  }
