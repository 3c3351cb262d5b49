-- What a change, a compaction and a settling add to a store on a sure disk that tells its bytes, over plain variables.
use Rattle.std.proofs.Common.{◌≡◌, ◌⊎◌, inl, inr, ⊎_elim, ℕ, ◌+◌, ◌-◌, ◌||◌, Bool, true, false, arith, List, ◌∷◌, ◌++◌, length, Some, Result, Ok, Err, refl, sym, ap, subst, ◌∙◌}
use Rattle.std.specs.Prelude.{OnErr, OnOk}
use Rattle.std.proofs.lemmas.Bool.{cases_Bool}
use Rattle.ks_outside.specs.declared.disk.Disk.{Ghosts}
use Rattle.ks_outside.specs.declared.faults.Failed.{Failed}
use Rattle.ks_outside.specs.Images.{AllImages, tells}
use Rattle.tags.specs.declared.settled.Settled.{Settled}
use Rattle.tags.specs.declared.settled.Settled.TheVariants.{Kept, Lost}
use Rattle.journal_records.specs.declared.change.Change.{Change}
use Rattle.journal_records.specs.declared.record.Record.{Record}
use Rattle.journal_records.specs.declared.record.Record.TheVariants as records
use Rattle.journal_records.specs.Commits.{CommitState, Committed, InDoubt, NotBegun}
use Rattle.journal_records.specs.Effects.{after}
use Rattle.journal_records.specs.Holding.{Holding, Sure, Unsure, after_commit, known, settled_in}
use Rattle.journal_records.specs.LastingPart.{Lasting}
use Rattle.journal_records.specs.Needs.{is_met}
use Rattle.journal_records.specs.Spelling.{IsChange, closed_of, framed, spelled}
use Rattle.journal_records.specs.Storable.{area_kinds}
use Rattle.journal_records.proofs.Carryings.{change_carries}
use Rattle.record_areas.specs.Frames.{AreRecords, Frame, HasRecords}
use Rattle.record_areas.specs.Holding as lower
use Rattle.record_areas.specs.declared.area.Area.{Area}
use Rattle.record_areas.proofs.Unique.{same_records}
use Rattle.record_areas.specs.Holding.{end_after, end_settled}
use Rattle.journal_compact.specs.Counts.{IsCounted}
use Rattle.journal_compact.specs.Holding.{Appends, Compacts, HoldsSurely, IsSettledAs, IsSettledOn, IsTurningOn, IsUnsettledOn, SameTurn, StaysOrCounts, area_of, compactions_of, end_of, is_turning, place_of, selected_of, turn_of, write_state}
use Rattle.journal_compact.specs.Stores.{IsFrameOf, start_of}
use Rattle.journal_compact.specs.Waiting.{is_turn}
use Rattle.journal_compact.specs.declared.places.Selected.{Selected}
use Rattle.journal_compact.specs.declared.places.Selected.TheVariants.{A, B}
use Rattle.journal_compact.proofs.Single.{one_frame}
use Rattle.journal_compact.specs.declared.areas.Areas.{Areas}
use Rattle.journal_compact.specs.declared.store_place.StorePlace.{StorePlace}
use Rattle.journal_compact.proofs.Surely.{settled_surely, told_image}
use Rattle.key_database.specs.Adding.{Adds, Anew, Behind, KeepsSurely, Nothing, StepsSurely, records_at}
use Rattle.key_database.specs.Store.{left_by}
use Rattle.key_database.specs.Stands.{BeginsChange, Holds, IsSure, IsUnsure, KeepsPart, TurnsPart, areas_of, is_unsettled, kept_stands, lasting, left_after, part_after, stands_in, turning_stands}
use Rattle.key_database.specs.declared.database.KeyDatabase.{KeyDatabase}
use Rattle.key_database.proofs.Addings.{kept_surely, nothing_added, records_are}
use Rattle.key_database.proofs.Applied.{lost_of}
use Rattle.key_database.proofs.Compacted.{frame_is, turned_to}
use Rattle.key_database.proofs.Storables.{area_records}
use Rattle.key_database.proofs.Waiting.{not_idle, turning_now}

-- the same area, in which the records end where they did
pub place_at : (areas later : Areas) → selected_of later ≡ selected_of areas → end_of later ≡ end_of areas → compactions_of later ≡ compactions_of areas → place_of later ≡ place_of areas
place_at areas later selected end compactions = λ i. record { selected = selected i; bytes = end i - start_of (selected i); compactions = compactions i }

module _ {D : Type 0} (g : Ghosts D) (images_law : (disk : D) (c : List ℕ) → g.content disk ≡ Some c → g.images disk c) where
  -- the same records at the same place
  at_place : (areas later : Areas) (old new : D) (past : List Record) (part : Lasting) → HoldsSurely g areas old past → HoldsSurely g later new past → place_of later ≡ place_of areas
      → (before now : List ℕ) → g.content old ≡ Some before → g.content new ≡ Some now → Adds (place_of areas) (place_of later) before now part part
  at_place areas later old new past part held holds same before now is_before is_now =
      Nothing same (records_are g later new past now holds (images_law new now is_now) ∙ sym (records_are g areas old past before held (images_law old before is_before))) refl

  -- nothing was done
  pub stays_surely : (areas : Areas) (disk : D) (part : Lasting) → KeepsSurely g areas disk part → StepsSurely g areas areas disk disk part part
  stays_surely areas disk part keeps = record { keeps = keeps; adds = at_place areas areas disk disk keeps.past part keeps.holds keeps.holds refl }

  module _ (areas later : Areas) (old new : D) (part : Lasting) (sure : g.is_sure old) (told : tells g new ≡ true) (kept : KeepsPart g areas old part) where
    held : HoldsSurely g areas old kept.past
    held = settled_surely g areas old kept.frame kept.past sure kept.settled

    fits : AreRecords area_kinds kept.past
    fits = area_records kept.frame kept.past (frame_is g areas old part kept) kept.settled.area.records

    -- ---- a compaction

    pub turned_surely : (rows : List Record) (same : left_by rows ≡ Some part) → AreRecords area_kinds rows → (result : Result Unit Failed)
        → ((frame : Frame) (past : List Record) → IsSettledOn g areas old frame past → Compacts g later old new frame past rows result)
        → g.is_sure new → OnOk result (IsCounted (compactions_of areas) (compactions_of later)) → OnErr result (place_of later ≡ place_of areas) → StepsSurely g areas later old new part part
    turned_surely rows same fit (Ok done) compacts sure_on counted place = record {
      keeps = kept_surely g later new part sure_on told (turned_to g areas later old new part rows same kept (Ok done) compacts);
      adds = λ before now is_before is_now. Anew counted.rises;
    }
    turned_surely rows same fit (Err fault) compacts sure_on counted place =
        let holds = (compacts kept.frame kept.past kept.settled).surely sure in
        record {
          keeps = record {
            told = told;
            past = kept.past;
            records = fits;
            left = kept.left;
            holds = holds;
            stands = turning_stands g later new part (turned_to g areas later old new part rows same kept (Err fault) compacts);
          };
          adds = at_place areas later old new kept.past part held holds place;
        }

    -- ---- a change

    module _ (change : Change) (met : is_met part change ≡ true) (is : IsChange change) (turn : SameTurn areas later) (compactions : compactions_of later ≡ compactions_of areas) where
      behind : (before now : List ℕ) → HoldsSurely g later new (records.Change change ∷ kept.past) → g.content old ≡ Some before → g.content new ≡ Some now
          → Adds (place_of areas) (place_of later) before now part (after part change)
      behind before now holds is_before is_now =
          let was = records_are g areas old kept.past before held (images_law old before is_before) in
          let has = records_are g later new (records.Change change ∷ kept.past) now holds (images_law new now is_now) in
          Behind turn.selected compactions (framed change) (has ∙ ap (λ (l : List ℕ). l ++ framed change) (sym was)) (change_carries part change is met)

      pub added_surely : (result : Result Unit Failed) → ((frame : Frame) (past : List Record) → IsSettledOn g areas old frame past → Appends g later old new frame past (records.Change change) result)
          → end_of later ≡ end_after (length (closed_of change)) (write_state result) (end_of areas) → g.is_sure new → StepsSurely g areas later old new part (part_after change (write_state result) part)
      added_surely (Ok done) appends end sure_on =
          let all = appends kept.frame kept.past kept.settled in
          record {
            keeps = kept_surely g later new (after part change) sure_on told (record { frame = kept.frame; past = records.Change change ∷ kept.past; settled = all.left; left = left_after kept.past change part kept.left met });
            adds = λ before now is_before is_now. behind before now (all.surely sure) is_before is_now;
          }
      added_surely (Err fault) appends end sure_on =
          let all = appends kept.frame kept.past kept.settled in
          let holds = all.surely sure in
          record {
            keeps = record {
              told = told;
              past = kept.past;
              records = fits;
              left = kept.left;
              holds = holds;
              stands = λ c image. stands_in kept.frame kept.past part c (frame_is g areas old part kept) kept.settled.area.records kept.left (all.nothing sure c image);
            };
            adds = at_place areas later old new kept.past part held holds (place_at areas later turn.selected end compactions);
          }

  -- ---- a call that writes nothing

  module _ (areas later : Areas) (old new : D) (part : Lasting) (keeps : KeepsSurely g areas old part) (fewer : AllImages g new (g.images old)) (told : tells g new ≡ true) (sure_on : g.is_sure new) where
    -- where it leaves the areas as they are
    pub reads_surely : later ≡ areas → StepsSurely g areas later old new part part
    reads_surely same = record {
      keeps = subst (λ (a : Areas). KeepsSurely g a new part) (sym same) (record {
        told = told;
        past = keeps.past;
        records = keeps.records;
        left = keeps.left;
        holds = record { sure = sure_on; place = keeps.holds.place; images = λ c image. keeps.holds.images c (fewer c image) };
        stands = λ c image. keeps.stands c (fewer c image);
      });
      adds = nothing_added g images_law areas later old new part keeps fewer (ap place_of same);
    }

    -- where they hold the part, settled, at their place or behind a compaction
    pub settles_surely : StaysOrCounts (place_of areas) (place_of later) → KeepsPart g later new part → StepsSurely g areas later old new part part
    settles_surely place kept = record {
      keeps = kept_surely g later new part sure_on told kept;
      adds = ⊎_elim (λ (same : place_of later ≡ place_of areas). nothing_added g images_law areas later old new part keeps fewer same)
          (λ (more : IsCounted (compactions_of areas) (compactions_of later)) before now is_before is_now. Anew more.rises) place;
    }

-- ---- what is known

pub known_after : (change : Change) (state : CommitState) (part : Lasting) → known (after_commit change state (Sure part)) ≡ part_after change state part
known_after change Committed part = refl
known_after change InDoubt part = refl
known_after change NotBegun part = refl

-- where a settled database makes a change
pub commits_surely : {D : Type 0} (g : Ghosts D) (old : KeyDatabase) (later : Areas) (disk disk' : D) (change : Change) (state : CommitState) (before : Holding) → is_unsettled old ≡ false → Holds g old disk before
    → (KeepsPart g (areas_of old) disk (lasting old) → StepsSurely g (areas_of old) later disk disk' (lasting old) (part_after change state (lasting old)))
    → StepsSurely g (areas_of old) later disk disk' (known before) (known (after_commit change state before))
commits_surely g old later disk disk' change state (Sure part) idle s writes =
    let all = writes (subst (λ (p : Lasting). KeepsPart g (areas_of old) disk p) (sym s.held) s.kept) in
    subst (λ (p : Lasting). StepsSurely g (areas_of old) later disk disk' part p) (sym (known_after change state part))
    (subst (λ (p : Lasting). StepsSurely g (areas_of old) later disk disk' p (part_after change state p)) s.held all)
commits_surely g old later disk disk' change state (Unsure part further) idle s writes = absurd (not_idle g (areas_of old) disk part s.change s.waits idle)

-- a change that waits over such a disk is never found
pub never_found : {D : Type 0} (g : Ghosts D) (old : KeyDatabase) (disk : D) (before : Holding) → is_unsettled old ≡ true → Holds g old disk before → KeepsSurely g (areas_of old) disk (known before)
    → (is_turning (areas_of old) ≡ true → ⊥)
    → ((frame : Frame) (past kept : List Record) (it : Record) → IsUnsettledOn g (areas_of old) disk frame past it → AreRecords area_kinds kept → HoldsSurely g (areas_of old) disk kept → tells g disk ≡ true → ⊥)
    → ⊥
never_found g old disk (Sure part) waits s keeps turns found = absurd (cc (s.kept.settled.idle, waits))
never_found g old disk (Unsure part later) waits s keeps turns found =
    ⊎_elim (λ (begun : BeginsChange g (areas_of old) disk part s.change). found begun.frame begun.past keeps.past (records.Change s.change) begun.unsettled keeps.records keeps.holds keeps.told)
    (λ (turning : TurnsPart g (areas_of old) disk part). turns (turning_now g (areas_of old) disk part turning)) s.waits

-- what is held while nothing waits is surely kept
pub held_surely : {D : Type 0} (g : Ghosts D) (old : KeyDatabase) (disk : D) (held : Holding) → is_unsettled old ≡ false → Holds g old disk held → g.is_sure disk → tells g disk ≡ true
    → KeepsSurely g (areas_of old) disk (known held)
held_surely g old disk (Sure part) idle s sure told = kept_surely g (areas_of old) disk part sure told s.kept
held_surely g old disk (Unsure part later) idle s sure told = absurd (not_idle g (areas_of old) disk part s.change s.waits idle)

-- what is known behind a settling that answers that nothing was found
pub known_lost : (held : Holding) → known (settled_in Lost held) ≡ known held
known_lost (Sure part) = refl
known_lost (Unsure part later) = refl

-- what is kept then
pub lost_keeps : {D : Type 0} (g : Ghosts D) (old : KeyDatabase) (later : Areas) (disk disk' : D) (held : Holding) → is_unsettled old ≡ true → Holds g old disk held
    → ((frame : Frame) (past : List Record) (it : Record) → IsUnsettledOn g (areas_of old) disk frame past it → IsSettledOn g later disk' frame past)
    → ((frame : Frame) (past rows : List Record) → IsTurningOn g (areas_of old) disk frame past rows → IsSettledAs g later disk' past rows) → KeepsPart g later disk' (known held)
lost_keeps g old later disk disk' (Sure part) waits s settles turned = absurd (cc (s.kept.settled.idle, waits))
lost_keeps g old later disk disk' (Unsure part further) waits s settles turned = lost_of g (areas_of old) later disk disk' part s.change s.waits settles turned

-- where a settling finds nothing, the store is at its place, or a compaction is counted
pub lost_place : (areas later : Areas) → (is_turning areas ≡ true → StaysOrCounts (place_of areas) (place_of later)) → (is_turning areas ≡ false → SameTurn areas later) → (is_turning areas ≡ false → end_of later ≡ end_of areas)
    → (is_turning areas ≡ false → compactions_of later ≡ compactions_of areas) → StaysOrCounts (place_of areas) (place_of later)
lost_place areas later turns same end compactions = elim (cases_Bool (is_turning areas)) [
  | inl turning ↦ turns turning
  | inr off ↦ inl (place_at areas later (same off).selected (end off) (compactions off))
]

-- ---- a store that is read again

one_start : (selected found : Selected) → start_of selected ≡ start_of found → found ≡ selected
one_start A A same = refl
one_start A B same = absurd (omega (arith, same))
one_start B A same = absurd (omega (arith, same))
one_start B B same = refl

-- it is found at its place
pub one_place : {D : Type 0} (g : Ghosts D) (areas found : Areas) (old new : D) (part read : Lasting) (c : List ℕ) → g.images new c → AllImages g new (g.images old) → KeepsPart g areas old part → KeepsPart g found new read
    → (selected_of found ≡ selected_of areas) × (end_of found ≡ end_of areas)
one_place g areas found old new part read c left fewer kept again =
    let here = kept.settled.area.images c (fewer c left) in
    let there = again.settled.area.images c left in
    let frame = one_frame kept.frame again.frame c (frame_is g areas old part kept) (frame_is g found new read again) here.marked there.marked in
    let records = subst (λ (f : Frame). HasRecords f.start f.limit again.past c) (sym frame) there.records in
    let fit = subst (λ (f : Frame). AreRecords f.kinds again.past) (sym frame) again.settled.area.records in
    let past = same_records kept.frame.start kept.frame.limit kept.frame.kinds kept.past again.past c kept.settled.area.records fit here.records records in
    let start : kept.frame.start ≡ again.frame.start = ap (λ (f : Frame). f.start) frame in
    let own : kept.frame.start ≡ start_of (selected_of areas) = ap (λ (f : Frame). f.start) kept.settled.is_frame.is in
    let other : again.frame.start ≡ start_of (selected_of found) = ap (λ (f : Frame). f.start) again.settled.is_frame.is in (
      one_start (selected_of areas) (selected_of found) (sym own ∙ start ∙ other),
      omega (arith, start, kept.settled.area.place, again.settled.area.place, ap (λ (l : List Record). length (spelled l)) past),
    )

-- its areas go on, and hold what was held
pub going_on : {D : Type 0} (g : Ghosts D) (found later : Areas) (disk : D) (part read : Lasting) → selected_of later ≡ selected_of found → area_of later ≡ area_of found → turn_of later ≡ turn_of found → part ≡ read
    → KeepsPart g found disk read → KeepsPart g later disk part
going_on g found later disk part read selected area turn same kept = record {
  frame = kept.frame;
  past = kept.past;
  settled = record {
    idle = (λ i. is_turn (turn i) || lower.is_waiting (area i)) ∙ kept.settled.idle;
    is_frame = subst (λ (s : Selected). IsFrameOf s kept.frame) (sym selected) kept.settled.is_frame;
    area = subst (λ (a : Area). lower.IsSettledOn g a disk kept.frame kept.past) (sym area) kept.settled.area;
  };
  left = kept.left ∙ ap (λ (p : Lasting). Some p) (sym same);
}

module _ {D : Type 0} (g : Ghosts D) (old : KeyDatabase) (disk : D) (idle : is_unsettled old ≡ false) where
  held_part : (held : Holding) → Holds g old disk held → KeepsPart g (areas_of old) disk (known held) × (lasting old ≡ known held)
  held_part (Sure part) s = (s.kept, s.held)
  held_part (Unsure part later) s = absurd (not_idle g (areas_of old) disk part s.change s.waits idle)

  pub reread_holds : (new : KeyDatabase) (disk' : D) (held : Holding) → Holds g old disk held → KeepsPart g (areas_of new) disk' (lasting old) → lasting new ≡ lasting old → Holds g new disk' held
  reread_holds new disk' (Sure part) s kept same = record { kept = subst (λ (p : Lasting). KeepsPart g (areas_of new) disk' p) s.held kept; held = same ∙ s.held }
  reread_holds new disk' (Unsure part later) s kept same = absurd (not_idle g (areas_of old) disk part s.change s.waits idle)

  -- over a sure disk the store is at its place
  pub reread_surely : ((disk : D) (c : List ℕ) → g.content disk ≡ Some c → g.images disk c) → (found later : Areas) (disk' : D) (read : Lasting) (held : Holding) → Holds g old disk held → g.is_sure disk → tells g disk ≡ true
      → AllImages g disk' (g.images disk) → tells g disk' ≡ true → g.is_sure disk' → KeepsPart g found disk' read → KeepsPart g later disk' (lasting old)
      → selected_of later ≡ selected_of found → area_of later ≡ area_of found → compactions_of later ≡ compactions_of (areas_of old) → StepsSurely g (areas_of old) later disk disk' (known held) (known held)
  reread_surely law found later disk' read held h sure told fewer told_on sure_on kept kept_on selected area compactions =
      let before = held_part held h in
      let image = told_image g disk' law told_on in
      let place = one_place g (areas_of old) found disk disk' (known held) read image.0 image.1 fewer before.0 kept in
      settles_surely g law (areas_of old) later disk disk' (known held) (kept_surely g (areas_of old) disk (known held) sure told before.0) fewer told_on sure_on
      (inl (place_at (areas_of old) later (selected ∙ place.0) (ap lower.end_of area ∙ place.1) compactions)) (subst (λ (p : Lasting). KeepsPart g later disk' p) before.1 kept_on)
