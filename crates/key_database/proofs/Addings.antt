-- What steps add to a store, one behind the other, over plain variables.
use Rattle.std.proofs.Common.{◌≡◌, inl, inr, ℕ, ◌+◌, ◌-◌, ◌<◌, ◌^◌, List, [], ◌∷◌, ◌++◌, length, drop, take, true, Option, Some, None, Result, Ok, Err, refl, sym, ap, subst, ◌∙◌, append_assoc, arith, length-append, length-take}
use Rattle.std.specs.Prelude.{is_some}
use Rattle.ks_outside.specs.declared.disk.Disk.{Ghosts}
use Rattle.ks_outside.specs.Faults.{Rises}
use Rattle.ks_outside.specs.Images.{AllImages, tells}
use Rattle.gated_records.proofs.PlaceLemmas.{first_of}
use Rattle.journal_records.specs.Carrying.{Carries, CarriesOn, NothingStays, StandsBy}
use Rattle.journal_records.specs.LastingPart.{Lasting}
use Rattle.journal_records.specs.Spelling.{spelled}
use Rattle.journal_records.specs.declared.record.Record.{Record}
use Rattle.journal_records.proofs.Carryings.{carries_on}
use Rattle.record_areas.specs.Frames.{HasRecords}
use Rattle.journal_compact.specs.Holding.{HoldsSurely, area_of, place_of, record_bytes, selected_of}
use Rattle.journal_compact.specs.Stores.{limit_of, start_of}
use Rattle.journal_compact.specs.declared.areas.Areas.{Areas}
use Rattle.journal_compact.specs.declared.places.Selected.{Selected}
use Rattle.journal_compact.specs.declared.store_place.StorePlace.{StorePlace}
use Rattle.journal_compact.proofs.Surely.{settled_surely}
use Rattle.key_database.specs.Adding.{Adds, Anew, Behind, KeepsSurely, Nothing, StepsSurely, records_at}
use Rattle.key_database.specs.Stands.{KeepsPart, kept_stands}
use Rattle.key_database.proofs.Storables.{area_records}

-- ---- counts

rises_twice : (a b c : ℕ) → Rises a b → Rises b c → Rises a c
rises_twice a b c (inl rose) (inl rose') = inl (omega (arith, rose, rose'))
rises_twice a b c (inl rose) (inr stands) = inl (omega (arith, rose, stands.1))
rises_twice a b c (inr stands) (inl rose) = inl (omega (arith, stands.1, rose))
rises_twice a b c (inr stands) (inr stands') = inr (stands.0, stands'.1 ∙ stands.1)

-- ---- joins

module _ (place between later : StorePlace) (old mid new : List ℕ) (part middle after : Lasting) where
  pub adds_on : Adds place between old mid part middle → Adds between later mid new middle after → Adds place later old new part after
  adds_on (Nothing same records kept) (Nothing same' records' kept') = Nothing (same' ∙ same) (records' ∙ records) (kept' ∙ kept)
  adds_on (Nothing same records kept) (Behind selected compactions more records' carries) =
      Behind (selected ∙ ap (λ (p : StorePlace). p.selected) same) (compactions ∙ ap (λ (p : StorePlace). p.compactions) same) more
      (records' ∙ ap (λ (l : List ℕ). l ++ more) records) (subst (λ (p : Lasting). Carries p after more) kept carries)
  adds_on (Nothing same records kept) (Anew rises) = Anew (subst (λ (n : ℕ). Rises n later.compactions) (ap (λ (p : StorePlace). p.compactions) same) rises)
  adds_on (Behind selected compactions more records carries) (Nothing same records' kept) =
      Behind (ap (λ (p : StorePlace). p.selected) same ∙ selected) (ap (λ (p : StorePlace). p.compactions) same ∙ compactions) more
      (records' ∙ records) (subst (λ (p : Lasting). Carries part p more) (sym kept) carries)
  adds_on (Behind selected compactions more records carries) (Behind selected' compactions' more' records' carries') =
      Behind (selected' ∙ selected) (compactions' ∙ compactions) (more ++ more')
      (records' ∙ ap (λ (l : List ℕ). l ++ more') records ∙ append_assoc (records_at place old) more more') (carries_on part middle after more more' carries carries')
  adds_on (Behind selected compactions more records carries) (Anew rises) = Anew (subst (λ (n : ℕ). Rises n later.compactions) compactions rises)
  adds_on (Anew rises) (Nothing same records kept) = Anew (subst (λ (n : ℕ). Rises place.compactions n) (sym (ap (λ (p : StorePlace). p.compactions) same)) rises)
  adds_on (Anew rises) (Behind selected compactions more records carries) = Anew (subst (λ (n : ℕ). Rises place.compactions n) (sym compactions) rises)
  adds_on (Anew rises) (Anew rises') = Anew (rises_twice place.compactions between.compactions later.compactions rises rises')

some_told : {X : Type 0} (content : Option X) → is_some content ≡ true → (x : X) × (content ≡ Some x)
some_told None never = absurd (cc)
some_told (Some x) now = (x, refl)

module _ {D : Type 0} (g : Ghosts D) where
  -- a step behind another
  pub steps_on : (areas between later : Areas) (old mid new : D) (part middle after : Lasting) → StepsSurely g areas between old mid part middle → StepsSurely g between later mid new middle after
      → StepsSurely g areas later old new part after
  steps_on areas between later old mid new part middle after first second = record {
    keeps = second.keeps;
    adds = λ before now is_before is_now.
        let here = some_told (g.content mid) first.keeps.told in
        adds_on (place_of areas) (place_of between) (place_of later) before here.0 now part middle after (first.adds before here.0 is_before here.1) (second.adds here.0 now here.1 is_now);
  }

  -- what areas and a disk hold that are settled is surely kept
  pub kept_surely : (areas : Areas) (disk : D) (part : Lasting) → g.is_sure disk → tells g disk ≡ true → KeepsPart g areas disk part → KeepsSurely g areas disk part
  kept_surely areas disk part sure told kept = record {
    told = told;
    past = kept.past;
    records = area_records kept.frame kept.past (record { selected = selected_of areas; of = kept.settled.is_frame }) kept.settled.area.records;
    left = kept.left;
    holds = settled_surely g areas disk kept.frame kept.past sure kept.settled;
    stands = kept_stands g areas disk part kept;
  }

  -- ---- bytes

  pub record_bytes_are : (areas : Areas) (disk : D) (past : List Record) → HoldsSurely g areas disk past → record_bytes areas ≡ length (spelled past)
  record_bytes_are areas disk past holds = omega (arith, holds.place)

  pub records_are : (areas : Areas) (disk : D) (past : List Record) (image : List ℕ) → HoldsSurely g areas disk past → g.images disk image → records_at (place_of areas) image ≡ spelled past
  records_are areas disk past image holds left =
      let area = (holds.images image left).area in
      ap (λ (n : ℕ). take n (drop (start_of (selected_of areas)) image)) (record_bytes_are areas disk past holds)
      ∙ first_of (start_of (selected_of areas)) (spelled past) (area.gate ∷ []) image area.is

  -- the records of the selected area stand for the part by themselves
  pub keeps_whole : (areas : Areas) (disk : D) (part : Lasting) (image : List ℕ) → KeepsSurely g areas disk part → g.images disk image → StandsBy (records_at (place_of areas) image) part
  keeps_whole areas disk part image keeps left = record { past = keeps.past; records = keeps.records; is = records_are areas disk keeps.past image keeps.holds left; left = keeps.left }

  -- a disk that reads as it did, or has fewer images, where the store is at its place
  module _ (images_law : (disk : D) (c : List ℕ) → g.content disk ≡ Some c → g.images disk c) (areas later : Areas) (old new : D) (part : Lasting) (keeps : KeepsSurely g areas old part)
      (fewer : AllImages g new (g.images old)) (same : place_of later ≡ place_of areas) where
    pub nothing_added : (before now : List ℕ) → g.content old ≡ Some before → g.content new ≡ Some now → Adds (place_of areas) (place_of later) before now part part
    nothing_added before now is_before is_now =
        let was = records_are areas old keeps.past before keeps.holds (images_law old before is_before) in
        let stays = records_are areas old keeps.past now keeps.holds (fewer now (images_law new now is_now)) in
        Nothing same (ap (λ (p : StorePlace). records_at p now) same ∙ stays ∙ sym was) refl

-- equal places tell that the same is kept, as long as the count of compactions may rise
pub same_kept : NothingStays → (place later : StorePlace) (old new : List ℕ) (part after : Lasting) → Adds place later old new part after → later ≡ place → place.compactions < 2 ^ 64 - 1
    → length (records_at place old) ≡ place.bytes → length (records_at later new) ≡ later.bytes → after ≡ part
same_kept stays place later old new part after (Nothing same records kept) is few had has = kept
same_kept stays place later old new part after (Behind selected compactions more records carries) is few had has =
    let bytes : later.bytes ≡ place.bytes = ap (λ (p : StorePlace). p.bytes) is in
    let none : more ≡ [] = no_more more (omega (arith, ap length records, length-append (records_at place old) more, had, has, bytes)) in
    stays part after (subst (λ (l : List ℕ). Carries part after l) none carries)
  where
    no_more : (more : List ℕ) → length more ≡ 0 → more ≡ []
    no_more [] e = refl
    no_more (x ∷ more) e = absurd (omega (arith, e))
same_kept stays place later old new part after (Anew (inl rose)) is few had has = absurd (omega (arith, rose, ap (λ (p : StorePlace). p.compactions) is))
same_kept stays place later old new part after (Anew (inr stands)) is few had has = absurd (omega (arith, stands.0, few))
