-- What stays while a journal becomes a store of areas.
use Rattle.std.proofs.Common.{◌≡◌, inl, inr, ℕ, ◌+◌, ◌<◌, ◌≤◌, List, [], ◌∷◌, ◌++◌, length, take, drop, get_or, Result, Ok, Err, refl, sym, ap, ◌∙◌, subst, arith, length-append}
use Rattle.std.specs.Prelude.{OnOk}
use Rattle.std.proofs.lemmas.Bool.{cases_eq}
use Rattle.std.proofs.lemmas.List.{drop-take, take-take}
use Rattle.ks_outside.specs.declared.disk.Disk.{Ghosts}
use Rattle.ks_outside.specs.Ranges.{Holds, Torn}
use Rattle.ks_outside.specs.Moments.{Follows}
use Rattle.ks_outside.specs.Images.{AllImages, TornFrom}
use Rattle.disk_calls.specs.Ahead.{IsAhead}
use Rattle.gated_records.specs.Areas.{HoldsAt}
use Rattle.gated_records.proofs.PlaceLemmas.{first_of, fits, held_above, held_below, join, one_at, torn_above, torn_below}
use Rattle.journal_records.specs.declared.record.Record.{Record}
use Rattle.journal_records.specs.Spelling.{spelled}
use Rattle.record_areas.specs.Frames.{IsStore}
use Rattle.use_journal.specs.Journal.{IsJournal, header}
use Rattle.journal_compact.specs.declared.places.Selected.TheVariants.{A}
use Rattle.journal_compact.specs.declared.places.TheConstants.{AREA_A, AREA_BYTES, SELECTOR}
use Rattle.journal_compact.specs.Gathering.{AllAhead}
use Rattle.journal_compact.specs.Older.{AgreeUpTo, IsBeside, IsFirst, IsOlderOrNew, new_frame}
use Rattle.journal_compact.specs.Stores.{IsFrameOf, frame_of, front, limit_of, magic, start_of}
use Rattle.journal_compact.proofs.Turns.{records_above, records_below, torn_of}

-- what is written behind a journal leaves it
journal_stays : (past : List Record) (at n : ℕ) (old new : List ℕ) → SELECTOR ≤ at → Torn at n old new → IsJournal past old → IsJournal past new
journal_stays past at n old new behind torn is = record {
  marked = (torn_below 0 at n header old new (omega arith) (omega (arith, behind)) torn is.marked.0, tt);
  records = records_below 8 SELECTOR at n past old new behind torn is.records;
}

pub journal_stays_all : {D : Type 0} (g : Ghosts D) (old : D) (past : List Record) (at n : ℕ) → SELECTOR ≤ at → AllImages g old (IsJournal past) → (c : List ℕ) → TornFrom g old at n c → IsJournal past c
journal_stays_all g old past at n behind all c torn = journal_stays past at n torn.0 c behind torn.2 (all torn.0 torn.1)

-- rows stand in area A, and the selector selects it
first_ahead : (rows : List Record) (old new : List ℕ) → length (spelled rows) < AREA_BYTES → HoldsAt AREA_A (spelled rows ++ 0 ∷ []) old → Holds SELECTOR (65 ∷ []) old new → IsFirst rows new
first_ahead rows old new short stands held = record {
  selector = held.range;
  rows_are = record {
    area = record { gate = 0; closed = λ e. absurd (omega (arith, e)); is = held_above AREA_A SELECTOR (65 ∷ []) (spelled rows ++ 0 ∷ []) old new (omega arith) held stands };
    within = omega (arith, short);
  };
}

pub first_ahead_all : {D : Type 0} (g : Ghosts D) (mid new : D) (rows : List Record) → length (spelled rows) < AREA_BYTES → AllAhead g mid (HoldsAt AREA_A (spelled rows ++ 0 ∷ []))
    → Follows (Holds SELECTOR (65 ∷ [])) (IsAhead g mid) (IsAhead g new) → AllAhead g new (IsFirst rows)
first_ahead_all g mid new rows short stands follows c now = let from = follows c now in first_ahead rows from.0 c short (stands from.0 from.1) from.2

-- ---- the version

module _ (past rows : List Record) (old new : List ℕ) (is : IsBeside past rows old) where
  begins : HoldsAt 0 magic old
  begins = first_of 0 magic (49 ∷ []) old is.journal.marked.0

  -- one byte is torn: the journal stands, or it is a store of areas
  pub version_torn : Torn 7 1 old new → IsOlderOrNew past rows new
  version_torn torn =
      let byte = get_or new 7 0 in
      let long = fits 0 header old (omega arith) is.journal.marked.0 in
      let there : HoldsAt 7 (byte ∷ []) new = one_at 7 new (omega (arith, long, torn.no_shorter)) in
      let same : HoldsAt 0 magic new = torn_below 0 7 1 magic old new (omega arith) (omega arith) torn begins in
      let fronts : HoldsAt 0 (front byte) new = join 0 7 magic (byte ∷ []) new refl same there in
      elim (cases_eq byte 49) [
        | inl older ↦ inl (record {
          marked = (subst (λ (b : ℕ). HoldsAt 0 (front b) new) older fronts, tt);
          records = records_above 8 SELECTOR 7 1 past old new (omega arith) torn is.journal.records;
        })
        | inr newer ↦ inr (record {
          frame = frame_of A byte 65;
          is_frame = record { selected = A; of = record { version = byte; newer = newer; selector = 65; selects = refl; is = refl } };
          store = record {
            marked = (fronts, (torn_above SELECTOR 7 1 (65 ∷ []) old new (omega arith) torn is.first.selector, tt));
            records = records_above (start_of A) (limit_of A) 7 1 rows old new (omega arith) torn is.first.rows_are;
          };
        })
      ]

  -- it is written: it is a store of areas
  pub version_held : Holds 7 (50 ∷ []) old new → IsStore new_frame rows new
  version_held held =
      let torn = torn_of 7 (50 ∷ []) old new held in
      record {
        marked = (
          join 0 7 magic (50 ∷ []) new refl (held_below 0 7 (50 ∷ []) magic old new (omega arith) (omega arith) held begins) held.range,
          (held_above SELECTOR 7 (50 ∷ []) (65 ∷ []) old new (omega arith) held is.first.selector, tt),
        );
        records = records_above (start_of A) (limit_of A) 7 1 rows old new (omega arith) torn is.first.rows_are;
      }

-- what is written over the journal leaves the store of areas
sealed_stays : (rows : List Record) (old new : List ℕ) → Torn 8 5 old new → IsStore new_frame rows old → IsStore new_frame rows new
sealed_stays rows old new torn is = record {
  marked = (
    torn_below 0 8 5 (front 50) old new (omega arith) (omega arith) torn is.marked.0,
    (torn_above SELECTOR 8 5 (65 ∷ []) old new (omega arith) torn is.marked.1.0, tt),
  );
  records = records_above (start_of A) (limit_of A) 8 5 rows old new (omega arith) torn is.records;
}

pub new_is_frame : IsFrameOf A new_frame
new_is_frame = record { version = 50; newer = λ e. absurd (omega (arith, e)); selector = 65; selects = refl; is = refl }

pub as_new : (past rows : List Record) (image : List ℕ) → IsStore new_frame rows image → IsOlderOrNew past rows image
as_new past rows image store = inr (record { frame = new_frame; is_frame = record { selected = A; of = new_is_frame }; store = store })

module _ {D : Type 0} (g : Ghosts D) (old : D) where
  pub version_all : (past rows : List Record) → AllImages g old (IsBeside past rows) → (c : List ℕ) → TornFrom g old 7 1 c → IsOlderOrNew past rows c
  version_all past rows all c torn = version_torn past rows torn.0 c (all torn.0 torn.1) torn.2

  pub renewed_all : {T E : Type 0} (new : D) (past rows : List Record) (result : Result T E) → AllImages g old (IsBeside past rows) → OnOk result (Follows (Holds 7 (50 ∷ [])) (g.images old) (g.images new))
      → OnOk result (AllImages g new (IsStore new_frame rows))
  renewed_all new past rows (Err fault) all none = tt
  renewed_all new past rows (Ok done) all follows = λ c left. let from = follows c left in version_held past rows from.0 c (all from.0 from.1) from.2

  pub sealed_all : (rows : List Record) → AllImages g old (IsStore new_frame rows) → (c : List ℕ) → TornFrom g old 8 5 c → IsStore new_frame rows c
  sealed_all rows all c torn = sealed_stays rows torn.0 c torn.2 (all torn.0 torn.1)

-- ---- what counts

agreed_at : (place n : ℕ) (bytes image other : List ℕ) → place + length bytes ≤ n → take n image ≡ take n other → HoldsAt place bytes image → HoldsAt place bytes other
agreed_at place n bytes image other within agree held =
    let k = length bytes in
    sym (drop-take place k other) ∙ ap (λ (l : List ℕ). drop place l) (sym (take-take (place + k) n other within) ∙ ap (λ (l : List ℕ). take (place + k) l) (sym agree) ∙ take-take (place + k) n image within) ∙ drop-take place k image ∙ held

pub older_of : (past : List Record) (image other : List ℕ) → IsJournal past image → AgreeUpTo past image other → IsJournal past other
older_of past image other is agree =
    let n = 8 + length (spelled past) + 1 in
    record {
      marked = (agreed_at 0 n header image other (omega arith) agree is.marked.0, tt);
      records = record {
        area = record {
          gate = is.records.area.gate;
          closed = is.records.area.closed;
          is = agreed_at 8 n (spelled past ++ is.records.area.gate ∷ []) image other (omega (arith, length-append (spelled past) (is.records.area.gate ∷ []))) agree is.records.area.is;
        };
        within = is.records.within;
      };
    }
