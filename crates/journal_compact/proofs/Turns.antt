-- What stays while a store turns.
use Rattle.std.proofs.Common.{◌≡◌, ◌⊎◌, inl, inr, ℕ, ◌+◌, ◌<◌, ◌≤◌, ◌==◌, List, [], ◌∷◌, ◌++◌, length, get_or, Result, Ok, Err, refl, sym, subst, arith, length-append}
use Rattle.std.specs.Prelude.{OnOk}
use Rattle.std.proofs.lemmas.Bool.{cases_Bool}
use Rattle.ks_outside.specs.declared.disk.Disk.{Ghosts}
use Rattle.ks_outside.specs.Ranges.{Holds, Torn}
use Rattle.ks_outside.specs.Moments.{Follows}
use Rattle.ks_outside.specs.Images.{AllImages, TornFrom}
use Rattle.gated_records.specs.Areas.{HoldsAt}
use Rattle.gated_records.proofs.PlaceLemmas.{fits, held_below, one_at, torn_above, torn_below}
use Rattle.journal_records.specs.declared.record.Record.{Record}
use Rattle.journal_records.specs.Spelling.{spelled}
use Rattle.record_areas.specs.Frames.{Frame, HasRecords, IsStore}
use Rattle.journal_compact.specs.declared.places.Selected.{Selected}
use Rattle.journal_compact.specs.declared.places.Selected.TheVariants.{A, B}
use Rattle.journal_compact.specs.declared.places.TheConstants.{AREA_BYTES, SELECTOR}
use Rattle.journal_compact.specs.Stores.{IsFrameOf, byte_of, frame_of, front, limit_of, other, selected_by, start_of}
use Rattle.journal_compact.specs.Turning.{IsBoth, IsEither}

-- ---- records of an area

some_gate : (records : List ℕ) (gate : ℕ) → 0 < length (records ++ gate ∷ [])
some_gate records gate = omega (arith, length-append records (gate ∷ []))

pub records_above : (start limit at n : ℕ) (past : List Record) (old new : List ℕ) → at + n ≤ start → Torn at n old new → HasRecords start limit past old → HasRecords start limit past new
records_above start limit at n past old new above torn is = record {
  area = record {
    gate = is.area.gate;
    closed = is.area.closed;
    is = torn_above start at n (spelled past ++ is.area.gate ∷ []) old new above torn is.area.is;
  };
  within = is.within;
}

pub records_below : (start limit at n : ℕ) (past : List Record) (old new : List ℕ) → limit ≤ at → Torn at n old new → HasRecords start limit past old → HasRecords start limit past new
records_below start limit at n past old new below torn is = record {
  area = record {
    gate = is.area.gate;
    closed = is.area.closed;
    is = torn_below start at n (spelled past ++ is.area.gate ∷ []) old new (some_gate (spelled past) is.area.gate)
        (omega (arith, length-append (spelled past) (is.area.gate ∷ []), is.within, below)) torn is.area.is;
  };
  within = is.within;
}

-- what was written is torn at most
pub torn_of : (at : ℕ) (piece old new : List ℕ) → Holds at piece old new → Torn at (length piece) old new
torn_of at piece old new held = record {
  front = held.front;
  after = held.after;
  no_shorter = omega (arith, held.size);
  no_longer = omega (arith, held.size);
}

-- ---- areas

pub other_back : (selected : Selected) → other (other selected) ≡ selected
other_back A = refl
other_back B = refl

pub selects_own : (selected : Selected) → selected_by (byte_of selected) ≡ selected
selects_own A = refl
selects_own B = refl

-- a byte selects this area or the other
which : (byte : ℕ) (selected : Selected) → (selected_by byte ≡ selected) ⊎ (selected_by byte ≡ other selected)
which byte A = elim (cases_Bool (byte == 65)) [ inl is ↦ inl (rw is refl) | inr not ↦ inr (rw not refl) ]
which byte B = elim (cases_Bool (byte == 65)) [ inl is ↦ inr (rw is refl) | inr not ↦ inl (rw not refl) ]

pub above_marks : (selected : Selected) → SELECTOR + 1 ≤ start_of selected
above_marks A = omega arith
above_marks B = omega arith

-- what is written in the other area leaves this one
pub records_stay : (selected : Selected) (n : ℕ) (past : List Record) (old new : List ℕ) → n ≤ AREA_BYTES → Torn (start_of (other selected)) n old new
    → HasRecords (start_of selected) (limit_of selected) past old → HasRecords (start_of selected) (limit_of selected) past new
records_stay A n past old new few torn is = records_below (start_of A) (limit_of A) (start_of B) n past old new (omega arith) torn is
records_stay B n past old new few torn is = records_above (start_of B) (limit_of B) (start_of A) n past old new (omega (arith, few)) torn is

some_front : (version : ℕ) → 0 < length (front version)
some_front version = omega arith

-- and so the store
stays_of : (selected : Selected) (version selector n : ℕ) (past : List Record) (old new : List ℕ) → n ≤ AREA_BYTES → Torn (start_of (other selected)) n old new
    → IsStore (frame_of selected version selector) past old → IsStore (frame_of selected version selector) past new
stays_of selected version selector n past old new few torn is =
    let above = above_marks (other selected) in
    record {
      marked = (
        torn_below 0 (start_of (other selected)) n (front version) old new (some_front version) (omega (arith, above)) torn is.marked.0,
        (torn_below SELECTOR (start_of (other selected)) n (selector ∷ []) old new (omega arith) (omega (arith, above)) torn is.marked.1.0, tt),
      );
      records = records_stay selected n past old new few torn is.records;
    }

pub stays : (selected : Selected) (frame : Frame) (n : ℕ) (past : List Record) (old new : List ℕ) → IsFrameOf selected frame → n ≤ AREA_BYTES → Torn (start_of (other selected)) n old new
    → IsStore frame past old → IsStore frame past new
stays selected frame n past old new of few torn is =
    subst (λ (f : Frame). IsStore f past new) (sym of.is)
    (stays_of selected of.version of.selector n past old new few torn (subst (λ (f : Frame). IsStore f past old) of.is is))

-- ---- the selector

module _ (selected : Selected) (version selector : ℕ) (past rows : List Record) (old new : List ℕ) (is : IsStore (frame_of selected version selector) past old)
    (beside : HasRecords (start_of (other selected)) (limit_of (other selected)) rows old) where
  -- it is torn: whatever it is then, it selects records
  pub selector_torn : Torn SELECTOR 1 old new → IsEither version selected past rows new
  selector_torn torn =
      let byte = get_or new SELECTOR 0 in
      let long = fits SELECTOR (selector ∷ []) old (omega arith) is.marked.1.0 in
      let there : HoldsAt SELECTOR (byte ∷ []) new = one_at SELECTOR new (omega (arith, long, torn.no_shorter)) in
      let begins : HoldsAt 0 (front version) new = torn_below 0 SELECTOR 1 (front version) old new (some_front version) (omega arith) torn is.marked.0 in
      elim (which byte selected) [
        | inl this ↦ inl (record {
          selector = byte;
          selects = this;
          store = record {
            marked = (begins, (there, tt));
            records = records_above (start_of selected) (limit_of selected) SELECTOR 1 past old new (above_marks selected) torn is.records;
          };
        })
        | inr that ↦ inr (record {
          selector = byte;
          selects = that;
          store = record {
            marked = (begins, (there, tt));
            records = records_above (start_of (other selected)) (limit_of (other selected)) SELECTOR 1 rows old new (above_marks (other selected)) torn beside;
          };
        })
      ]

  -- it is written: it selects the other area
  pub selector_held : Holds SELECTOR (byte_of (other selected) ∷ []) old new → IsStore (frame_of (other selected) version (byte_of (other selected))) rows new
  selector_held held =
      let byte = byte_of (other selected) in
      let torn = torn_of SELECTOR (byte ∷ []) old new held in
      record {
        marked = (held_below 0 SELECTOR (byte ∷ []) (front version) old new (some_front version) (omega arith) held is.marked.0, (held.range, tt));
        records = records_above (start_of (other selected)) (limit_of (other selected)) SELECTOR 1 rows old new (above_marks (other selected)) torn beside;
      }

-- records that stand in the other area, and a closing byte
pub beside_of : (selected : Selected) (rows : List Record) (at : ℕ) (image : List ℕ) → at ≡ start_of (other selected) → length (spelled rows) < AREA_BYTES → HoldsAt at (spelled rows ++ 0 ∷ []) image
    → HasRecords (start_of (other selected)) (limit_of (other selected)) rows image
beside_of selected rows at image is short held = record {
  area = record { gate = 0; closed = λ e. absurd (omega (arith, e)); is = subst (λ (k : ℕ). HoldsAt k (spelled rows ++ 0 ∷ []) image) is held };
  within = omega (arith, short);
}

-- ---- the same of a frame

module _ (selected : Selected) (frame : Frame) (past rows : List Record) (of : IsFrameOf selected frame) where
  store_is : (image : List ℕ) → IsStore frame past image → IsStore (frame_of selected of.version of.selector) past image
  store_is image is = subst (λ (f : Frame). IsStore f past image) of.is is

  pub as_either : (image : List ℕ) → IsStore frame past image → IsEither of.version selected past rows image
  as_either image is = inl (record { selector = of.selector; selects = of.selects; store = store_is image is })

  module _ {D : Type 0} (g : Ghosts D) (old : D) where
    -- a write in the other area
    pub stays_all : (at n : ℕ) → at ≡ start_of (other selected) → n ≤ AREA_BYTES → AllImages g old (IsStore frame past) → (c : List ℕ) → TornFrom g old at n c → IsStore frame past c
    stays_all at n is few all c torn = stays selected frame n past torn.0 c of few (subst (λ (k : ℕ). Torn k n torn.0 c) is torn.2) (all torn.0 torn.1)

    -- the selector
    pub either_all : AllImages g old (IsBoth frame selected past rows) → (c : List ℕ) → TornFrom g old SELECTOR 1 c → IsEither of.version selected past rows c
    either_all all c torn =
        let both = all torn.0 torn.1 in
        selector_torn selected of.version of.selector past rows torn.0 c (store_is torn.0 both.store) both.beside torn.2

    pub turned_all : {T E : Type 0} (new : D) (byte : ℕ) (result : Result T E) → byte ≡ byte_of (other selected) → AllImages g old (IsBoth frame selected past rows)
        → OnOk result (Follows (Holds SELECTOR (byte ∷ [])) (g.images old) (g.images new)) → OnOk result (AllImages g new (IsStore (frame_of (other selected) of.version (byte_of (other selected))) rows))
    turned_all new byte (Err fault) is all none = tt
    turned_all new byte (Ok done) is all follows = λ c left.
        let from = follows c left in
        let both = all from.0 from.1 in
        selector_held selected of.version of.selector past rows from.0 c (store_is from.0 both.store) both.beside (subst (λ (b : ℕ). Holds SELECTOR (b ∷ []) from.0 c) is from.2)

-- what holds in any case
pub on_ok : {T E : Type 0} (result : Result T E) (Q : Type 0) → Q → OnOk result Q
on_ok (Ok done) Q q = q
on_ok (Err fault) Q q = tt

-- the frame of the store that has turned
pub turned_frame : (selected : Selected) (frame : Frame) (of : IsFrameOf selected frame) → IsFrameOf (other selected) (frame_of (other selected) of.version (byte_of (other selected)))
turned_frame selected frame of = record { version = of.version; newer = of.newer; selector = byte_of (other selected); selects = selects_own (other selected); is = refl }

-- it is one of both
pub turned_either : (selected : Selected) (version : ℕ) (past rows : List Record) (image : List ℕ) → IsStore (frame_of (other selected) version (byte_of (other selected))) rows image
    → IsEither version selected past rows image
turned_either selected version past rows image is = inr (record { selector = byte_of (other selected); selects = selects_own (other selected); store = is })
