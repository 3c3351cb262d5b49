-- What a store of areas keeps while it is written anew, and once that is settled.
use Rattle.std.proofs.Common.{◌≡◌, ◌⊎◌, inl, inr, ⊎_elim, ℕ, ◌+◌, false, List, [], length, slice_get, Option, Some, None, refl, sym, ap, ◌∙◌, subst, arith}
use Rattle.std.specs.Prelude.{is_some}
use Rattle.std.proofs.lemmas.Bool.{or_from}
use Rattle.std.proofs.lemmas.Option.{none-some}
use Rattle.ks_outside.specs.declared.disk.Disk.{Ghosts}
use Rattle.ks_outside.specs.Images.{AllImages}
use Rattle.gated_records.proofs.PlaceLemmas.{byte_of}
use Rattle.journal_records.specs.declared.record.Record.{Record}
use Rattle.journal_records.specs.Spelling.{spelled}
use Rattle.journal_records.specs.Storable.{area_kinds}
use Rattle.record_areas.specs.Frames.{AreRecords, Frame, IsStore}
use Rattle.record_areas.specs.Holding as lower
use Rattle.record_areas.specs.declared.area.Area.{Area}
use Rattle.journal_compact.specs.declared.areas.Areas.{Areas}
use Rattle.journal_compact.specs.declared.areas.Turn.{Turn}
use Rattle.journal_compact.specs.declared.areas.Turn.TheVariants.{Copying, Idle, Selecting}
use Rattle.journal_compact.specs.declared.places.Selected.{Selected}
use Rattle.journal_compact.specs.declared.places.Selected.TheVariants.{A, B}
use Rattle.journal_compact.specs.declared.places.TheConstants.{SELECTOR}
use Rattle.journal_compact.specs.Holding.{IsOneOf, IsPlaced, IsPlacedIn, IsSettledIn, IsSettledAs, IsSettledOn, IsTurningOn, MayHold, area_of, is_turning, is_waiting, selected_of, turn_of}
use Rattle.journal_compact.specs.Stores.{IsAreas, IsFrameOf, IsStoreOf, apart_of, byte_of as own_byte, frame_of, limit_of, other, selected_by, selected_in, start_of}
use Rattle.journal_compact.specs.Turning.{IsEither}
use Rattle.journal_compact.specs.Waiting.{is_turn}
use Rattle.journal_compact.proofs.Turns.{turned_frame}

-- ---- the selector that was read

-- the two areas differ
pub off_own : (selected : Selected) → selected ≡ other selected → ⊥
off_own A e = absurd (cc)
off_own B e = absurd (cc)

pub other_of : (found selected : Selected) → (found ≡ selected → ⊥) → found ≡ other selected
other_of A A not = absurd (not refl)
other_of A B not = refl
other_of B A not = refl
other_of B B not = absurd (not refl)

pub same_or_other : (found selected : Selected) → (found ≡ selected) ⊎ (found ≡ other selected)
same_or_other A A = inl refl
same_or_other A B = inr refl
same_or_other B A = inr refl
same_or_other B B = inl refl

-- a selector for what was read; where there was none, any that selects area B
abbrev selector_in : Option ℕ → ℕ
selector_in None = 66
selector_in (Some byte) = byte

selects_in : (byte : Option ℕ) → selected_by (selector_in byte) ≡ selected_in byte
selects_in None = refl
selects_in (Some byte) = refl

-- the selector of a store is the one that is read
read_selector : (version : ℕ) (selected : Selected) (past : List Record) (image : List ℕ) (byte : Option ℕ) (is : IsStoreOf version selected past image) → slice_get image SELECTOR ≡ byte → byte ≡ Some is.selector
read_selector version selected past image byte is reads = sym reads ∙ byte_of SELECTOR SELECTOR [] is.selector [] image (omega arith) is.store.marked.1.0

-- what was read selects this area: each image is a store of one frame, with these records
chosen_store : (version : ℕ) (selected : Selected) (past : List Record) (image : List ℕ) (byte : Option ℕ) → slice_get image SELECTOR ≡ byte → IsStoreOf version selected past image
    → IsStore (frame_of selected version (selector_in byte)) past image
chosen_store version selected past image byte reads is =
    subst (λ (b : ℕ). IsStore (frame_of selected version b) past image) (sym (ap selector_in (read_selector version selected past image byte is reads))) is.store

not_chosen : {X : Type 0} (version : ℕ) (found selected : Selected) (past : List Record) (image : List ℕ) (byte : Option ℕ) → slice_get image SELECTOR ≡ byte → selected_in byte ≡ found → found ≡ other selected
    → IsStoreOf version selected past image → X
not_chosen version found selected past image byte reads own off is =
    absurd (off_own selected (sym is.selects ∙ ap selected_in (sym (read_selector version selected past image byte is reads)) ∙ own ∙ off))

-- of one of two, the one that is selected
chosen_here : (version : ℕ) (selected : Selected) (past rows : List Record) (image : List ℕ) (byte : Option ℕ) → slice_get image SELECTOR ≡ byte → selected_in byte ≡ selected → IsEither version selected past rows image
    → IsStore (frame_of selected version (selector_in byte)) past image
chosen_here version selected past rows image byte reads own either = ⊎_elim
    (λ (here : IsStoreOf version selected past image). chosen_store version selected past image byte reads here)
    (λ (there : IsStoreOf version (other selected) rows image). not_chosen version selected (other selected) rows image byte reads own (sym (back selected)) there)
    either
  where
    back : (selected : Selected) → other (other selected) ≡ selected
    back A = refl
    back B = refl

chosen_there : (version : ℕ) (selected : Selected) (past rows : List Record) (image : List ℕ) (byte : Option ℕ) → slice_get image SELECTOR ≡ byte → selected_in byte ≡ other selected → IsEither version selected past rows image
    → IsStore (frame_of (other selected) version (selector_in byte)) rows image
chosen_there version selected past rows image byte reads own either = ⊎_elim
    (λ (here : IsStoreOf version selected past image). not_chosen version (other selected) selected past image byte reads own refl here)
    (λ (there : IsStoreOf version (other selected) rows image). chosen_store version (other selected) rows image byte reads there)
    either

-- nothing waits
pub no_next : {X : Type 0} (waiting : Option X) (x : X) → is_some waiting ≡ false → waiting ≡ Some x → ⊥
no_next None x idle e = none-some x e
no_next (Some y) x idle e = absurd (cc)

-- ---- images

pub one_of_store : (selected : Selected) (frame : Frame) (past rows : List Record) (image : List ℕ) → IsFrameOf selected frame → IsStore frame past image → IsOneOf past rows image
one_of_store selected frame past rows image of is = inl (record { frame = frame; is_frame = record { selected = selected; of = of }; store = is })

as_areas : (version : ℕ) (selected : Selected) (past : List Record) (image : List ℕ) → (version ≡ 49 → ⊥) → IsStoreOf version selected past image → IsAreas past image
as_areas version selected past image newer is = record {
  frame = frame_of selected version is.selector;
  is_frame = record { selected = selected; of = record { version = version; newer = newer; selector = is.selector; selects = is.selects; is = refl } };
  store = is.store;
}

pub one_of_either : (version : ℕ) (selected : Selected) (past rows : List Record) (image : List ℕ) → (version ≡ 49 → ⊥) → IsEither version selected past rows image → IsOneOf past rows image
one_of_either version selected past rows image newer either = ⊎_elim
    (λ (here : IsStoreOf version selected past image). inl (as_areas version selected past image newer here))
    (λ (there : IsStoreOf version (other selected) rows image). inr (as_areas version (other selected) rows image newer there))
    either

-- ---- values

kinds_of : (selected : Selected) (frame : Frame) → IsFrameOf selected frame → frame.kinds ≡ area_kinds
kinds_of selected frame of = ap (λ (f : Frame). f.kinds) of.is

start_is : (selected : Selected) (frame : Frame) → IsFrameOf selected frame → frame.start ≡ start_of selected
start_is selected frame of = ap (λ (f : Frame). f.start) of.is

limit_is : (selected : Selected) (frame : Frame) → IsFrameOf selected frame → frame.limit ≡ limit_of selected
limit_is selected frame of = ap (λ (f : Frame). f.limit) of.is

nothing_waits : (areas : Areas) → turn_of areas ≡ Idle → lower.is_waiting (area_of areas) ≡ false → is_waiting areas ≡ false
nothing_waits areas idle waits = or_from (is_turning areas) (lower.is_waiting (area_of areas)) (ap is_turn idle) waits

module _ {D : Type 0} (g : Ghosts D) where
  -- records that stand in the selected area, of a store of one frame
  pub settled_with : (areas : Areas) (disk : D) (frame : Frame) (past : List Record) → turn_of areas ≡ Idle → IsFrameOf (selected_of areas) frame → lower.is_waiting (area_of areas) ≡ false
      → lower.start_of (area_of areas) ≡ start_of (selected_of areas) → lower.limit_of (area_of areas) ≡ limit_of (selected_of areas) → lower.end_of (area_of areas) ≡ start_of (selected_of areas) + length (spelled past)
      → AreRecords area_kinds past → AllImages g disk (IsStore frame past) → IsSettledOn g areas disk frame past
  settled_with areas disk frame past idle of waits start limit end records images = record {
    idle = nothing_waits areas idle waits;
    is_frame = of;
    area = record {
      idle = waits;
      of = record { start = start ∙ sym (start_is (selected_of areas) frame of); limit = limit ∙ sym (limit_is (selected_of areas) frame of); apart = apart_of (selected_of areas) frame of };
      place = omega (arith, end, start_is (selected_of areas) frame of);
      records = subst (λ (k : ℕ). AreRecords k past) (sym (kinds_of (selected_of areas) frame of)) records;
      images = images;
    };
  }

  may_fewer : (old new : D) (frame : Frame) (version : ℕ) (selected : Selected) (past rows : List Record) (turn : Turn) → AllImages g new (g.images old)
      → MayHold g old frame version selected past rows turn → MayHold g new frame version selected past rows turn
  may_fewer old new frame version selected past rows Idle fewer may = may
  may_fewer old new frame version selected past rows Copying fewer may = λ c left. may c (fewer c left)
  may_fewer old new frame version selected past rows (Selecting next) fewer may = (may.0, λ c left. may.1 c (fewer c left))

  -- a call that writes nothing leaves it waiting
  pub turning_fewer : (areas : Areas) (old new : D) (frame : Frame) (past rows : List Record) → AllImages g new (g.images old) → IsTurningOn g areas old frame past rows → IsTurningOn g areas new frame past rows
  turning_fewer areas old new frame past rows fewer is = record {
    is_frame = is.is_frame;
    area = is.area;
    rows_are = is.rows_are;
    images = may_fewer old new frame is.is_frame.version (selected_of areas) past rows (turn_of areas) fewer is.images;
  }

  module _ (areas later : Areas) (old new : D) (frame : Frame) (past rows : List Record) (fewer : AllImages g new (g.images old)) (is : IsTurningOn g areas old frame past rows) (idle : turn_of later ≡ Idle) where
    -- the selector stands
    pub copy_settled : turn_of areas ≡ Copying → selected_of later ≡ selected_of areas → area_of later ≡ area_of areas → IsSettledAs g later new past rows
    copy_settled turn selected area =
        let images : AllImages g old (IsStore frame past) = subst (λ (t : Turn). MayHold g old frame is.is_frame.version (selected_of areas) past rows t) turn is.images in
        record {
          frame = frame;
          kept = past;
          which = inl refl;
          settled = record {
            idle = nothing_waits later idle (ap lower.is_waiting area ∙ is.area.idle);
            is_frame = subst (λ (s : Selected). IsFrameOf s frame) (sym selected) is.is_frame;
            area = subst (λ (a : Area). lower.IsSettledOn g a new frame past) (sym area) (record {
              idle = is.area.idle;
              of = is.area.of;
              place = is.area.place;
              records = is.area.records;
              images = λ c left. images c (fewer c left);
            });
          };
        }

    -- the selector was begun, and read
    module _ (next : Area) (byte : Option ℕ) (turn : turn_of areas ≡ Selecting next) (reads : AllImages g new (λ c. slice_get c SELECTOR ≡ byte)) (chosen : selected_of later ≡ selected_in byte) where
      may : IsPlacedIn next (other (selected_of areas)) rows × AllImages g old (IsEither is.is_frame.version (selected_of areas) past rows)
      may = subst (λ (t : Turn). MayHold g old frame is.is_frame.version (selected_of areas) past rows t) turn is.images

      frame_read : (selected : Selected) → selected_in byte ≡ selected → IsFrameOf selected (frame_of selected is.is_frame.version (selector_in byte))
      frame_read selected own = record { version = is.is_frame.version; newer = is.is_frame.newer; selector = selector_in byte; selects = selects_in byte ∙ own; is = refl }

      pub stays_settled : selected_in byte ≡ selected_of areas → area_of later ≡ area_of areas → IsSettledAs g later new past rows
      stays_settled own area =
          let selected = selected_of areas in
          let here : selected_of later ≡ selected = chosen ∙ own in
          let found = frame_of selected is.is_frame.version (selector_in byte) in
          record {
            frame = found;
            kept = past;
            which = inl refl;
            settled = settled_with later new found past idle (subst (λ (s : Selected). IsFrameOf s found) (sym here) (frame_read selected own))
                (ap lower.is_waiting area ∙ is.area.idle)
                (ap lower.start_of area ∙ is.area.of.start ∙ start_is selected frame is.is_frame ∙ sym (ap start_of here))
                (ap lower.limit_of area ∙ is.area.of.limit ∙ limit_is selected frame is.is_frame ∙ sym (ap limit_of here))
                (ap lower.end_of area ∙ is.area.place ∙ ap (λ (n : ℕ). n + length (spelled past)) (start_is selected frame is.is_frame ∙ sym (ap start_of here)))
                (subst (λ (k : ℕ). AreRecords k past) (kinds_of selected frame is.is_frame) is.area.records)
                (λ c left. chosen_here is.is_frame.version selected past rows c byte (reads c left) own (may.1 c (fewer c left)));
          }

      pub turned_settled : selected_in byte ≡ other (selected_of areas) → area_of later ≡ next → lower.is_waiting next ≡ false → lower.start_of next ≡ start_of (other (selected_of areas))
          → lower.limit_of next ≡ limit_of (other (selected_of areas)) → IsSettledAs g later new past rows
      turned_settled own area waits start limit =
          let selected = other (selected_of areas) in
          let there : selected_of later ≡ selected = chosen ∙ own in
          let found = frame_of selected is.is_frame.version (selector_in byte) in
          record {
            frame = found;
            kept = rows;
            which = inr refl;
            settled = settled_with later new found rows idle (subst (λ (s : Selected). IsFrameOf s found) (sym there) (frame_read selected own))
                (ap lower.is_waiting area ∙ waits)
                (ap lower.start_of area ∙ start ∙ sym (ap start_of there))
                (ap lower.limit_of area ∙ limit ∙ sym (ap limit_of there))
                (ap lower.end_of area ∙ may.0.place ∙ ap (λ (n : ℕ). n + length (spelled rows)) (sym (ap start_of there)))
                (subst (λ (k : ℕ). AreRecords k rows) (kinds_of (selected_of areas) frame is.is_frame) is.rows_are)
                (λ c left. chosen_there is.is_frame.version (selected_of areas) past rows c byte (reads c left) own (may.1 c (fewer c left)));
          }

  -- ---- a compaction of settled areas

  module _ (areas : Areas) (old : D) (frame : Frame) (past : List Record) (is : IsSettledOn g areas old frame past) where
    pub placed : IsPlaced (area_of areas) frame past
    placed = record { idle = is.area.idle; of = is.area.of; place = is.area.place; records = is.area.records }

    pub rows_are : (rows : List Record) → AreRecords area_kinds rows → AreRecords frame.kinds rows
    rows_are rows records = subst (λ (k : ℕ). AreRecords k rows) (sym (kinds_of (selected_of areas) frame is.is_frame)) records

    -- the other area is selected, and holds the rows
    pub renewed : (later : Areas) (new : D) (rows : List Record) → turn_of later ≡ Idle → selected_of later ≡ other (selected_of areas) → lower.is_waiting (area_of later) ≡ false
        → lower.start_of (area_of later) ≡ start_of (selected_of later) → lower.limit_of (area_of later) ≡ limit_of (selected_of later) → lower.end_of (area_of later) ≡ start_of (other (selected_of areas)) + length (spelled rows)
        → AreRecords area_kinds rows → AllImages g new (IsStore (frame_of (other (selected_of areas)) is.is_frame.version (own_byte (other (selected_of areas)))) rows) → IsSettledIn g later new rows
    renewed later new rows idle turned waits start limit end records images =
        let selected = other (selected_of areas) in
        let found = frame_of selected is.is_frame.version (own_byte selected) in
        record {
          frame = found;
          settled = settled_with later new found rows idle (subst (λ (s : Selected). IsFrameOf s found) (sym turned) (turned_frame (selected_of areas) frame is.is_frame)) waits start limit
              (end ∙ ap (λ (n : ℕ). n + length (spelled rows)) (sym (ap start_of turned))) records images;
        }
