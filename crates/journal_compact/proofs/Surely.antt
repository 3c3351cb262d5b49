-- What a sure disk has of areas on each image, also where something waits to be settled.
use Rattle.std.proofs.Common.{◌≡◌, ◌⊎◌, inl, inr, ℕ, ◌+◌, ◌-◌, true, List, ◌∷◌, ◌++◌, length, Option, Some, None, Result, Ok, Err, refl, sym, ap, ◌∙◌, subst, arith, length-append}
use Rattle.std.specs.Prelude.{IfOk, OnErr, is_some}
use Rattle.ks_outside.specs.declared.disk.Disk.{Ghosts}
use Rattle.ks_outside.specs.declared.faults.Failed.{Failed}
use Rattle.ks_outside.specs.Images.{AllImages, TornFrom, tells}
use Rattle.tags.specs.declared.settled.Settled.{Settled}
use Rattle.tags.specs.declared.settled.Settled.TheVariants.{Kept, Lost}
use Rattle.journal_records.specs.declared.record.Record.{Record}
use Rattle.journal_records.specs.Spelling.{record_framed, spelled}
use Rattle.record_areas.specs.Frames.{AreRecords, Frame, HasRecords, IsStore}
use Rattle.record_areas.specs.Holding as lower
use Rattle.record_areas.specs.declared.area.Area.{Area}
use Rattle.record_areas.proofs.Unique.{same_records}
use Rattle.journal_compact.specs.declared.areas.Areas.{Areas}
use Rattle.journal_compact.specs.declared.places.Selected.{Selected}
use Rattle.journal_compact.specs.declared.places.TheConstants.{SELECTOR}
use Rattle.journal_compact.specs.declared.store_place.StorePlace.{StorePlace}
use Rattle.journal_compact.specs.Holding.{HoldsSurely, IsSettledOn, IsUnsettledOn, end_of, selected_of}
use Rattle.journal_compact.specs.Stores.{AreAreaRecords, IsFrameOf, limit_of, start_of}
use Rattle.journal_compact.specs.Turning.{IsBoth}
use Rattle.journal_compact.proofs.Turns.{above_marks, records_above}

-- ---- the records of a frame

own_records : (selected : Selected) (frame : Frame) (past : List Record) (image : List ℕ) → IsFrameOf selected frame → HasRecords frame.start frame.limit past image → HasRecords (start_of selected) (limit_of selected) past image
own_records selected frame past image of has = subst (λ (f : Frame). HasRecords f.start f.limit past image) of.is has

-- the other way
frame_records : (selected : Selected) (frame : Frame) (past : List Record) (image : List ℕ) → IsFrameOf selected frame → HasRecords (start_of selected) (limit_of selected) past image → HasRecords frame.start frame.limit past image
frame_records selected frame past image of has = subst (λ (f : Frame). HasRecords f.start f.limit past image) (sym of.is) has

pub store_records : (selected : Selected) (frame : Frame) (past : List Record) (image : List ℕ) → IsFrameOf selected frame → IsStore frame past image → HasRecords (start_of selected) (limit_of selected) past image
store_records selected frame past image of store = own_records selected frame past image of store.records

start_is : (selected : Selected) (frame : Frame) → IsFrameOf selected frame → frame.start ≡ start_of selected
start_is selected frame of = ap (λ (f : Frame). f.start) of.is

-- ---- a disk

module _ {D : Type 0} (g : Ghosts D) (areas : Areas) (disk : D) (frame : Frame) (past : List Record) (sure : g.is_sure disk) where
  pub surely_in : IsFrameOf (selected_of areas) frame → end_of areas ≡ frame.start + length (spelled past) → AllImages g disk (HasRecords (start_of (selected_of areas)) (limit_of (selected_of areas)) past) → HoldsSurely g areas disk past
  surely_in of place images = record {
    sure = sure;
    place = place ∙ ap (λ (n : ℕ). n + length (spelled past)) (start_is (selected_of areas) frame of);
    images = images;
  }

  pub surely_of : IsFrameOf (selected_of areas) frame → end_of areas ≡ frame.start + length (spelled past) → AllImages g disk (IsStore frame past) → HoldsSurely g areas disk past
  surely_of of place stores = surely_in of place (λ image left. store_records (selected_of areas) frame past image of (stores image left))

  pub settled_surely : IsSettledOn g areas disk frame past → HoldsSurely g areas disk past
  settled_surely is = surely_of is.is_frame is.area.place is.area.images

-- ---- a store that turns

module _ {D : Type 0} (g : Ghosts D) (selected : Selected) (frame : Frame) (past rows : List Record) (of : IsFrameOf selected frame) where
  -- the selector is no record
  pub beside_all : (old new : D) → AllImages g old (IsBoth frame selected past rows) → AllImages g new (TornFrom g old SELECTOR 1) → AllImages g new (HasRecords (start_of selected) (limit_of selected) past)
  beside_all old new both torn image left =
      let from = torn image left in
      records_above (start_of selected) (limit_of selected) SELECTOR 1 past from.0 image (above_marks selected) from.2
      (store_records selected frame past from.0 of (both from.0 from.1).store)

pub fewer_on_err : {T E D : Type 0} (g : Ghosts D) (result : Result T E) (old new : D) (P : List ℕ → Type 0) → OnErr result (AllImages g new (g.images old)) → AllImages g old P → OnErr result (AllImages g new P)
fewer_on_err g (Ok done) old new P fewer all = tt
fewer_on_err g (Err fault) old new P fewer all = λ image left. all image (fewer image left)

-- ---- a settling

-- an image of a disk that tells its bytes
told : {X : Type 0} (content : Option X) → is_some content ≡ true → (x : X) × (content ≡ Some x)
told None never = absurd (cc)
told (Some x) now = (x, refl)

pub told_image : {D : Type 0} (g : Ghosts D) (disk : D) → ((d : D) (c : List ℕ) → g.content d ≡ Some c → g.images d c) → tells g disk ≡ true → (c : List ℕ) × g.images disk c
told_image g disk images tells_it = let found = told (g.content disk) tells_it in (found.0, images disk found.0 found.1)

-- a record that left nothing is not found: the records would reach further than they do
module _ {D : Type 0} (g : Ghosts D) (areas : Areas) (area : Area) (old new : D) (frame : Frame) (past kept : List Record) (it : Record) (is : IsUnsettledOn g areas old frame past it) (fits : AreAreaRecords kept) (surely : HoldsSurely g areas old kept) where
  pub never_kept : {E : Type 0} (result : Result Settled E) (image : List ℕ) → g.images new image → AllImages g new (g.images old) → lower.SettlesTo g area new frame past it result → IfOk result (λ settled. settled ≡ Lost)
  never_kept (Ok Lost) image left fewer settles = refl
  never_kept (Ok Kept) image left fewer settles =
      let before = frame_records (selected_of areas) frame kept image is.is_frame (surely.images image (fewer image left)) in
      let after = (settles.images image left).records in
      let fit = subst (λ (f : Frame). AreRecords f.kinds kept) (sym is.is_frame.is) fits in
      let same = same_records frame.start frame.limit frame.kinds kept (it ∷ past) image fit is.area.records before after in
      absurd (omega (arith, ap (λ (l : List Record). length (spelled l)) same, length-append (spelled past) (record_framed it), surely.place, is.area.place, start_is (selected_of areas) frame is.is_frame))
  never_kept (Err fault) image left fewer settles = tt
