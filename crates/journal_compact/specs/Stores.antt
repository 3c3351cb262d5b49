-- Stores of two areas: what marks one, where its areas are, and which of them is selected.
use Rattle.std.specs.Prelude.{◌≡◌, ◌≢◌, ◌⊎◌, ℕ, ◌+◌, ◌==◌, List, [], ◌∷◌, ◌++◌, Option, None, Some, slice_get, if◌then◌else◌, ⊤}
use Rattle.std.proofs.Common.{inl, sym, subst, arith}
use Rattle.gated_records.specs.Areas.{HoldsAt}
use Rattle.journal_records.specs.declared.record.Record.{Record}
use Rattle.journal_records.specs.Storable.{area_kinds}
use Rattle.record_areas.specs.Frames.{AreRecords, Frame, IsBrokenAt, IsFrame, IsMarked, IsStore}
use Rattle.journal_compact.specs.declared.places.Selected.{Selected}
use Rattle.journal_compact.specs.declared.places.Selected.TheVariants.{A, B}
use Rattle.journal_compact.specs.declared.places.TheConstants.{AREA_A, AREA_B, AREA_BYTES, JOURNAL, SELECTOR, SELECTS_A, SELECTS_B}

-- KSJRNL0
abbrev pub magic : List ℕ
magic = 75 ∷ 83 ∷ 74 ∷ 82 ∷ 78 ∷ 76 ∷ 48 ∷ []

-- ---- areas

-- the area that a selector selects
abbrev pub selected_by : ℕ → Selected
selected_by byte = if byte == SELECTS_A then A else B

-- and where there is no selector
abbrev pub selected_in : Option ℕ → Selected
selected_in None = B
selected_in (Some byte) = selected_by byte

-- the byte that is written to select an area
abbrev pub byte_of : Selected → ℕ
byte_of A = SELECTS_A
byte_of B = SELECTS_B

abbrev pub other : Selected → Selected
other A = B
other B = A

-- where an area begins
abbrev pub start_of : Selected → ℕ
start_of A = AREA_A
start_of B = AREA_B

-- before which place it ends
abbrev pub limit_of : Selected → ℕ
limit_of selected = start_of selected + AREA_BYTES

-- ---- stores

-- the front of a store of a version
abbrev pub front : ℕ → List ℕ
front version = magic ++ version ∷ []

-- A store of a version whose selector selects this area: it is marked by its front and by that byte, and its records stand in the area.
abbrev pub frame_of : Selected → ℕ → ℕ → Frame
frame_of selected version selector = record {
  marks = record { place = 0; bytes = front version } ∷ record { place = SELECTOR; bytes = selector ∷ [] } ∷ [];
  start = start_of selected;
  limit = limit_of selected;
  kinds = area_kinds;
}

is_frame : (selected : Selected) (version selector : ℕ) → IsFrame (frame_of selected version selector)
is_frame A version selector = (record { some = omega arith; apart = inl (omega arith) }, (record { some = omega arith; apart = inl (omega arith) }, tt))
is_frame B version selector = (record { some = omega arith; apart = inl (omega arith) }, (record { some = omega arith; apart = inl (omega arith) }, tt))

-- the frame is that of a store of areas of which this one is selected; its version is not that of a journal
pub record IsFrameOf (selected : Selected) (frame : Frame) : Type 0 where
  pub version : ℕ
  pub newer : version ≢ JOURNAL
  pub selector : ℕ
  pub selects : selected_by selector ≡ selected
  pub is : frame ≡ frame_of selected version selector

pub apart_of : (selected : Selected) (frame : Frame) → IsFrameOf selected frame → IsFrame frame
apart_of selected frame of = subst IsFrame (sym of.is) (is_frame selected of.version of.selector)

-- the frame is that of a store of areas
pub record IsAreasFrame (frame : Frame) : Type 0 where
  pub selected : Selected
  pub of : IsFrameOf selected frame

-- the image is a store of areas that holds these records
pub record IsAreas (past : List Record) (image : List ℕ) : Type 0 where
  pub frame : Frame
  pub is_frame : IsAreasFrame frame
  pub store : IsStore frame past image

-- the same of a store of this version, of which this area is selected
pub record IsStoreOf (version : ℕ) (selected : Selected) (past : List Record) (image : List ℕ) : Type 0 where
  pub selector : ℕ
  pub selects : selected_by selector ≡ selected
  pub store : IsStore (frame_of selected version selector) past image

-- ---- what is no store of areas

-- no byte, or that of a journal
abbrev pub IsNoVersion : Option ℕ → Type 0
IsNoVersion None = ⊤
IsNoVersion (Some version) = version ≡ JOURNAL

-- the image has the marks of no store of areas, and this is the place of what is wrong first
pub data IsUnmarked (image : List ℕ) (offset : ℕ) : Type 0 where
  NoMagic : (HoldsAt 0 magic image → ⊥) → offset ≡ 0 → IsUnmarked image offset
  NoVersion : HoldsAt 0 magic image → IsNoVersion (slice_get image 7) → offset ≡ 7 → IsUnmarked image offset
  NoSelector : HoldsAt 0 magic image → (IsNoVersion (slice_get image 7) → ⊥) → slice_get image SELECTOR ≡ None → offset ≡ SELECTOR → IsUnmarked image offset

-- the image is a store of such a frame whose records are broken off here
pub record IsBrokenOff (image : List ℕ) (offset : ℕ) : Type 0 where
  pub frame : Frame
  pub is_frame : IsAreasFrame frame
  pub marked : IsMarked frame image
  pub broken : IsBrokenAt frame.start frame.limit frame.kinds image offset

-- the image is no store of areas, and this is the place of what is wrong first
abbrev pub IsCorrupted : List ℕ → ℕ → Type 0
IsCorrupted image offset = IsUnmarked image offset ⊎ IsBrokenOff image offset

-- records that a store of areas can hold
abbrev pub AreAreaRecords : List Record → Type 0
AreAreaRecords past = AreRecords area_kinds past
