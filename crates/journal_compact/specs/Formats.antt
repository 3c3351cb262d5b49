-- Stores of either format: a journal, or two areas.
use Rattle.std.specs.Prelude.{◌≡◌, ℕ, List, None, Some, slice_get, ⊤}
use Rattle.ks_outside.specs.declared.disk.Disk.{Ghosts}
use Rattle.ks_outside.specs.Images.{AllImages}
use Rattle.gated_records.specs.Areas.{HoldsAt}
use Rattle.journal_records.specs.declared.fault.StoreFault.{StoreFault}
use Rattle.journal_records.specs.declared.fault.StoreFault.TheVariants as faults
use Rattle.journal_records.specs.Storable.{area_kinds}
use Rattle.record_areas.specs.Frames.{Frame, IsMarked}
use Rattle.use_journal.specs.Journal.{journal_frame}
use Rattle.journal_compact.specs.declared.format.Format.{Format}
use Rattle.journal_compact.specs.declared.format.Format.TheVariants as formats
use Rattle.journal_compact.specs.declared.places.TheConstants.{JOURNAL, SELECTOR}
use Rattle.journal_compact.specs.Holding.{IsMarkedOn}
use Rattle.journal_compact.specs.Stores.{IsAreasFrame, IsNoVersion, limit_of, magic, start_of}

-- the frame is one that a store may have: that of areas, of which either is selected, or that of a journal
pub data IsStoreFrame (frame : Frame) : Type 0 where
  OfAreas : IsAreasFrame frame → IsStoreFrame frame
  OfJournal : frame ≡ journal_frame → IsStoreFrame frame

-- The image has the marks of no such frame, and this is the place of what is wrong first: it begins with other bytes, or has no version, or has
-- one of areas and no selector.
pub data IsNoStore (image : List ℕ) (offset : ℕ) : Type 0 where
  OtherFront : (HoldsAt 0 magic image → ⊥) → offset ≡ 0 → IsNoStore image offset
  VersionLess : HoldsAt 0 magic image → slice_get image 7 ≡ None → offset ≡ 7 → IsNoStore image offset
  SelectorLess : HoldsAt 0 magic image → (IsNoVersion (slice_get image 7) → ⊥) → slice_get image SELECTOR ≡ None → offset ≡ SELECTOR → IsNoStore image offset

-- the version of the image is that of a journal
abbrev pub IsOlder : List ℕ → Type 0
IsOlder image = slice_get image 7 ≡ Some JOURNAL

-- ---- what is found

-- where the records of a store of the format begin
abbrev pub start_in : Format → ℕ
start_in formats.Journal = journal_frame.start
start_in (formats.Areas selected) = start_of selected

-- before which place they end
abbrev pub limit_in : Format → ℕ
limit_in formats.Journal = journal_frame.limit
limit_in (formats.Areas selected) = limit_of selected

-- and the greatest kind of them
abbrev pub kinds_in : Format → ℕ
kinds_in formats.Journal = journal_frame.kinds
kinds_in (formats.Areas selected) = area_kinds

-- each image has the marks of a store of the format
abbrev pub HasFormat : {D : Type 0} → Ghosts D → D → Format → Type 0
HasFormat g disk formats.Journal = AllImages g disk (IsMarked journal_frame)
HasFormat g disk (formats.Areas selected) = IsMarkedOn g disk selected

-- why none was found on these bytes: they are no store; or a call failed
abbrev pub MissesFormat : List ℕ → StoreFault → Type 0
MissesFormat image faults.Device = ⊤
MissesFormat image (faults.Corrupted offset) = IsNoStore image offset
MissesFormat image faults.Memory = ⊥
