-- A store that turns from one of its areas to the other.
use Rattle.std.specs.Prelude.{◌⊎◌, ℕ, List, [], ◌∷◌}
use Rattle.journal_records.specs.declared.record.Record.{Record}
use Rattle.record_areas.specs.Frames.{Frame, HasRecords, IsStore}
use Rattle.journal_compact.specs.declared.places.Selected.{Selected}
use Rattle.journal_compact.specs.Stores.{IsStoreOf, limit_of, other, start_of}

-- a store of a version of which this area is selected, with these records, or the other area, with those
abbrev pub IsEither : ℕ → Selected → List Record → List Record → List ℕ → Type 0
IsEither version selected past rows image = IsStoreOf version selected past image ⊎ IsStoreOf version (other selected) rows image

-- a store of a frame, of which this area is selected, with these records, and with those in the other area
pub record IsBoth (frame : Frame) (selected : Selected) (past rows : List Record) (image : List ℕ) : Type 0 where
  pub store : IsStore frame past image
  pub beside : HasRecords (start_of (other selected)) (limit_of (other selected)) rows image

-- what an area begins with that was left: an open gate, and the length of a body that passes its end
abbrev pub seal : List ℕ
seal = 75 ∷ 255 ∷ 255 ∷ 255 ∷ 255 ∷ []
