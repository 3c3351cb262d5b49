-- A journal that is brought to areas.
use Rattle.std.specs.Prelude.{◌≡◌, ◌⊎◌, ℕ, ◌+◌, List, [], ◌∷◌, length, take}
use Rattle.gated_records.specs.Areas.{HoldsAt}
use Rattle.journal_records.specs.declared.record.Record.{Record}
use Rattle.journal_records.specs.Spelling.{spelled}
use Rattle.record_areas.specs.Frames.{Frame, HasRecords}
use Rattle.use_journal.specs.Journal.{IsJournal, journal_frame}
use Rattle.journal_compact.specs.declared.places.Selected.TheVariants.{A}
use Rattle.journal_compact.specs.declared.places.TheConstants.{SELECTOR, SELECTS_A, VERSION}
use Rattle.journal_compact.specs.Stores.{IsAreas, frame_of, limit_of, start_of}

-- area A has these rows, and is selected
pub record IsFirst (rows : List Record) (image : List ℕ) : Type 0 where
  pub selector : HoldsAt SELECTOR (SELECTS_A ∷ []) image
  pub rows_are : HasRecords (start_of A) (limit_of A) rows image

-- a journal with these records, and those rows beside it
pub record IsBeside (past rows : List Record) (image : List ℕ) : Type 0 where
  pub journal : IsJournal past image
  pub first : IsFirst rows image

-- a journal with these records, or a store of areas with those
abbrev pub IsOlderOrNew : List Record → List Record → List ℕ → Type 0
IsOlderOrNew past rows image = IsJournal past image ⊎ IsAreas rows image

-- the frame of the store that a journal becomes
abbrev pub new_frame : Frame
new_frame = frame_of A VERSION SELECTS_A

-- two lists of bytes have the same bytes up to the gate that ends the records of a journal
abbrev pub AgreeUpTo : List Record → List ℕ → List ℕ → Type 0
AgreeUpTo past image other =
    take (journal_frame.start + length (spelled past) + 1) image ≡ take (journal_frame.start + length (spelled past) + 1) other
