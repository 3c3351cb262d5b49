-- What of a store of areas counts: its marks, and the selected area up to the gate that ends its records. All else may be anything.
use Rattle.std.specs.Prelude.{◌≡◌, ℕ, ◌+◌, List, length, take, drop}
use Rattle.journal_records.specs.declared.record.Record.{Record}
use Rattle.journal_records.specs.Spelling.{spelled}
use Rattle.record_areas.specs.Frames.{Frame}
use Rattle.journal_compact.specs.declared.places.TheConstants.{SELECTOR}

-- two lists of bytes have the same n bytes from a place on
abbrev pub AgreeAt : ℕ → ℕ → List ℕ → List ℕ → Type 0
AgreeAt place n image other = take n (drop place image) ≡ take n (drop place other)

-- they agree in what counts of a store of a frame that holds these records
pub record AgreeIn (frame : Frame) (past : List Record) (image other : List ℕ) : Type 0 where
  pub front : AgreeAt 0 8 image other
  pub selector : AgreeAt SELECTOR 1 image other
  pub records : AgreeAt frame.start (length (spelled past) + 1) image other
