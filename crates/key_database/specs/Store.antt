-- What the bytes of a store stand for.
use Rattle.std.specs.Prelude.{◌≡◌, ◌⊎◌, ℕ, ◌+◌, false, List, ◌∷◌, ◌++◌, length, Option, Some}
use Rattle.journal_records.specs.Carrying.{part_left}
use Rattle.journal_records.specs.declared.record.Record.{Record}
use Rattle.journal_records.specs.LastingPart.{Lasting}
use Rattle.journal_records.specs.Holding.{Holding, Sure, Unsure}
use Rattle.journal_records.specs.Spelling.{spelled}
use Rattle.journal_records.specs.States.{ReadState, met_in, state_of}
use Rattle.record_areas.specs.Frames.{AreRecords, Frame, IsBrokenAt, IsMarked, IsStore}
use Rattle.key_database.specs.Frames.{HasNoFrame, IsStoreFrame}

-- the lasting part of a state
abbrev pub part_of : ReadState → Lasting
part_of state = state.part

-- the lasting part that records leave, the newest first: read in turn from the empty lasting part, each with its need met; None where a
-- need is not
abbrev pub left_by : List Record → Option Lasting
left_by past = part_left past

-- The image stands for the lasting part: it is a store of a frame that a store may have, and its records leave this one.
pub record StandsFor (part : Lasting) (image : List ℕ) : Type 0 where
  pub frame : Frame
  pub is_frame : IsStoreFrame frame
  pub past : List Record
  pub records : AreRecords frame.kinds past
  pub store : IsStore frame past image
  pub lasting : left_by past ≡ Some part

-- of records that begin here, this is the place of the gate of the first one whose need is not met
pub record IsUnmetIn (start : ℕ) (past : List Record) (offset : ℕ) : Type 0 where
  pub before : List Record
  pub it : Record
  pub later : List Record
  pub is : past ≡ later ++ it ∷ before
  pub state : ReadState
  pub left : state_of before ≡ Some state
  pub unmet : met_in state it ≡ false
  pub place : offset ≡ start + length (spelled before)

-- the image is a store of such a frame, and this is the place of its first record whose need is not met
pub record HasUnmet (image : List ℕ) (offset : ℕ) : Type 0 where
  pub frame : Frame
  pub is_frame : IsStoreFrame frame
  pub past : List Record
  pub records : AreRecords frame.kinds past
  pub store : IsStore frame past image
  pub first : IsUnmetIn frame.start past offset

-- the image has the marks of such a frame, and this is the place where its records are broken off
pub record IsBrokenOff (image : List ℕ) (offset : ℕ) : Type 0 where
  pub frame : Frame
  pub is_frame : IsStoreFrame frame
  pub marked : IsMarked frame image
  pub broken : IsBrokenAt frame.start frame.limit frame.kinds image offset

-- The image stands for no lasting part, and this is the place of what is wrong first: of what marks no store, or else of where the records
-- are broken off, or else of the first need that is not met.
pub data IsBadStore (image : List ℕ) (offset : ℕ) : Type 0 where
  NoFrame : HasNoFrame image offset → IsBadStore image offset
  BrokenOff : IsBrokenOff image offset → IsBadStore image offset
  UnmetNeed : HasUnmet image offset → IsBadStore image offset

-- the image stands for a lasting part that may be the one
abbrev pub MayBe : Holding → List ℕ → Type 0
MayBe (Sure part) image = StandsFor part image
MayBe (Unsure part later) image = StandsFor part image ⊎ StandsFor later image

-- it stands for one that may have been before, or may be after
abbrev pub Between : Holding → Holding → List ℕ → Type 0
Between before after image = MayBe before image ⊎ MayBe after image
