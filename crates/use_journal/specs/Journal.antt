-- What the bytes of a journal stand for. Records are listed with the newest first.
use Rattle.std.proofs.Common.{◌≡◌, inl, ℕ, List, [], ◌∷◌, arith}
use Rattle.journal_records.specs.declared.record.Record.{Record}
use Rattle.record_areas.specs.Frames.{AreRecords, Frame, IsBrokenAt, IsFrame, IsMarked, IsStore}
use Rattle.tags.specs.declared.limits.TheConstants.{JOURNAL_BYTES}
use Rattle.use_journal.specs.declared.journal.TheConstants.{HEADER_BYTES, KINDS}

-- KSJRNL01
abbrev pub header : List ℕ
header = 75 ∷ 83 ∷ 74 ∷ 82 ∷ 78 ∷ 76 ∷ 48 ∷ 49 ∷ []

-- a journal is marked by the header at its front, and has records of changes alone behind it, up to its end
abbrev pub journal_frame : Frame
journal_frame = record { marks = record { place = 0; bytes = header } ∷ []; start = HEADER_BYTES; limit = JOURNAL_BYTES; kinds = KINDS }

pub is_frame : IsFrame journal_frame
is_frame = (record { some = omega arith; apart = inl (omega arith) }, tt)

-- The image is a journal of these records: the header and the records, and behind them, before the place 268,435,456, a gate that is
-- shut. What follows that gate is anything.
abbrev pub IsJournal : List Record → List ℕ → Type 0
IsJournal past image = IsStore journal_frame past image

-- records that a journal can hold
abbrev pub AreChanges : List Record → Type 0
AreChanges past = AreRecords KINDS past

-- the image is no journal, and this is the place of what is wrong first: 0 where the header is not there, and else
-- the place of the gate where its records are broken off
pub data IsCorrupted (image : List ℕ) (offset : ℕ) : Type 0 where
  NoHeader : (IsMarked journal_frame image → ⊥) → offset ≡ 0 → IsCorrupted image offset
  BrokenOff : IsMarked journal_frame image → IsBrokenAt HEADER_BYTES JOURNAL_BYTES KINDS image offset → IsCorrupted image offset
