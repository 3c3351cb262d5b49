-- Bytes are a journal of one list of records at most, or have their first fault at one place.
use Rattle.std.proofs.Common.{◌≡◌, ℕ, List, ◌∙◌, sym}
use Rattle.journal_records.specs.declared.record.Record.{Record}
use Rattle.record_areas.specs.Frames.{AreRecords, HasRecords, IsBrokenAt}
use Rattle.use_journal.specs.Journal.{AreChanges, BrokenOff, IsCorrupted, IsJournal, NoHeader}
use Rattle.tags.specs.declared.limits.TheConstants.{JOURNAL_BYTES}

pub not_corrupted : ((start limit kinds : ℕ) (past : List Record) (offset : ℕ) (image : List ℕ) → AreRecords kinds past → HasRecords start limit past image → IsBrokenAt start limit kinds image offset → ⊥)
    → (past : List Record) (offset : ℕ) (image : List ℕ) → AreChanges past → IsJournal past image → IsCorrupted image offset → ⊥
not_corrupted sound past offset image records journal (NoHeader none at) = none journal.marked
not_corrupted sound past offset image records journal (BrokenOff marked broken) = sound 8 JOURNAL_BYTES 7 past offset image records journal.records broken

pub one_place : ((start limit kinds : ℕ) (offset other : ℕ) (image : List ℕ) → IsBrokenAt start limit kinds image offset → IsBrokenAt start limit kinds image other → offset ≡ other)
    → (offset other : ℕ) (image : List ℕ) → IsCorrupted image offset → IsCorrupted image other → offset ≡ other
one_place place offset other image (NoHeader none at) (NoHeader none' at') = at ∙ sym at'
one_place place offset other image (NoHeader none at) (BrokenOff marked broken) = absurd (none marked)
one_place place offset other image (BrokenOff marked broken) (NoHeader none at) = absurd (none marked)
one_place place offset other image (BrokenOff marked broken) (BrokenOff marked' broken') = place 8 JOURNAL_BYTES 7 offset other image broken broken'
