-- What a journal knows of its records, and what an opening finds.
use Rattle.std.specs.Prelude.{◌≡◌, ℕ, List, Bool, Option, Result, Ok, Err, ⊤}
use Rattle.journal_records.specs.declared.record.Record.{Record}
use Rattle.journal_records.specs.declared.fault.StoreFault.{StoreFault}
use Rattle.journal_records.specs.declared.fault.StoreFault.TheVariants as faults
use Rattle.record_areas.specs.Frames.{IsMarked, past_of, placed}
use Rattle.record_areas.specs.Holding as areas
use Rattle.record_areas.specs.declared.area.Area.{Area}
use Rattle.use_journal.specs.Journal.{IsCorrupted, IsJournal, journal_frame}
use Rattle.use_journal.specs.declared.journal.Journal.{Journal}
use Rattle.use_journal.specs.declared.journal.TheConstants.{HEADER_BYTES}

-- the area of its records
abbrev pub area_of : Journal → Area
area_of journal = journal.area

-- the place of the gate behind the records
abbrev pub end_of : Journal → ℕ
end_of journal = areas.end_of (area_of journal)

-- where the records end with the change that waits to be settled, where there is one
abbrev pub end_with : Journal → Option ℕ
end_with journal = areas.end_with (area_of journal)

-- whether a change whose writing failed waits to be settled
abbrev pub is_waiting : Journal → Bool
is_waiting journal = areas.is_waiting (area_of journal)

-- what an opening read of these bytes, by its answer
abbrev pub ReadsJournal : List ℕ → Result (Journal × List (ℕ × Record)) StoreFault → Type 0
ReadsJournal image (Ok opened) = IsJournal (past_of opened.1) image
ReadsJournal image (Err faults.Device) = ⊤
ReadsJournal image (Err (faults.Corrupted offset)) = IsCorrupted image offset
ReadsJournal image (Err faults.Memory) = ⊤

-- what an opening finds where the bytes are a journal of these records
abbrev pub FindsJournal : List Record → Result (Journal × List (ℕ × Record)) StoreFault → Type 0
FindsJournal past (Ok opened) = opened.1 ≡ placed HEADER_BYTES past
FindsJournal past (Err faults.Device) = ⊤
FindsJournal past (Err (faults.Corrupted offset)) = ⊥
FindsJournal past (Err faults.Memory) = ⊤

-- why a header was not found on these bytes: it is not there, and that is told of the first place; or a call failed
abbrev pub MissesHeader : List ℕ → StoreFault → Type 0
MissesHeader image faults.Device = ⊤
MissesHeader image (faults.Corrupted offset) = (IsMarked journal_frame image → ⊥) × (offset ≡ 0)
MissesHeader image faults.Memory = ⊥
