-- When an area and a disk hold a list of records, and what each call leaves.
use Rattle.std.specs.Prelude.{◌≡◌, ◌+◌, ◌-◌, ℕ, List, ◌∷◌, length, Bool, true, false, Option, Some, None, is_some, Result, Ok, Err, ⊤}
use Rattle.ks_outside.specs.declared.disk.Disk.{Ghosts}
use Rattle.ks_outside.specs.Images.{AllImages, Passes}
use Rattle.tags.specs.declared.settled.Settled.{Settled}
use Rattle.tags.specs.declared.settled.Settled.TheVariants.{Kept, Lost}
use Rattle.journal_records.specs.declared.record.Record.{Record}
use Rattle.journal_records.specs.declared.fault.StoreFault.{StoreFault}
use Rattle.journal_records.specs.declared.fault.StoreFault.TheVariants as faults
use Rattle.journal_records.specs.Commits.{CommitState, Committed, InDoubt, NotBegun, is_in_doubt}
use Rattle.journal_records.specs.Spelling.{spelled}
use Rattle.record_areas.specs.Frames.{Frame, AreRecords, HasRecords, IsBeforeOrAfter, IsBrokenAt, IsFrame, IsStore, past_of, placed}
use Rattle.record_areas.specs.declared.area.Area.{Area}

-- where its records begin
abbrev pub start_of : Area → ℕ
start_of area = area.start

-- before which place they end
abbrev pub limit_of : Area → ℕ
limit_of area = area.limit

-- the place of the gate behind them
abbrev pub end_of : Area → ℕ
end_of area = area.end

-- where they end with the record that waits to be settled, where there is one
abbrev pub end_with : Area → Option ℕ
end_with area = area.pending

-- whether a record whose writing failed waits to be settled
abbrev pub is_waiting : Area → Bool
is_waiting area = is_some (end_with area)

-- the area is where the frame's records may stand
pub record IsOf (frame : Frame) (area : Area) : Type 0 where
  pub start : start_of area ≡ frame.start
  pub limit : limit_of area ≡ frame.limit
  pub apart : IsFrame frame

-- settled: each image is a store of the frame that holds these records. That the area knows their end does not rest on what the disk tells.
pub record IsSettledOn {D : Type 0} (g : Ghosts D) (area : Area) (disk : D) (frame : Frame) (past : List Record) : Type 0 where
  pub idle : is_waiting area ≡ false
  pub of : IsOf frame area
  pub place : end_of area ≡ frame.start + length (spelled past)
  pub records : AreRecords frame.kinds past
  pub images : AllImages g disk (IsStore frame past)

-- unsettled: each image holds these records, or those with one more
pub record IsUnsettledOn {D : Type 0} (g : Ghosts D) (area : Area) (disk : D) (frame : Frame) (past : List Record) (it : Record) : Type 0 where
  pub waits : end_with area ≡ Some (frame.start + length (spelled (it ∷ past)))
  pub of : IsOf frame area
  pub place : end_of area ≡ frame.start + length (spelled past)
  pub records : AreRecords frame.kinds (it ∷ past)
  pub images : AllImages g disk (IsBeforeOrAfter frame past it)

-- what an append leaves, by what became of it
abbrev pub Appended : {D : Type 0} → Ghosts D → Area → D → Frame → List Record → Record → CommitState → Type 0
Appended g area disk frame past it Committed = IsSettledOn g area disk frame (it ∷ past)
Appended g area disk frame past it InDoubt = IsUnsettledOn g area disk frame past it
Appended g area disk frame past it NotBegun = IsSettledOn g area disk frame past

-- An append of a record, between the old disk and the new one: what it leaves; at each moment each image has the records from before or
-- those with the new one; and where a sure disk's call failed, the new one is on no image.
pub record Appends {D : Type 0} (g : Ghosts D) (area : Area) (old new : D) (frame : Frame) (past : List Record) (it : Record) (state : CommitState) : Type 0 where
  pub appended : Appended g area new frame past it state
  pub passes : Passes g old new (IsBeforeOrAfter frame past it)
  pub nothing : g.is_sure old → is_in_doubt state ≡ true → AllImages g new (IsStore frame past)

-- where the records end after an append of a record and its closing byte, so many bytes
abbrev pub end_after : ℕ → CommitState → ℕ → ℕ
end_after count Committed end = end + (count - 1)
end_after count InDoubt end = end
end_after count NotBegun end = end

-- where they end with the record that waits after it
abbrev pub pending_after : ℕ → CommitState → ℕ → Option ℕ
pending_after count Committed end = None
pending_after count InDoubt end = Some (end + (count - 1))
pending_after count NotBegun end = None

-- where the records end after a settling, where they ended here with the record that waited
abbrev pub end_settled : {E : Type 0} → Result Settled E → Option ℕ → ℕ → ℕ
end_settled (Ok Kept) (Some next) end = next
end_settled _ next end = end

-- what a settling leaves, by its answer
abbrev pub SettlesTo : {D E : Type 0} → Ghosts D → Area → D → Frame → List Record → Record → Result Settled E → Type 0
SettlesTo g area disk frame past it (Ok Kept) = IsSettledOn g area disk frame (it ∷ past)
SettlesTo g area disk frame past it (Ok Lost) = IsSettledOn g area disk frame past
SettlesTo g area disk frame past it (Err fault) = IsUnsettledOn g area disk frame past it

-- the same places
pub record KeepsPlaces (old new : Area) : Type 0 where
  pub start : start_of new ≡ start_of old
  pub limit : limit_of new ≡ limit_of old

-- what a reading found on these bytes, by its answer
abbrev pub ReadsArea : ℕ → ℕ → ℕ → List ℕ → Result (Area × List (ℕ × Record)) StoreFault → Type 0
ReadsArea start limit kinds image (Ok opened) = HasRecords start limit (past_of opened.1) image
ReadsArea start limit kinds image (Err faults.Device) = ⊤
ReadsArea start limit kinds image (Err (faults.Corrupted offset)) = IsBrokenAt start limit kinds image offset
ReadsArea start limit kinds image (Err faults.Memory) = ⊤

-- what a reading knows besides, on any disk: where the records stand, and that they are of these kinds
pub record IsRead (start limit kinds : ℕ) (area : Area) (all : List (ℕ × Record)) : Type 0 where
  pub idle : is_waiting area ≡ false
  pub start_is : start_of area ≡ start
  pub limit_is : limit_of area ≡ limit
  pub end_is : end_of area ≡ start + length (spelled (past_of all))
  pub places : all ≡ placed start (past_of all)
  pub records : AreRecords kinds (past_of all)

-- the frame's records may stand there, and are of these kinds
pub record IsFrameOf (frame : Frame) (start limit kinds : ℕ) : Type 0 where
  pub start_is : frame.start ≡ start
  pub limit_is : frame.limit ≡ limit
  pub kinds_is : frame.kinds ≡ kinds
  pub apart : IsFrame frame

-- what a reading finds where the bytes have these records
abbrev pub FindsRecords : ℕ → List Record → Result (Area × List (ℕ × Record)) StoreFault → Type 0
FindsRecords start past (Ok opened) = opened.1 ≡ placed start past
FindsRecords start past (Err faults.Device) = ⊤
FindsRecords start past (Err (faults.Corrupted offset)) = ⊥
FindsRecords start past (Err faults.Memory) = ⊤
