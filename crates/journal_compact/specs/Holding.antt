-- When areas and a disk hold a list of records, and what each call leaves.
use Rattle.std.specs.Prelude.{◌≡◌, ◌⊎◌, ℕ, ◌+◌, ◌-◌, List, ◌∷◌, length, Bool, false, ◌||◌, Option, Result, Ok, Err, OnErr, ⊤}
use Rattle.ks_outside.specs.declared.disk.Disk.{Ghosts}
use Rattle.ks_outside.specs.declared.faults.Failed.{Failed}
use Rattle.ks_outside.specs.Images.{AllImages, Passes}
use Rattle.ks_outside.specs.Ranges.{Torn}
use Rattle.tags.specs.declared.settled.Settled.{Settled}
use Rattle.tags.specs.declared.settled.Settled.TheVariants.{Kept, Lost}
use Rattle.journal_records.specs.declared.record.Record.{Record}
use Rattle.journal_records.specs.declared.fault.StoreFault.{StoreFault}
use Rattle.journal_records.specs.declared.fault.StoreFault.TheVariants as faults
use Rattle.journal_records.specs.Commits.{CommitState, Committed, InDoubt}
use Rattle.journal_records.specs.Spelling.{spelled}
use Rattle.record_areas.specs.Frames.{AreRecords, Frame, HasRecords, IsBeforeOrAfter, IsMarked, IsStore, past_of, placed}
use Rattle.record_areas.specs.Holding as lower
use Rattle.record_areas.specs.declared.area.Area.{Area}
use Rattle.journal_compact.specs.declared.areas.Areas.{Areas}
use Rattle.journal_compact.specs.declared.areas.Turn.{Turn}
use Rattle.journal_compact.specs.declared.areas.Turn.TheVariants.{Idle, Copying, Selecting}
use Rattle.journal_compact.specs.declared.places.Selected.{Selected}
use Rattle.journal_compact.specs.declared.places.TheConstants.{AREA_A, SELECTOR}
use Rattle.journal_compact.specs.declared.store_place.StorePlace.{StorePlace}
use Rattle.journal_compact.specs.Counts.{IsCounted}
use Rattle.journal_compact.specs.Stores.{IsAreas, IsCorrupted, IsFrameOf, limit_of, other, start_of}
use Rattle.journal_compact.specs.Turning.{IsEither}
use Rattle.journal_compact.specs.Waiting.{is_turn}

-- ---- the value

-- the area that is selected
abbrev pub selected_of : Areas → Selected
selected_of areas = areas.selected

-- with its records
abbrev pub area_of : Areas → Area
area_of areas = areas.area

-- what of a compaction waits to be settled
abbrev pub turn_of : Areas → Turn
turn_of areas = areas.turn

-- the place of the gate behind its records
abbrev pub end_of : Areas → ℕ
end_of areas = lower.end_of (area_of areas)

-- where they end with the record that waits to be settled, where there is one
abbrev pub end_with : Areas → Option ℕ
end_with areas = lower.end_with (area_of areas)

-- how many bytes they have
abbrev pub record_bytes : Areas → ℕ
record_bytes areas = end_of areas - start_of (selected_of areas)

-- how often the store was written anew since it was opened
abbrev pub compactions_of : Areas → ℕ
compactions_of areas = areas.compactions

-- where the store is
abbrev pub place_of : Areas → StorePlace
place_of areas = record { selected = selected_of areas; bytes = record_bytes areas; compactions = compactions_of areas }

-- it is where it was, or one compaction more was counted
abbrev pub StaysOrCounts : StorePlace → StorePlace → Type 0
StaysOrCounts old new = (new ≡ old) ⊎ IsCounted old.compactions new.compactions

-- whether a compaction that failed waits to be settled
abbrev pub is_turning : Areas → Bool
is_turning areas = is_turn (turn_of areas)

-- whether anything does
abbrev pub is_waiting : Areas → Bool
is_waiting areas = is_turning areas || lower.is_waiting (area_of areas)

-- the same area is selected, and a compaction waits or not, as before
pub record SameTurn (old new : Areas) : Type 0 where
  pub selected : selected_of new ≡ selected_of old
  pub turning : is_turning new ≡ is_turning old

-- ---- a disk that holds records

-- settled: each image is a store of areas with these records
pub record IsSettledOn {D : Type 0} (g : Ghosts D) (areas : Areas) (disk : D) (frame : Frame) (past : List Record) : Type 0 where
  pub idle : is_waiting areas ≡ false
  pub is_frame : IsFrameOf (selected_of areas) frame
  pub area : lower.IsSettledOn g (area_of areas) disk frame past

-- a record waits: each image has these records, or those with one more
pub record IsUnsettledOn {D : Type 0} (g : Ghosts D) (areas : Areas) (disk : D) (frame : Frame) (past : List Record) (it : Record) : Type 0 where
  pub idle : is_turning areas ≡ false
  pub is_frame : IsFrameOf (selected_of areas) frame
  pub area : lower.IsUnsettledOn g (area_of areas) disk frame past it

-- records stand in an area, where the frame has them; that it knows their end does not rest on what the disk tells
pub record IsPlaced (area : Area) (frame : Frame) (past : List Record) : Type 0 where
  pub idle : lower.is_waiting area ≡ false
  pub of : lower.IsOf frame area
  pub place : lower.end_of area ≡ frame.start + length (spelled past)
  pub records : AreRecords frame.kinds past

-- rows stand in the other area
pub record IsPlacedIn (area : Area) (selected : Selected) (rows : List Record) : Type 0 where
  pub place : lower.end_of area ≡ start_of selected + length (spelled rows)

-- what may be on the disk then: the selector stands; or it was begun, and each image has these records, or the rows in the other area
abbrev pub MayHold : {D : Type 0} → Ghosts D → D → Frame → ℕ → Selected → List Record → List Record → Turn → Type 0
MayHold g disk frame version selected past rows Idle = ⊥
MayHold g disk frame version selected past rows Copying = AllImages g disk (IsStore frame past)
MayHold g disk frame version selected past rows (Selecting next) = IsPlacedIn next (other selected) rows × AllImages g disk (IsEither version selected past rows)

-- a compaction waits, of a store with these records, and with rows in the other area
pub record IsTurningOn {D : Type 0} (g : Ghosts D) (areas : Areas) (disk : D) (frame : Frame) (past rows : List Record) : Type 0 where
  pub is_frame : IsFrameOf (selected_of areas) frame
  pub area : IsPlaced (area_of areas) frame past
  pub rows_are : AreRecords frame.kinds rows
  pub images : MayHold g disk frame is_frame.version (selected_of areas) past rows (turn_of areas)

-- Surely: on each image of a sure disk the selected area has these records, and no others; also where something waits to be settled.
pub record HoldsSurely {D : Type 0} (g : Ghosts D) (areas : Areas) (disk : D) (past : List Record) : Type 0 where
  pub sure : g.is_sure disk
  pub place : end_of areas ≡ start_of (selected_of areas) + length (spelled past)
  pub images : AllImages g disk (HasRecords (start_of (selected_of areas)) (limit_of (selected_of areas)) past)

-- ---- what a call leaves

-- the records after a call that writes: those with what it was to write, or those before, by its answer
abbrev pub records_after : {T : Type 0} → Result T Failed → List Record → List Record → List Record
records_after (Ok done) past later = later
records_after (Err fault) past later = past

abbrev pub write_state : {T : Type 0} → Result T Failed → CommitState
write_state (Ok done) = Committed
write_state (Err fault) = InDoubt

-- what an append of a record leaves, by its answer
abbrev pub Appended : {D T : Type 0} → Ghosts D → Areas → D → Frame → List Record → Record → Result T Failed → Type 0
Appended g areas disk frame past it (Ok done) = IsSettledOn g areas disk frame (it ∷ past)
Appended g areas disk frame past it (Err fault) = IsUnsettledOn g areas disk frame past it

-- An append of a record, between the old disk and the new one: what it leaves; at each moment each image has the records from before or
-- those with the new one; and where a sure disk's call failed, the new one is on no image, and the store is where it was.
pub record Appends {D T : Type 0} (g : Ghosts D) (areas : Areas) (old new : D) (frame : Frame) (past : List Record) (it : Record) (result : Result T Failed) : Type 0 where
  pub left : Appended g areas new frame past it result
  pub passes : Passes g old new (IsBeforeOrAfter frame past it)
  pub nothing : g.is_sure old → OnErr result (AllImages g new (IsStore frame past))
  pub surely : g.is_sure old → HoldsSurely g areas new (records_after result past (it ∷ past))

-- what the settling of a record leaves, by its answer
abbrev pub SettlesTo : {D : Type 0} → Ghosts D → Areas → D → Frame → List Record → Record → Result Settled Failed → Type 0
SettlesTo g areas disk frame past it (Ok Kept) = IsSettledOn g areas disk frame (it ∷ past)
SettlesTo g areas disk frame past it (Ok Lost) = IsSettledOn g areas disk frame past
SettlesTo g areas disk frame past it (Err fault) = IsUnsettledOn g areas disk frame past it

-- settled, with these records in some area
pub record IsSettledIn {D : Type 0} (g : Ghosts D) (areas : Areas) (disk : D) (rows : List Record) : Type 0 where
  pub frame : Frame
  pub settled : IsSettledOn g areas disk frame rows

-- what a compaction leaves, by its answer
abbrev pub Compacted : {D T : Type 0} → Ghosts D → Areas → D → Frame → List Record → List Record → Result T Failed → Type 0
Compacted g areas disk frame past rows (Ok done) = IsSettledIn g areas disk rows
Compacted g areas disk frame past rows (Err fault) = IsTurningOn g areas disk frame past rows

-- the image is a store of areas with these records, or with those
abbrev pub IsOneOf : List Record → List Record → List ℕ → Type 0
IsOneOf past rows image = IsAreas past image ⊎ IsAreas rows image

-- A compaction, between the old disk and the new one: what it leaves; at each moment each image has the records, or their snapshot; and where
-- a sure disk's call failed, the area that was selected has its records on each image.
pub record Compacts {D T : Type 0} (g : Ghosts D) (areas : Areas) (old new : D) (frame : Frame) (past rows : List Record) (result : Result T Failed) : Type 0 where
  pub left : Compacted g areas new frame past rows result
  pub passes : Passes g old new (IsOneOf past rows)
  pub surely : g.is_sure old → HoldsSurely g areas new (records_after result past rows)

-- settled, with these records or with those
pub record IsSettledAs {D : Type 0} (g : Ghosts D) (areas : Areas) (disk : D) (past rows : List Record) : Type 0 where
  pub frame : Frame
  pub kept : List Record
  pub which : (kept ≡ past) ⊎ (kept ≡ rows)
  pub settled : IsSettledOn g areas disk frame kept

-- what a settling of a compaction leaves, by its answer: it is lost
abbrev pub SettlesTurn : {D : Type 0} → Ghosts D → Areas → D → Frame → List Record → List Record → Result Settled Failed → Type 0
SettlesTurn g areas disk frame past rows (Ok settled) = IsSettledAs g areas disk past rows
SettlesTurn g areas disk frame past rows (Err fault) = IsTurningOn g areas disk frame past rows

-- ---- a formatting

-- a byte of area A, then the selector, then the front of the store and what stands behind it, each torn or not
pub record IsReformed (old new : List ℕ) : Type 0 where
  pub emptied : List ℕ
  pub selected : List ℕ
  pub first : Torn AREA_A 1 old emptied
  pub second : Torn SELECTOR 1 emptied selected
  pub third : Torn 0 13 selected new

-- what it may leave of the images of a disk
abbrev pub ReformedFrom : {D : Type 0} → Ghosts D → D → List ℕ → Type 0
ReformedFrom g disk c = (b : List ℕ) × g.images disk b × IsReformed b c

-- ---- an opening

-- each image is marked as a store of one frame, of which this area is selected
pub record IsMarkedOn {D : Type 0} (g : Ghosts D) (disk : D) (selected : Selected) : Type 0 where
  pub frame : Frame
  pub is_frame : IsFrameOf selected frame
  pub marked : AllImages g disk (IsMarked frame)

-- what an opening read of these bytes, by its answer
abbrev pub ReadsAreas : List ℕ → Result (Areas × List (ℕ × Record)) StoreFault → Type 0
ReadsAreas image (Ok opened) = IsAreas (past_of opened.1) image
ReadsAreas image (Err faults.Device) = ⊤
ReadsAreas image (Err (faults.Corrupted offset)) = IsCorrupted image offset
ReadsAreas image (Err faults.Memory) = ⊤

-- what an opening finds where the bytes are a store of areas with these records
abbrev pub FindsAreas : List Record → Result (Areas × List (ℕ × Record)) StoreFault → Type 0
FindsAreas past (Ok opened) = opened.1 ≡ placed (start_of (selected_of opened.0)) past
FindsAreas past (Err faults.Device) = ⊤
FindsAreas past (Err (faults.Corrupted offset)) = ⊥
FindsAreas past (Err faults.Memory) = ⊤
