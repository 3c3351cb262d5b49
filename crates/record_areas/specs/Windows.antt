-- What of an area was read and is still to be looked at.
use Rattle.std.specs.Prelude.{◌≡◌, ◌≢◌, ◌⊎◌, ◌≤◌, ℕ, ◌+◌, ◌-◌, ◌==◌, min, Bool, List, [], ◌∷◌, ◌++◌, length, take, drop, Option, Some, None, Result, Ok, Err, if◌then◌else◌, ⊤}
use Rattle.byte_strings.specs.Readers.{number_at}
use Rattle.journal_records.specs.declared.record.Record.{Record}
use Rattle.journal_records.specs.declared.fault.StoreFault.{StoreFault}
use Rattle.journal_records.specs.declared.fault.StoreFault.TheVariants as faults
use Rattle.journal_records.specs.Spelling.{record_framed}
use Rattle.record_areas.specs.BodyLengths.{may_begin}
use Rattle.record_areas.specs.Frames.{HasNoRecord, bytes_between}
use Rattle.record_areas.specs.declared.opening.Head.{Head}
use Rattle.record_areas.specs.declared.opening.Head.TheVariants.{Broken, Opened, Shut}
use Rattle.record_areas.specs.declared.window.Window.{Window}

-- the place of the first byte that is still to be looked at
abbrev pub place_of : Window → ℕ
place_of window = window.place

-- before which place it ends
abbrev pub limit_of : Window → ℕ
limit_of window = window.limit

-- the bytes that were read from there on
abbrev pub held_by : Window → List ℕ
held_by window = drop window.done window.bytes.items

-- what was looked at is among the bytes, and those left end before the limit
pub record IsWindow (window : Window) : Type 0 where
  pub passed : window.done ≤ length window.bytes.items
  pub within : place_of window + length (held_by window) ≤ limit_of window

-- what an image has from there on, up to the limit
abbrev pub ahead_of : Window → List ℕ → List ℕ
ahead_of window image = bytes_between (place_of window) (limit_of window) image

-- the bytes that were read are the first of these
abbrev pub IsSeen : Window → List ℕ → Type 0
IsSeen window image = held_by window ≡ take (length (held_by window)) (ahead_of window image)

-- so many were read, or all
abbrev pub HasSeen : ℕ → Window → List ℕ → Type 0
HasSeen count window image = (count ≤ length (held_by window)) ⊎ (held_by window ≡ ahead_of window image)

-- a gate that is shut stands first
pub record StandsShut (left : List ℕ) : Type 0 where
  pub gate : ℕ
  pub rest : List ℕ
  pub is : left ≡ gate ∷ rest
  pub closed : gate ≢ 75

-- what stands first where a record may, once its length was read
abbrev pub sized : Option (ℕ × List ℕ) → Head
sized None = Broken
sized (Some size) = Opened size.0

abbrev pub head_of : List ℕ → Head
head_of [] = Broken
head_of (gate ∷ rest) = if gate == 75 then sized (number_at 4 rest) else Shut

-- whether a body of so many bytes may stand here, behind a gate and its length
abbrev pub may_stand : ℕ → List ℕ → Bool
may_stand size held = may_begin size (take (min (5 + size) (length held) - 5) (drop 5 held))

-- how many bytes the next record has, where there is one
abbrev pub next_length : Option Record → ℕ
next_length None = 0
next_length (Some it) = length (record_framed it)

-- a fault that is none of the bytes
abbrev pub TellsNoPlace : StoreFault → Type 0
TellsNoPlace faults.Device = ⊤
TellsNoPlace (faults.Corrupted offset) = ⊥
TellsNoPlace faults.Memory = ⊤

-- why the bytes from a place on were refused
abbrev pub Refuses : ℕ → ℕ → List ℕ → StoreFault → Type 0
Refuses kinds place before faults.Device = ⊤
Refuses kinds place before (faults.Corrupted offset) = (offset ≡ place) × HasNoRecord kinds before
Refuses kinds place before faults.Memory = ⊤

-- what was found first of the bytes from a place on, which are then those behind it
abbrev pub ReadsNext : ℕ → ℕ → List ℕ → List ℕ → Result (Option Record) StoreFault → Type 0
ReadsNext kinds place before behind (Ok None) = StandsShut before
ReadsNext kinds place before behind (Ok (Some it)) = before ≡ record_framed it ++ behind
ReadsNext kinds place before behind (Err fault) = Refuses kinds place before fault
