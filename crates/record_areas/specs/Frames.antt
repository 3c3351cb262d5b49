-- Stores of records: what marks one, where its records stand, and what its bytes say. Records are listed with the newest first.
use Rattle.std.specs.Prelude.{◌≡◌, ◌⊎◌, ◌<◌, ◌≤◌, ℕ, ◌+◌, List, [], ◌∷◌, ◌++◌, length, take, drop, map, reverse, None, ⊤}
use Rattle.std.specs.List.{AllByRecursion}
use Rattle.gated_records.specs.Areas.{HoldsAt, IsArea}
use Rattle.journal_records.specs.declared.record.Record.{Record}
use Rattle.journal_records.specs.Reading.{record_at}
use Rattle.journal_records.specs.Spelling.{IsRecord, spelled}

-- bytes at a place by which a store is known
pub record Mark : Type 0 where
  pub place : ℕ
  pub bytes : List ℕ

-- what marks a store, where its records begin, before which place they and the shut gate behind them end, and the greatest kind of them
pub record Frame : Type 0 where
  pub marks : List Mark
  pub start : ℕ
  pub limit : ℕ
  pub kinds : ℕ

-- a mark stands before the records, or behind their limit
pub record IsMarkOf (start limit : ℕ) (mark : Mark) : Type 0 where
  pub some : 0 < length mark.bytes
  pub apart : (mark.place + length mark.bytes ≤ start) ⊎ (limit ≤ mark.place)

-- no mark stands where records may
abbrev pub IsFrame : Frame → Type 0
IsFrame frame = AllByRecursion (IsMarkOf frame.start frame.limit) frame.marks

-- the image has the marks
abbrev pub IsMarked : Frame → List ℕ → Type 0
IsMarked frame image = AllByRecursion (λ (mark : Mark). HoldsAt mark.place mark.bytes image) frame.marks

-- records that a store of the frame can hold
abbrev pub AreRecords : ℕ → List Record → Type 0
AreRecords kinds past = AllByRecursion (IsRecord kinds) past

-- Records from the start on, and behind them, before the limit, a gate that is shut. What follows that gate is anything.
pub record HasRecords (start limit : ℕ) (past : List Record) (image : List ℕ) : Type 0 where
  pub area : IsArea start (spelled past) image
  pub within : start + length (spelled past) < limit

-- the image is a store of the frame that holds these records
pub record IsStore (frame : Frame) (past : List Record) (image : List ℕ) : Type 0 where
  pub marked : IsMarked frame image
  pub records : HasRecords frame.start frame.limit past image

-- the records, or those with one more
abbrev pub IsBeforeOrAfter : Frame → List Record → Record → List ℕ → Type 0
IsBeforeOrAfter frame past it image = IsStore frame past image ⊎ IsStore frame (it ∷ past) image

-- ---- what is no list of records

-- the bytes of an image from the start up to the limit
abbrev pub bytes_between : ℕ → ℕ → List ℕ → List ℕ
bytes_between start limit image = drop start (take limit image)

-- at a gate's place no byte stands, or an open gate with no record behind it
abbrev pub HasNoRecord : ℕ → List ℕ → Type 0
HasNoRecord kinds [] = ⊤
HasNoRecord kinds (gate ∷ rest) = (gate ≡ 75) × (record_at kinds rest ≡ None)

-- From the start on stand these records, and at the next gate's place no record and no gate that is shut; this is that place.
pub record IsBrokenAt (start limit kinds : ℕ) (image : List ℕ) (offset : ℕ) : Type 0 where
  pub past : List Record
  pub records : AreRecords kinds past
  pub left : List ℕ
  pub is : bytes_between start limit image ≡ spelled past ++ left
  pub broken : HasNoRecord kinds left
  pub place : offset ≡ start + length (spelled past)

-- ---- records with their places

-- the records of a list that has them with the places of their gates, the oldest first
abbrev pub past_of : List (ℕ × Record) → List Record
past_of all = reverse (map (λ one. one.1) all)

-- the records with those places, from the start on
abbrev pub placed : ℕ → List Record → List (ℕ × Record)
placed start [] = []
placed start (it ∷ past) = placed start past ++ (start + length (spelled past), it) ∷ []
