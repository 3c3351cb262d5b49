-- A reading that has come behind some records of an area.
use Rattle.std.specs.Prelude.{◌≡◌, ◌<◌, ℕ, ◌+◌, List, ◌∷◌, ◌++◌, length, Option, Some, None, Result, Ok, Err, ⊤}
use Rattle.ks_outside.specs.declared.disk.Disk.{Ghosts}
use Rattle.ks_outside.specs.Images.{AllImages}
use Rattle.journal_records.specs.declared.record.Record.{Record}
use Rattle.journal_records.specs.declared.fault.StoreFault.{StoreFault}
use Rattle.journal_records.specs.declared.fault.StoreFault.TheVariants as faults
use Rattle.journal_records.specs.Spelling.{spelled}
use Rattle.record_areas.specs.Frames.{AreRecords, HasRecords, IsBrokenAt, bytes_between}
use Rattle.record_areas.specs.Windows.{IsSeen, IsWindow}
use Rattle.record_areas.specs.Windows as windows
use Rattle.record_areas.specs.declared.reading.Reading.{Reading}

-- the place of the gate that is read next
abbrev pub place_of : Reading → ℕ
place_of reading = windows.place_of reading.window

-- before which place the records end
abbrev pub limit_of : Reading → ℕ
limit_of reading = windows.limit_of reading.window

-- the greatest kind that may stand there
abbrev pub kinds_of : Reading → ℕ
kinds_of reading = reading.kinds

-- where its records begin
abbrev pub start_of : Reading → ℕ
start_of reading = reading.start

-- what was read of it is of one piece
abbrev pub IsWhole : Reading → Type 0
IsWhole reading = IsWindow reading.window

-- it reads the records from a start on, up to a limit, of these kinds
pub record IsOver (reading : Reading) (start limit kinds : ℕ) : Type 0 where
  pub start_is : start_of reading ≡ start
  pub limit_is : limit_of reading ≡ limit
  pub kinds_is : kinds_of reading ≡ kinds

-- the image has these records from the start on, and behind them what is read next
pub record HasRead (reading : Reading) (start limit : ℕ) (past : List Record) (image : List ℕ) : Type 0 where
  pub seen : IsSeen reading.window image
  pub is : bytes_between start limit image ≡ spelled past ++ bytes_between (place_of reading) limit image

-- it has come behind these records of a still disk
pub record IsBehind {D : Type 0} (g : Ghosts D) (reading : Reading) (disk : D) (start limit kinds : ℕ) (past : List Record) : Type 0 where
  pub over : IsOver reading start limit kinds
  pub place : place_of reading ≡ start + length (spelled past)
  pub records : AreRecords kinds past
  pub images : AllImages g disk (HasRead reading start limit past)

-- it has come to the gate that is shut: each image has these records
pub record IsThrough {D : Type 0} (g : Ghosts D) (reading : Reading) (disk : D) (start limit kinds : ℕ) (past : List Record) : Type 0 where
  pub over : IsOver reading start limit kinds
  pub place : place_of reading ≡ start + length (spelled past)
  pub within : place_of reading < limit_of reading
  pub records : AreRecords kinds past
  pub images : AllImages g disk (HasRecords start limit past)

-- what a step behind these records finds: one more, or the gate that is shut, or the place where the records are broken off
abbrev pub ReadsOn : {D : Type 0} → Ghosts D → Reading → D → ℕ → ℕ → ℕ → List Record → Result (Option Record) StoreFault → Type 0
ReadsOn g reading disk start limit kinds past (Ok (Some it)) = IsBehind g reading disk start limit kinds (it ∷ past)
ReadsOn g reading disk start limit kinds past (Ok None) = IsThrough g reading disk start limit kinds past
ReadsOn g reading disk start limit kinds past (Err faults.Device) = ⊤
ReadsOn g reading disk start limit kinds past (Err (faults.Corrupted offset)) = AllImages g disk (λ image. IsBrokenAt start limit kinds image offset)
ReadsOn g reading disk start limit kinds past (Err faults.Memory) = ⊤
