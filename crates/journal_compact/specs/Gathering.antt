-- Records on their way to a disk, of which some were written and some are gathered.
use Rattle.std.specs.Prelude.{◌≡◌, ◌<◌, ℕ, ◌+◌, List, ◌++◌, length, take, Result, Ok, Err}
use Rattle.ks_outside.specs.declared.disk.Disk.{Ghosts}
use Rattle.ks_outside.specs.declared.faults.Failed.{Failed}
use Rattle.ks_outside.specs.Images.{AllImages, Passes, TornFrom}
use Rattle.disk_calls.specs.Ahead.{IsAhead}
use Rattle.gated_records.specs.Areas.{HoldsAt}
use Rattle.journal_records.specs.declared.record.Record.{Record}
use Rattle.journal_records.specs.Spelling.{spelled}
use Rattle.journal_compact.specs.declared.gathering.Gathered.{Gathered}

-- what the next sync makes of the disk has P
abbrev pub AllAhead : {D : Type 0} → Ghosts D → D → (List ℕ → Type 0) → Type 0
AllAhead g disk P = (c : List ℕ) → IsAhead g disk c → P c

-- where they will end
abbrev pub end_of : Gathered → ℕ
end_of rows = rows.place + rows.count

-- Of the records that were told some bytes are ahead of the disk, from a place on, and the others are gathered. What came so far is an image of
-- the start torn in a range of that place, in which they fit with a byte behind them.
pub record IsGathering {D : Type 0} (g : Ghosts D) (old now : D) (at most : ℕ) (rows : Gathered) (bytes : List ℕ) (told : List Record) : Type 0 where
  pub written : List ℕ
  pub is : spelled told ≡ written ++ take rows.count bytes
  pub place : rows.place ≡ at + length written
  pub within : end_of rows < at + most
  pub ahead : AllAhead g now (HoldsAt at written)
  pub torn : AllImages g now (TornFrom g old at most)
  pub passes : Passes g old now (TornFrom g old at most)

-- a call failed on the way
pub record IsCut {D : Type 0} (g : Ghosts D) (old now : D) (at most : ℕ) : Type 0 where
  pub torn : AllImages g now (TornFrom g old at most)
  pub passes : Passes g old now (TornFrom g old at most)

-- how far it has come, by the answer
abbrev pub Gathers : {D : Type 0} → Ghosts D → D → D → ℕ → ℕ → List ℕ → List Record → Result Gathered Failed → Type 0
Gathers g old now at most bytes told (Ok rows) = IsGathering g old now at most rows bytes told
Gathers g old now at most bytes told (Err fault) = IsCut g old now at most
