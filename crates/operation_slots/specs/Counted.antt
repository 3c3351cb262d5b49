-- How many operations each uid has.
use Rattle.std.specs.Prelude.{◌≡◌, ◌<◌, ◌≤◌, ◌+◌, ◌-◌, ◌==◌, ℕ, List, find, Option, Some, None, if◌then◌else◌}
use Rattle.std.specs.List.{AllByRecursion, sum_by}
use Rattle.operation_slots.specs.declared.counts.Counted.{Counted}
use Rattle.slot_chain.specs.Ordered.{IsOrdered}

pub record CountTable : Type 0 where
  -- the uids that have one, each once
  pub rows : List Counted
  -- for how many of them there is memory
  pub room : ℕ

abbrev pub seen : List Counted → ℕ → CountTable
seen rows room = record { rows = rows; room = room }

abbrev pub counted_uid : Counted → ℕ
counted_uid row = row.uid

abbrev pub count_of : Counted → ℕ
count_of row = row.count

abbrev pub found_count : Option Counted → ℕ
found_count None = 0
found_count (Some row) = row.count

abbrev pub count_among : List Counted → ℕ → ℕ
count_among rows uid = found_count (find (λ row. row.uid == uid) rows)

-- how many a uid has
abbrev pub count_in : CountTable → ℕ → ℕ
count_in counts uid = count_among counts.rows uid

-- how many all have together
abbrev pub total : CountTable → ℕ
total counts = sum_by count_of counts.rows

abbrev pub room_in : CountTable → ℕ
room_in counts = counts.room

abbrev pub IsSome : Counted → Type 0
IsSome row = 0 < row.count

-- what is kept of the rows
pub record IsCounts (rows : List Counted) : Type 0 where
  pub order : IsOrdered counted_uid rows
  pub some : AllByRecursion IsSome rows

-- no uid has one
pub record IsNone (table : CountTable) : Type 0 where
  pub counts : (uid : ℕ) → count_in table uid ≡ 0
  pub all : total table ≡ 0

pub record Raises (old new : CountTable) (uid : ℕ) : Type 0 where
  pub counts : (other : ℕ) → count_in new other ≡ (if other == uid then count_in old other + 1 else count_in old other)
  pub all : total new ≡ total old + 1
  pub room : room_in old ≤ room_in new

pub record Lowers (old new : CountTable) (uid : ℕ) : Type 0 where
  pub counts : (other : ℕ) → count_in new other ≡ (if other == uid then count_in old other - 1 else count_in old other)
  pub all : total new + 1 ≡ total old
  pub room : room_in old ≤ room_in new
