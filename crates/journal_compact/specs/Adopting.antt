-- What bringing a journal to areas leaves.
use Rattle.std.specs.Prelude.{ℕ, List, Result, Ok, Err, ⊤}
use Rattle.ks_outside.specs.declared.disk.Disk.{Ghosts}
use Rattle.ks_outside.specs.declared.faults.Failed.{Failed}
use Rattle.ks_outside.specs.Images.{AllImages, Passes}
use Rattle.journal_records.specs.declared.record.Record.{Record}
use Rattle.journal_compact.specs.Holding.{IsSettledIn}
use Rattle.journal_compact.specs.Older.{IsOlderOrNew}
use Rattle.journal_compact.specs.declared.areas.Areas.{Areas}

-- the areas that it answers hold the rows
abbrev pub Adopted : {D : Type 0} → Ghosts D → D → List Record → Result Areas Failed → Type 0
Adopted g disk rows (Ok areas) = IsSettledIn g areas disk rows
Adopted g disk rows (Err fault) = ⊤

-- Bringing a journal with these records to areas with those rows, between the old disk and the new one: what it answers; and whatever that is,
-- each image, now and at each moment, is the journal or the store of areas.
pub record Adopts {D : Type 0} (g : Ghosts D) (old new : D) (past rows : List Record) (result : Result Areas Failed) : Type 0 where
  pub left : Adopted g new rows result
  pub images : AllImages g new (IsOlderOrNew past rows)
  pub passes : Passes g old new (IsOlderOrNew past rows)

-- Each image, now and at each moment since, comes from one of the old disk: where there was none there is none.
pub record Comes {D : Type 0} (g : Ghosts D) (old new : D) : Type 0 where
  pub images : AllImages g new (λ c. (b : List ℕ) × g.images old b)
  pub passes : Passes g old new (λ c. (b : List ℕ) × g.images old b)
