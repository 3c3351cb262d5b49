-- Counts of compactions.
use Rattle.std.specs.Prelude.{◌≡◌, ℕ}
use Rattle.ks_outside.specs.Faults.{Rises, one_more}

-- one compaction more was counted: the count rose, or stood at its greatest value
pub record IsCounted (before now : ℕ) : Type 0 where
  pub more : now ≡ one_more before
  pub rises : Rises before now
