-- The writes and syncs that a disk made.
use Rattle.std.specs.Prelude.{ℕ, List}

-- a call that changed what a crash may leave: a write of a piece at a place, or a sync
pub data DiskCall : Type 0 where
  Wrote : ℕ → List ℕ → DiskCall
  Synced : DiskCall

-- the calls in order, and for how many more there is room, and for how many bytes of pieces
pub record Calls : Type 0 where
  pub made : List DiskCall
  pub calls_left : ℕ
  pub bytes_left : ℕ
