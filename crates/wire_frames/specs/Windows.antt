-- A window on a text that goes by it piece by piece, and the bytes of it that it shows.
use Rattle.std.specs.Prelude.{ℕ, ◌-◌, List, ◌++◌, length, take, drop}

-- how many bytes still go by before it shows any, for how many there is room, and which it shows so far
pub record Window : Type 0 where
  pub skip : ℕ
  pub room : ℕ
  pub bytes : List ℕ

-- what it shows of the next piece
abbrev pub shown : Window → List ℕ → List ℕ
shown w piece = take w.room (drop w.skip piece)

-- the window behind a piece
unfoldable pub window_after : Window → List ℕ → Window
window_after w piece = record { skip = w.skip - length piece; room = w.room - length (shown w piece); bytes = w.bytes ++ shown w piece }
