-- What a block of a cipher is: 16 bytes.
use Rattle.std.specs.Prelude.{ℕ, List, ◌≡◌, ◌<◌, length, slice_index}

-- each number of the list is a byte
abbrev pub IsBytes : List ℕ → Type 0
IsBytes list = (i : ℕ) → slice_index list i < 256

-- a block: 16 bytes
pub record IsBlock (block : List ℕ) : Type 0 where
  pub whole : length block ≡ 16
  pub bytes : IsBytes block
