-- A string to which a key stream is added byte by byte.
use Rattle.std.specs.Prelude.{ℕ, ◌+◌, ◌/◌, ◌%◌, List, [], ◌∷◌, slice_index, slice_index_or}
use Rattle.std.specs.Int.RustNames.{bit_xor}

-- a string that begins at a place, with what f gives at each byte's place added to it
abbrev pub xor_by : (ℕ → ℕ) → ℕ → List ℕ → List ℕ
xor_by f at [] = []
xor_by f at (b ∷ bs) = bit_xor b (f at) ∷ xor_by f (at + 1) bs

-- byte i of some blocks of 16 bytes
abbrev pub stream_byte : List (List ℕ) → ℕ → ℕ
stream_byte blocks i = slice_index (slice_index_or blocks (i / 16) []) (i % 16)
