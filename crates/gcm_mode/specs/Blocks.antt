-- A string of bytes as blocks of 16 bytes.
use Rattle.std.specs.Prelude.{ℕ, zero, suc, ◌+◌, ◌-◌, ◌/◌, ◌%◌, List, [], ◌∷◌, ◌++◌, length, take, drop, replicate}

-- the first n blocks of a string
unfoldable pub first_blocks : ℕ → List ℕ → List (List ℕ)
first_blocks zero bytes = []
first_blocks (suc n) bytes = take 16 bytes ∷ first_blocks n (drop 16 bytes)

-- all blocks of a string, of which the last may be shorter (SP 800-38D section 6.5, steps 2 and 3)
abbrev pub blocks_of : List ℕ → List (List ℕ)
blocks_of bytes = first_blocks ((length bytes + 15) / 16) bytes

-- a string with zeros behind it up to whole blocks (SP 800-38D section 7.1, steps 4 and 5)
abbrev pub padded : List ℕ → List ℕ
padded bytes = bytes ++ replicate ((16 - length bytes % 16) % 16) 0
