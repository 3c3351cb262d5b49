-- A text in pieces of 16 bytes.
use Rattle.std.specs.Prelude.{ℕ, ◌≡◌, zero, suc, ◌+◌, ◌/◌, List, [], ◌∷◌, length, take, drop, bit_xor}
use Rattle.std.specs.Simd.Lanes.{zip2}

-- the first n pieces of 16 bytes
abbrev pub pieces_of : ℕ → List ℕ → List (List ℕ)
pieces_of zero text = []
pieces_of (suc n) text = take 16 text ∷ pieces_of n (drop 16 text)

-- the whole blocks of a text
abbrev pub blocks_of : List ℕ → List (List ℕ)
blocks_of text = pieces_of (length text / 16) text

-- the whole text in pieces, of which the last may be short
abbrev pub all_pieces : List ℕ → List (List ℕ)
all_pieces text = pieces_of ((length text + 15) / 16) text

-- each is a block
abbrev pub AreBlocks : List (List ℕ) → Type 0
AreBlocks [] = Unit {0}
AreBlocks (block ∷ blocks) = (length block ≡ 16) × AreBlocks blocks

-- byte by byte, as far as both go
abbrev pub xor_bytes : List ℕ → List ℕ → List ℕ
xor_bytes xs ys = zip2 bit_xor xs ys
