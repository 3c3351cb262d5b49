-- Eight blocks in planes: bit b of lane j of plane i is bit i of byte j of block b. Between the rounds the state of each stands
-- row by row in them, so that a column is turned by moving rows of four lanes.
use Rattle.std.specs.Prelude.{ℕ, ◌≡◌, List, [], ◌∷◌, map, slice_index, slice_index_or}
use Rattle.std.specs.Int.{bit_at}
use Rattle.std.specs.List.{range_with_len}
use Rattle.std.specs.Simd.Lanes.{number_l}
use Rattle.aes_core.specs.State.{byte_at, state_of}
use Rattle.aes_wide.specs.Circuit.{Gate, run}

-- sixteen lanes
unfoldable pub lanes : (ℕ → ℕ) → List ℕ
lanes f = f 0 ∷ f 1 ∷ f 2 ∷ f 3 ∷ f 4 ∷ f 5 ∷ f 6 ∷ f 7 ∷ f 8 ∷ f 9 ∷ f 10 ∷ f 11 ∷ f 12 ∷ f 13 ∷ f 14 ∷ f 15 ∷ []

-- the lane at an index of the plane at an index
abbrev pub at : List (List ℕ) → ℕ → ℕ → ℕ
at planes i j = slice_index (slice_index_or planes i []) j

-- the first n planes of these lanes
abbrev pub planes_of : ℕ → (ℕ → ℕ → ℕ) → List (List ℕ)
planes_of n f = map (λ i. lanes (f i)) (range_with_len 0 n)

-- n planes of sixteen lanes
abbrev pub IsWhole : ℕ → List (List ℕ) → Type 0
IsWhole n planes = planes ≡ planes_of n (at planes)

-- the lanes at an index
abbrev pub column : List (List ℕ) → ℕ → List ℕ
column planes j = map (λ plane. slice_index plane j) planes

-- what a circuit makes of planes: in each lane, what it makes of the bits there
abbrev pub made : List Gate → List ℕ → List (List ℕ) → List (List ℕ)
made gates outs planes = map (λ k. lanes (λ j. slice_index (run gates (column planes j)) k)) outs

-- the number of bit b of each of these lanes, the lowest first
abbrev pub bits_to_byte : List ℕ → ℕ → ℕ
bits_to_byte column b = number_l 2 (map (λ lane. bit_at lane b) column)

-- block b
unfoldable pub block : List (List ℕ) → ℕ → List ℕ
block planes b = lanes (λ j. bits_to_byte (column planes j) b)

-- a block with its state turned about: the byte of row r and column c at place 4 r + c, where a block has it at r + 4 c
unfoldable pub by_rows : List ℕ → List ℕ
by_rows s = state_of (λ r c. byte_at s c r)

-- the block whose state stands in block b row by row
unfoldable pub standing : List (List ℕ) → ℕ → List ℕ
standing planes b = by_rows (block planes b)
