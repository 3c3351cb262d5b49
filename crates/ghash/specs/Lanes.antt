-- Sixteen elements side by side: byte p of each stands in row p, and element l in lane l.
use Rattle.std.specs.Prelude.{◌≡◌, ℕ, zero, suc, ◌*◌, ◌/◌, ◌%◌, ◌^◌, ◌<◌, List, [], length, slice_index_or}
use Rattle.std.specs.Int.RustNames.{bit_xor}
use Rattle.ghash.specs.Field.{shifted, product}

-- the element with these n bytes in front: the sum of each byte times its power of x
unfoldable pub gathered : (ℕ → ℕ) → ℕ → ℕ
gathered f zero = 0
gathered f (suc n) = bit_xor (gathered f n) (shifted (f n * 2 ^ 120) (8 * n))

-- byte p of element l
abbrev pub byte_in : List (List ℕ) → ℕ → ℕ → ℕ
byte_in rows p l = slice_index_or (slice_index_or rows p []) l 0

-- element l
unfoldable pub lane_of : List (List ℕ) → ℕ → ℕ
lane_of rows l = gathered (λ p. byte_in rows p l) 16

-- sixteen bytes
pub record IsRow (row : List ℕ) : Type 0 where
  pub count : length row ≡ 16
  pub bytes : (l : ℕ) → l < 16 → slice_index_or row l 0 < 256

-- sixteen rows of sixteen bytes
pub record IsGrid (grid : List (List ℕ)) : Type 0 where
  pub count : length grid ≡ 16
  pub rows : (p : ℕ) → p < 16 → IsRow (slice_index_or grid p [])

-- lane n is the product of n * 2 ^ by and y
pub record IsTable (rows : List (List ℕ)) (by y : ℕ) : Type 0 where
  pub lanes : (n : ℕ) → n < 16 → lane_of rows n ≡ product (n * 2 ^ by) y

-- what x^128 times a byte adds to byte 0, and to byte 1
abbrev pub here : ℕ → ℕ
here v = bit_xor (bit_xor (bit_xor v (v / 2 ^ 1)) (v / 2 ^ 2)) (v / 2 ^ 7)

abbrev pub next : ℕ → ℕ
next v = bit_xor (bit_xor (v * 2 ^ 7 % 2 ^ 8) (v * 2 ^ 6 % 2 ^ 8)) (v * 2 ^ 1 % 2 ^ 8)

-- the bytes of x^8 times an element
abbrev pub moved : (ℕ → ℕ) → ℕ → ℕ
moved f zero = here (f 15)
moved f (suc zero) = bit_xor (f 0) (next (f 15))
moved f (suc (suc p)) = f (suc p)
