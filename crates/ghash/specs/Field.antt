-- The field of 2^128 elements of SP 800-38D section 6.3. A block of 16 bytes is read as a number below 2^128, high
-- byte first, so that bit i of the standard, counted from the left, is the bit of weight 2^(127 - i). It is the
-- coefficient of x^i.
use Rattle.std.specs.Prelude.{ℕ, zero, suc, ◌-◌, ◌*◌, ◌/◌, ◌%◌, ◌^◌, ◌==◌, List, if◌then◌else◌}
use Rattle.std.specs.Int.{w128, from_be_bytes, to_be_bytes}
use Rattle.std.specs.Int.RustNames.{bit_xor}

-- the element that a block stands for
unfoldable pub element : List ℕ → ℕ
element block = from_be_bytes w128 block

-- the block of an element
unfoldable pub block_of : ℕ → List ℕ
block_of x = to_be_bytes w128 x

-- R: the bits 11100001 and then 120 zeros, for x^128 + x^7 + x^2 + x + 1 (SP 800-38D section 6.3)
abbrev pub reduction : ℕ
reduction = 0xE1 * 2 ^ 120

-- bit i of a block, from the left (SP 800-38D section 6.3, step 1)
abbrev pub bit_of : ℕ → ℕ → ℕ
bit_of x i = x / 2 ^ (127 - i) % 2

-- V i+1 from V i: the product with x (SP 800-38D section 6.3, step 3)
unfoldable pub times_x : ℕ → ℕ
times_x v = if v % 2 == 0 then v / 2 else bit_xor (v / 2) reduction

-- V i of the product with y: y times x^i (SP 800-38D section 6.3, steps 2 and 3)
unfoldable pub shifted : ℕ → ℕ → ℕ
shifted y zero = y
shifted y (suc i) = times_x (shifted y i)

-- Z i of the product of x and y: the sum of V j over the bits j below i of x that are 1 (SP 800-38D section 6.3,
-- steps 2 and 3)
unfoldable pub sum_of : ℕ → ℕ → ℕ → ℕ
sum_of x y zero = 0
sum_of x y (suc i) = if bit_of x i == 1 then bit_xor (sum_of x y i) (shifted y i) else sum_of x y i

-- the product of two elements: Z 128 (SP 800-38D section 6.3, step 4)
abbrev pub product : ℕ → ℕ → ℕ
product x y = sum_of x y 128
