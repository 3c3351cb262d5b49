-- Bytes as elements of the field of 256 elements (FIPS 197 section 4), and the S-box (section 5.1.1).
-- A byte's bit i is the coefficient of x^i; products are taken modulo x^8 + x^4 + x^3 + x + 1.
use Rattle.std.specs.Prelude.{ℕ, zero, suc, ◌*◌, ◌/◌, ◌%◌, true, false, if◌then◌else◌, ◌==◌, nat_lt, bit_xor}
use Rattle.std.specs.Int.{w8, rotate_left}

-- the sum of two elements (4.1)
abbrev pub add : ℕ → ℕ → ℕ
add a b = bit_xor a b

-- the product with x (4.2): doubled, and reduced where a term x^8 came
unfoldable pub x_times : ℕ → ℕ
x_times a = if nat_lt a 128 then 2 * a else add (2 * a) 0x11b

-- the product of b with what the low n bits of a stand for: b where bit 0 is set, and the rest times x
unfoldable pub times_bits : ℕ → ℕ → ℕ → ℕ
times_bits zero a b = 0
times_bits (suc n) a b = add (if a % 2 == 0 then 0 else b) (times_bits n (a / 2) (x_times b))

-- the product of two elements (4.2)
unfoldable pub times : ℕ → ℕ → ℕ
times a b = times_bits 8 a b

-- the greatest of the numbers up to n whose product with a is 1, and 0 where none is
unfoldable pub inverse_up_to : ℕ → ℕ → ℕ
inverse_up_to zero a = 0
inverse_up_to (suc n) a = elim (times (suc n) a == 1) [ true ↦ suc n | false ↦ inverse_up_to n a ]

-- the inverse of an element, and 0 for 0 (4.4)
unfoldable pub inverse : ℕ → ℕ
inverse a = inverse_up_to 255 a

-- the affine map: bit i is the sum of the bits i, i + 4, i + 5, i + 6 and i + 7, modulo 8, and of bit i of 63 (5.1.1)
unfoldable pub affine : ℕ → ℕ
affine b = add (add (add (add (add b (rotate_left w8 b 1)) (rotate_left w8 b 2)) (rotate_left w8 b 3)) (rotate_left w8 b 4)) 0x63

-- the S-box (5.1.1)
unfoldable pub sub_byte : ℕ → ℕ
sub_byte a = affine (inverse a)

-- the inverse of the affine map: bit i is the sum of the bits i + 2, i + 5 and i + 7, modulo 8, and of bit i of 05 (5.3.2)
unfoldable pub affine_back : ℕ → ℕ
affine_back b = add (add (add (rotate_left w8 b 1) (rotate_left w8 b 3)) (rotate_left w8 b 6)) 0x05

-- the inverse S-box (5.3.2)
unfoldable pub inv_sub_byte : ℕ → ℕ
inv_sub_byte b = inverse (affine_back b)
