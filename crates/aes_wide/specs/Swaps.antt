-- What the steps that turn eight rows of eight bits about make of two bytes.
use Rattle.std.specs.Prelude.{ℕ, [], ◌∷◌}
use Rattle.std.specs.Int.{bit_at}
use Rattle.std.specs.Simd.Lanes.{number_l}

-- the byte of these bits, the lowest first
abbrev pub byte_of : ℕ → ℕ → ℕ → ℕ → ℕ → ℕ → ℕ → ℕ → ℕ
byte_of a b c d e f g h = number_l 2 (a ∷ b ∷ c ∷ d ∷ e ∷ f ∷ g ∷ h ∷ [])

unfoldable pub low_1 : ℕ → ℕ → ℕ
low_1 a b = byte_of (bit_at a 0) (bit_at b 0) (bit_at a 2) (bit_at b 2) (bit_at a 4) (bit_at b 4) (bit_at a 6) (bit_at b 6)

unfoldable pub high_1 : ℕ → ℕ → ℕ
high_1 a b = byte_of (bit_at a 1) (bit_at b 1) (bit_at a 3) (bit_at b 3) (bit_at a 5) (bit_at b 5) (bit_at a 7) (bit_at b 7)

unfoldable pub low_2 : ℕ → ℕ → ℕ
low_2 a b = byte_of (bit_at a 0) (bit_at a 1) (bit_at b 0) (bit_at b 1) (bit_at a 4) (bit_at a 5) (bit_at b 4) (bit_at b 5)

unfoldable pub high_2 : ℕ → ℕ → ℕ
high_2 a b = byte_of (bit_at a 2) (bit_at a 3) (bit_at b 2) (bit_at b 3) (bit_at a 6) (bit_at a 7) (bit_at b 6) (bit_at b 7)

unfoldable pub low_4 : ℕ → ℕ → ℕ
low_4 a b = byte_of (bit_at a 0) (bit_at a 1) (bit_at a 2) (bit_at a 3) (bit_at b 0) (bit_at b 1) (bit_at b 2) (bit_at b 3)

unfoldable pub high_4 : ℕ → ℕ → ℕ
high_4 a b = byte_of (bit_at a 4) (bit_at a 5) (bit_at a 6) (bit_at a 7) (bit_at b 4) (bit_at b 5) (bit_at b 6) (bit_at b 7)
