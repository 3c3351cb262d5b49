-- Eight rows of eight bits turned about by three rounds of swaps.
use Rattle.std.proofs.Common.{◌≡◌, ℕ, ◌*◌, ◌/◌, ◌%◌, ◌^◌, ◌<◌, ◌==◌, true, List, [], ◌∷◌, refl, arith}
use Rattle.std.specs.Int.{bit_at}
use Rattle.std.specs.Int.Bits.{bit_xor}
use lib.Bits.{bit_and}
use Rattle.std.specs.Simd.Lanes.{number_l}
use Rattle.std.proofs.lemmas.Bool.{agree_below, agree_below_at}
use Rattle.std.proofs.lemmas.Bool.Decides.{Decides-eqb}
use Rattle.std.proofs.lemmas.Nat.Bits.{bit_at-lt}
use Rattle.aes_core.specs.Laws.FieldLaws.{same_at}
use Rattle.aes_wide.specs.Swaps.{byte_of, low_1, high_1, low_2, high_2, low_4, high_4}

abbrev pub part_1 : ℕ → ℕ → ℕ
part_1 a b = bit_and (bit_xor (a / 2 ^ 1) b) 85

abbrev pub first_1 : ℕ → ℕ → ℕ
first_1 a b = bit_xor a (part_1 a b * 2 ^ 1 % 2 ^ 8)

abbrev pub second_1 : ℕ → ℕ → ℕ
second_1 a b = bit_xor b (part_1 a b)

firsts_same_1 : agree_below (λ a. agree_below (λ b. first_1 a b == low_1 a b) (λ _. true) 256) (λ _. true) 256 ≡ true
unfolding low_1
firsts_same_1 = refl

seconds_same_1 : agree_below (λ a. agree_below (λ b. second_1 a b == high_1 a b) (λ _. true) 256) (λ _. true) 256 ≡ true
unfolding high_1
seconds_same_1 = refl

pub first_at_1 : (a b : ℕ) → a < 256 → b < 256 → first_1 a b ≡ low_1 a b
first_at_1 a b la lb =
    (Decides-eqb (first_1 a b) (low_1 a b)).0
    (agree_below_at (λ y. first_1 a y == low_1 a y) (λ _. true) 256 b
    (agree_below_at (λ x. agree_below (λ y. first_1 x y == low_1 x y) (λ _. true) 256) (λ _. true) 256 a firsts_same_1 la) lb)

pub second_at_1 : (a b : ℕ) → a < 256 → b < 256 → second_1 a b ≡ high_1 a b
second_at_1 a b la lb =
    (Decides-eqb (second_1 a b) (high_1 a b)).0
    (agree_below_at (λ y. second_1 a y == high_1 a y) (λ _. true) 256 b
    (agree_below_at (λ x. agree_below (λ y. second_1 x y == high_1 x y) (λ _. true) 256) (λ _. true) 256 a seconds_same_1 la) lb)

abbrev pub part_2 : ℕ → ℕ → ℕ
part_2 a b = bit_and (bit_xor (a / 2 ^ 2) b) 51

abbrev pub first_2 : ℕ → ℕ → ℕ
first_2 a b = bit_xor a (part_2 a b * 2 ^ 2 % 2 ^ 8)

abbrev pub second_2 : ℕ → ℕ → ℕ
second_2 a b = bit_xor b (part_2 a b)

firsts_same_2 : agree_below (λ a. agree_below (λ b. first_2 a b == low_2 a b) (λ _. true) 256) (λ _. true) 256 ≡ true
unfolding low_2
firsts_same_2 = refl

seconds_same_2 : agree_below (λ a. agree_below (λ b. second_2 a b == high_2 a b) (λ _. true) 256) (λ _. true) 256 ≡ true
unfolding high_2
seconds_same_2 = refl

pub first_at_2 : (a b : ℕ) → a < 256 → b < 256 → first_2 a b ≡ low_2 a b
first_at_2 a b la lb =
    (Decides-eqb (first_2 a b) (low_2 a b)).0
    (agree_below_at (λ y. first_2 a y == low_2 a y) (λ _. true) 256 b
    (agree_below_at (λ x. agree_below (λ y. first_2 x y == low_2 x y) (λ _. true) 256) (λ _. true) 256 a firsts_same_2 la) lb)

pub second_at_2 : (a b : ℕ) → a < 256 → b < 256 → second_2 a b ≡ high_2 a b
second_at_2 a b la lb =
    (Decides-eqb (second_2 a b) (high_2 a b)).0
    (agree_below_at (λ y. second_2 a y == high_2 a y) (λ _. true) 256 b
    (agree_below_at (λ x. agree_below (λ y. second_2 x y == high_2 x y) (λ _. true) 256) (λ _. true) 256 a seconds_same_2 la) lb)

abbrev pub part_4 : ℕ → ℕ → ℕ
part_4 a b = bit_and (bit_xor (a / 2 ^ 4) b) 15

abbrev pub first_4 : ℕ → ℕ → ℕ
first_4 a b = bit_xor a (part_4 a b * 2 ^ 4 % 2 ^ 8)

abbrev pub second_4 : ℕ → ℕ → ℕ
second_4 a b = bit_xor b (part_4 a b)

firsts_same_4 : agree_below (λ a. agree_below (λ b. first_4 a b == low_4 a b) (λ _. true) 256) (λ _. true) 256 ≡ true
unfolding low_4
firsts_same_4 = refl

seconds_same_4 : agree_below (λ a. agree_below (λ b. second_4 a b == high_4 a b) (λ _. true) 256) (λ _. true) 256 ≡ true
unfolding high_4
seconds_same_4 = refl

pub first_at_4 : (a b : ℕ) → a < 256 → b < 256 → first_4 a b ≡ low_4 a b
first_at_4 a b la lb =
    (Decides-eqb (first_4 a b) (low_4 a b)).0
    (agree_below_at (λ y. first_4 a y == low_4 a y) (λ _. true) 256 b
    (agree_below_at (λ x. agree_below (λ y. first_4 x y == low_4 x y) (λ _. true) 256) (λ _. true) 256 a firsts_same_4 la) lb)

pub second_at_4 : (a b : ℕ) → a < 256 → b < 256 → second_4 a b ≡ high_4 a b
second_at_4 a b la lb =
    (Decides-eqb (second_4 a b) (high_4 a b)).0
    (agree_below_at (λ y. second_4 a y == high_4 a y) (λ _. true) 256 b
    (agree_below_at (λ x. agree_below (λ y. second_4 x y == high_4 x y) (λ _. true) 256) (λ _. true) 256 a seconds_same_4 la) lb)

-- the bits of a byte of bits
abbrev pub bits_of : ℕ → List ℕ
bits_of n = bit_at n 0 ∷ bit_at n 1 ∷ bit_at n 2 ∷ bit_at n 3 ∷ bit_at n 4 ∷ bit_at n 5 ∷ bit_at n 6 ∷ bit_at n 7 ∷ []

pub bit_of_0 : (a b c d e f g h : ℕ) → a < 2 → b < 2 → c < 2 → d < 2 → e < 2 → f < 2 → g < 2 → h < 2 → bit_at (byte_of a b c d e f g h) 0 ≡ a
bit_of_0 a b c d e f g h la lb lc ld le lf lg lh = omega arith

pub bit_of_1 : (a b c d e f g h : ℕ) → a < 2 → b < 2 → c < 2 → d < 2 → e < 2 → f < 2 → g < 2 → h < 2 → bit_at (byte_of a b c d e f g h) 1 ≡ b
bit_of_1 a b c d e f g h la lb lc ld le lf lg lh = omega arith

pub bit_of_2 : (a b c d e f g h : ℕ) → a < 2 → b < 2 → c < 2 → d < 2 → e < 2 → f < 2 → g < 2 → h < 2 → bit_at (byte_of a b c d e f g h) 2 ≡ c
bit_of_2 a b c d e f g h la lb lc ld le lf lg lh = omega arith

pub bit_of_3 : (a b c d e f g h : ℕ) → a < 2 → b < 2 → c < 2 → d < 2 → e < 2 → f < 2 → g < 2 → h < 2 → bit_at (byte_of a b c d e f g h) 3 ≡ d
bit_of_3 a b c d e f g h la lb lc ld le lf lg lh = omega arith

pub bit_of_4 : (a b c d e f g h : ℕ) → a < 2 → b < 2 → c < 2 → d < 2 → e < 2 → f < 2 → g < 2 → h < 2 → bit_at (byte_of a b c d e f g h) 4 ≡ e
bit_of_4 a b c d e f g h la lb lc ld le lf lg lh = omega arith

pub bit_of_5 : (a b c d e f g h : ℕ) → a < 2 → b < 2 → c < 2 → d < 2 → e < 2 → f < 2 → g < 2 → h < 2 → bit_at (byte_of a b c d e f g h) 5 ≡ f
bit_of_5 a b c d e f g h la lb lc ld le lf lg lh = omega arith

pub bit_of_6 : (a b c d e f g h : ℕ) → a < 2 → b < 2 → c < 2 → d < 2 → e < 2 → f < 2 → g < 2 → h < 2 → bit_at (byte_of a b c d e f g h) 6 ≡ g
bit_of_6 a b c d e f g h la lb lc ld le lf lg lh = omega arith

pub bit_of_7 : (a b c d e f g h : ℕ) → a < 2 → b < 2 → c < 2 → d < 2 → e < 2 → f < 2 → g < 2 → h < 2 → bit_at (byte_of a b c d e f g h) 7 ≡ h
bit_of_7 a b c d e f g h la lb lc ld le lf lg lh = omega arith

bits_of_byte : (a b c d e f g h : ℕ) → a < 2 → b < 2 → c < 2 → d < 2 → e < 2 → f < 2 → g < 2 → h < 2 → bits_of (byte_of a b c d e f g h) ≡ a ∷ b ∷ c ∷ d ∷ e ∷ f ∷ g ∷ h ∷ []
bits_of_byte a b c d e f g h la lb lc ld le lf lg lh =
    let e0 = bit_of_0 a b c d e f g h la lb lc ld le lf lg lh in
    let e1 = bit_of_1 a b c d e f g h la lb lc ld le lf lg lh in
    let e2 = bit_of_2 a b c d e f g h la lb lc ld le lf lg lh in
    let e3 = bit_of_3 a b c d e f g h la lb lc ld le lf lg lh in
    let e4 = bit_of_4 a b c d e f g h la lb lc ld le lf lg lh in
    let e5 = bit_of_5 a b c d e f g h la lb lc ld le lf lg lh in
    let e6 = bit_of_6 a b c d e f g h la lb lc ld le lf lg lh in
    let e7 = bit_of_7 a b c d e f g h la lb lc ld le lf lg lh in
    cc

pub bits_low_1 : (a b : ℕ) → bits_of (low_1 a b) ≡ bit_at a 0 ∷ bit_at b 0 ∷ bit_at a 2 ∷ bit_at b 2 ∷ bit_at a 4 ∷ bit_at b 4 ∷ bit_at a 6 ∷ bit_at b 6 ∷ []
unfolding low_1
bits_low_1 a b = bits_of_byte (bit_at a 0) (bit_at b 0) (bit_at a 2) (bit_at b 2) (bit_at a 4) (bit_at b 4) (bit_at a 6) (bit_at b 6) (bit_at-lt a 0) (bit_at-lt b 0) (bit_at-lt a 2) (bit_at-lt b 2) (bit_at-lt a 4) (bit_at-lt b 4) (bit_at-lt a 6) (bit_at-lt b 6)

pub bits_high_1 : (a b : ℕ) → bits_of (high_1 a b) ≡ bit_at a 1 ∷ bit_at b 1 ∷ bit_at a 3 ∷ bit_at b 3 ∷ bit_at a 5 ∷ bit_at b 5 ∷ bit_at a 7 ∷ bit_at b 7 ∷ []
unfolding high_1
bits_high_1 a b = bits_of_byte (bit_at a 1) (bit_at b 1) (bit_at a 3) (bit_at b 3) (bit_at a 5) (bit_at b 5) (bit_at a 7) (bit_at b 7) (bit_at-lt a 1) (bit_at-lt b 1) (bit_at-lt a 3) (bit_at-lt b 3) (bit_at-lt a 5) (bit_at-lt b 5) (bit_at-lt a 7) (bit_at-lt b 7)

pub bits_low_2 : (a b : ℕ) → bits_of (low_2 a b) ≡ bit_at a 0 ∷ bit_at a 1 ∷ bit_at b 0 ∷ bit_at b 1 ∷ bit_at a 4 ∷ bit_at a 5 ∷ bit_at b 4 ∷ bit_at b 5 ∷ []
unfolding low_2
bits_low_2 a b = bits_of_byte (bit_at a 0) (bit_at a 1) (bit_at b 0) (bit_at b 1) (bit_at a 4) (bit_at a 5) (bit_at b 4) (bit_at b 5) (bit_at-lt a 0) (bit_at-lt a 1) (bit_at-lt b 0) (bit_at-lt b 1) (bit_at-lt a 4) (bit_at-lt a 5) (bit_at-lt b 4) (bit_at-lt b 5)

pub bits_high_2 : (a b : ℕ) → bits_of (high_2 a b) ≡ bit_at a 2 ∷ bit_at a 3 ∷ bit_at b 2 ∷ bit_at b 3 ∷ bit_at a 6 ∷ bit_at a 7 ∷ bit_at b 6 ∷ bit_at b 7 ∷ []
unfolding high_2
bits_high_2 a b = bits_of_byte (bit_at a 2) (bit_at a 3) (bit_at b 2) (bit_at b 3) (bit_at a 6) (bit_at a 7) (bit_at b 6) (bit_at b 7) (bit_at-lt a 2) (bit_at-lt a 3) (bit_at-lt b 2) (bit_at-lt b 3) (bit_at-lt a 6) (bit_at-lt a 7) (bit_at-lt b 6) (bit_at-lt b 7)

pub bits_low_4 : (a b : ℕ) → bits_of (low_4 a b) ≡ bit_at a 0 ∷ bit_at a 1 ∷ bit_at a 2 ∷ bit_at a 3 ∷ bit_at b 0 ∷ bit_at b 1 ∷ bit_at b 2 ∷ bit_at b 3 ∷ []
unfolding low_4
bits_low_4 a b = bits_of_byte (bit_at a 0) (bit_at a 1) (bit_at a 2) (bit_at a 3) (bit_at b 0) (bit_at b 1) (bit_at b 2) (bit_at b 3) (bit_at-lt a 0) (bit_at-lt a 1) (bit_at-lt a 2) (bit_at-lt a 3) (bit_at-lt b 0) (bit_at-lt b 1) (bit_at-lt b 2) (bit_at-lt b 3)

pub low_4_is : (a b : ℕ) → low_4 a b ≡ number_l 2 (bit_at a 0 ∷ bit_at a 1 ∷ bit_at a 2 ∷ bit_at a 3 ∷ bit_at b 0 ∷ bit_at b 1 ∷ bit_at b 2 ∷ bit_at b 3 ∷ [])
unfolding low_4
low_4_is a b = refl

pub bits_high_4 : (a b : ℕ) → bits_of (high_4 a b) ≡ bit_at a 4 ∷ bit_at a 5 ∷ bit_at a 6 ∷ bit_at a 7 ∷ bit_at b 4 ∷ bit_at b 5 ∷ bit_at b 6 ∷ bit_at b 7 ∷ []
unfolding high_4
bits_high_4 a b = bits_of_byte (bit_at a 4) (bit_at a 5) (bit_at a 6) (bit_at a 7) (bit_at b 4) (bit_at b 5) (bit_at b 6) (bit_at b 7) (bit_at-lt a 4) (bit_at-lt a 5) (bit_at-lt a 6) (bit_at-lt a 7) (bit_at-lt b 4) (bit_at-lt b 5) (bit_at-lt b 6) (bit_at-lt b 7)

pub high_4_is : (a b : ℕ) → high_4 a b ≡ number_l 2 (bit_at a 4 ∷ bit_at a 5 ∷ bit_at a 6 ∷ bit_at a 7 ∷ bit_at b 4 ∷ bit_at b 5 ∷ bit_at b 6 ∷ bit_at b 7 ∷ [])
unfolding high_4
high_4_is a b = refl

byte_same : agree_below (λ n. number_l 2 (bits_of n) == n) (λ _. true) 256 ≡ true
byte_same = refl

pub byte_whole : (n : ℕ) → n < 256 → number_l 2 (bits_of n) ≡ n
byte_whole n below = same_at (λ k. number_l 2 (bits_of k)) (λ k. k) 256 n byte_same below
