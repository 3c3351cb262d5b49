-- One operator on rows of sixteen bytes.
use Rattle.std.proofs.Common.{◌≡◌, ℕ, ◌+◌, ◌*◌, ◌/◌, ◌%◌, ◌^◌, ◌<◌, List, length, get_or, replicate, refl, ap, ◌∙◌, arith, w8}
use Rattle.std.specs.Int.RustNames.{bit_xor}
use lib.Bits.{bit_and, and_le_r}
use lib.Lanes.{zip2}
use Rattle.std.proofs.lemmas.Nat.{xor_of_8, and_mask, shr_le}
use Rattle.std.proofs.lemmas.Simd.{SwzOk, swz_l, SwzOk-from_below, Each1-zip2, Each2-splat, Each1-all, length-zip2, get_or-zip2, get_or-replicate, get_or-swz_l_below, length-swz_l}
use Rattle.ghash.specs.Lanes.{IsRow}

lane_of_zip : (f : ℕ → ℕ → ℕ) (a b : List ℕ) (l : ℕ) → length a ≡ 16 → length b ≡ 16 → l < 16 → get_or (zip2 f a b) l 0 ≡ f (get_or a l 0) (get_or b l 0)
lane_of_zip f a b l la lb h = get_or-zip2 f a b l 0 0 0 (omega arith) (omega arith)

pub lane_of_splat : (f : ℕ → ℕ → ℕ) (a : List ℕ) (s l : ℕ) → length a ≡ 16 → l < 16 → get_or (zip2 f a (replicate 16 s)) l 0 ≡ f (get_or a l 0) s
lane_of_splat f a s l la h = lane_of_zip f a (replicate 16 s) l la refl h ∙ ap (λ (t : ℕ). f (get_or a l 0) t) (get_or-replicate 16 l s 0 h)

row_of_zip : (f : ℕ → ℕ → ℕ) (a b : List ℕ) → ((x y : ℕ) → x < 256 → y < 256 → f x y < 256) → IsRow a → IsRow b → IsRow (zip2 f a b)
row_of_zip f a b small ra rb = record {
  count = length-zip2 f a b (omega (arith, ra.count, rb.count)) ∙ ra.count;
  bytes = λ l h. rw (lane_of_zip f a b l ra.count rb.count h) (small (get_or a l 0) (get_or b l 0) (ra.bytes l h) (rb.bytes l h));
}

row_of_splat : (f : ℕ → ℕ → ℕ) (a : List ℕ) (s : ℕ) → ((x : ℕ) → x < 256 → f x s < 256) → IsRow a → IsRow (zip2 f a (replicate 16 s))
row_of_splat f a s small ra = record {
  count = length-zip2 f a (replicate 16 s) ra.count ∙ ra.count;
  bytes = λ l h. rw (lane_of_splat f a s l ra.count h) (small (get_or a l 0) (ra.bytes l h));
}

pub xor_row : (a b : List ℕ) → IsRow a → IsRow b → IsRow (zip2 bit_xor a b)
xor_row a b ra rb = row_of_zip bit_xor a b (λ x y h k. xor_of_8 x y h k) ra rb

pub xor_lanes : (a b : List ℕ) → IsRow a → IsRow b → (l : ℕ) → l < 16 → get_or (zip2 bit_xor a b) l 0 ≡ bit_xor (get_or a l 0) (get_or b l 0)
xor_lanes a b ra rb l h = lane_of_zip bit_xor a b l ra.count rb.count h

quotient_small : (x s : ℕ) → x < 256 → x / 2 ^ s < 256
quotient_small x s h = omega (arith, shr_le x s)

pub right_row : (a : List ℕ) (s : ℕ) → IsRow a → IsRow (zip2 (λ x y. x / 2 ^ y) a (replicate 16 s))
right_row a s ra = row_of_splat (λ x y. x / 2 ^ y) a s (λ x h. quotient_small x s h) ra

pub left_row : (a : List ℕ) (s : ℕ) → IsRow a → IsRow (zip2 (λ x y. x * 2 ^ y % 2 ^ 8) a (replicate 16 s))
left_row a s ra = row_of_splat (λ x y. x * 2 ^ y % 2 ^ 8) a s (λ x h. omega arith) ra

-- ---- a shuffle by the low halves of bytes

abbrev pub low : List ℕ → List ℕ
low v = zip2 bit_and v (replicate 16 15)

low_small : (v : List ℕ) (l : ℕ) → length v ≡ 16 → l < 16 → get_or (low v) l 0 ≡ get_or v l 0 % 16
low_small v l len h = lane_of_splat bit_and v 15 l len h ∙ and_mask (get_or v l 0) 4

pub low_ok : (v : List ℕ) → length v ≡ 16 → SwzOk w8 16 16 0 (low v)
low_ok v len =
    let small = Each1-all (λ a. bit_and a 15 < 16) (λ a. omega (arith, and_le_r a 15)) v in
    SwzOk-from_below w8 16 1 16 0 (low v) refl (omega (arith, length-zip2 bit_and v (replicate 16 15) len))
    (Each1-zip2 bit_and (λ j. j < 16) v (replicate 16 15) (Each2-splat (λ a b. bit_and a b < 16) v 16 15 small))

pub look_lanes : (row v : List ℕ) → length v ≡ 16 → (l : ℕ) → l < 16 → get_or (swz_l w8 16 row 0 (low v)) l 0 ≡ get_or row (get_or v l 0 % 16) 0
look_lanes row v len l h =
    let place = low_small v l len h in
    let count : length (low v) ≡ 16 = length-zip2 bit_and v (replicate 16 15) len ∙ len in
    let block : 16 * ((0 + l) / 16) + get_or (low v) l 0 ≡ get_or v l 0 % 16 = omega (arith, place) in
    get_or-swz_l_below w8 16 row 0 (low v) l (omega arith) (omega (arith, place)) ∙ ap (λ (t : ℕ). get_or row t 0) block

pub look_row : (row v : List ℕ) → IsRow row → length v ≡ 16 → IsRow (swz_l w8 16 row 0 (low v))
look_row row v r len = record {
  count = length-swz_l w8 16 row 0 (low v) ∙ length-zip2 bit_and v (replicate 16 15) len ∙ len;
  bytes = λ l h. rw (look_lanes row v len l h) (r.bytes (get_or v l 0 % 16) (omega arith));
}
