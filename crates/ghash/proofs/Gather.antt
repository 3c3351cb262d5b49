-- Elements by their bytes: sums, the product with x^8, one byte more, and a grid that is filled row by row.
use Rattle.std.proofs.Common.{◌≡◌, ℕ, zero, suc, ◌+◌, ◌-◌, ◌*◌, ◌/◌, ◌%◌, ◌^◌, ◌<◌, ◌≤◌, ◌==◌, List, [], length, get_or, replicate, true, refl, sym, ap, ◌∙◌, arith, get_or-set_other, get_or-set_same, inl, inr}
use Rattle.std.proofs.Math.ListN.{set, length-set}
use Rattle.std.proofs.lemmas.Nat.{xor_lt, xor_block, xor_comm, pow_pos}
use Rattle.std.proofs.lemmas.Simd.{get_or-replicate}
use Rattle.std.proofs.lemmas.Bool.{agree_below, cases_eq}
use Rattle.std.specs.Int.Bits.{xor_assoc, xor_self, xor_zero_l, xor_zero_r}
use Rattle.std.specs.Int.RustNames.{bit_xor}
use Rattle.ghash.specs.Field.{times_x, shifted, product}
use Rattle.ghash.specs.Lanes.{gathered, byte_in, lane_of, IsRow, IsGrid, IsTable, here, next, moved}
use Rattle.ghash.proofs.Algebra.{interchange, shifted-xor, shifted-add, product_left}
use Rattle.ghash.proofs.Linear.{same_at, linear_zero, linear_shifted, linear_product, times_x-even, shifted-lt, product_shifted}

-- ---- shifts of numbers that end in zeros

turned_product : (v p : ℕ) → v * (2 * p) ≡ (2 * v) * p
turned_product v p = omega arith

pub shifted_even : (v i : ℕ) → shifted (v * 2 ^ i) i ≡ v
unfolding shifted
shifted_even v zero = omega arith
shifted_even v (suc i) =
    let power : 2 ^ suc i ≡ 2 * 2 ^ i = omega arith in
    let split : v * 2 ^ suc i ≡ (2 * v) * 2 ^ i = rw power (turned_product v (2 ^ i)) in
    ap (λ (t : ℕ). times_x (shifted t i)) split ∙ ap times_x (shifted_even (2 * v) i) ∙ times_x-even v

pub shifted_zero : (i : ℕ) → shifted 0 i ≡ 0
shifted_zero i = linear_zero (λ v. shifted v i) (linear_shifted i)

pub xor_times : (a b k : ℕ) → bit_xor a b * 2 ^ k ≡ bit_xor (a * 2 ^ k) (b * 2 ^ k)
xor_times a b k =
    let block : bit_xor (a * 2 ^ k + 0) (b * 2 ^ k + 0) ≡ bit_xor a b * 2 ^ k + bit_xor 0 0 = xor_block k a b 0 0 (pow_pos k) (pow_pos k) in
    let left : a * 2 ^ k + 0 ≡ a * 2 ^ k = omega arith in
    let right : b * 2 ^ k + 0 ≡ b * 2 ^ k = omega arith in
    let whole : bit_xor a b * 2 ^ k + bit_xor 0 0 ≡ bit_xor a b * 2 ^ k = omega arith in
    sym (rw (left, right, whole) at block)

-- high bits and low bits do not meet
pub sum_apart : (a r k : ℕ) → r < 2 ^ k → a * 2 ^ k + r ≡ bit_xor (a * 2 ^ k) r
sum_apart a r k h =
    let block : bit_xor (a * 2 ^ k + 0) (0 * 2 ^ k + r) ≡ bit_xor a 0 * 2 ^ k + bit_xor 0 r = xor_block k a 0 0 r (pow_pos k) h in
    let left : a * 2 ^ k + 0 ≡ a * 2 ^ k = omega arith in
    let right : 0 * 2 ^ k + r ≡ r = omega arith in
    sym (rw (left, right, xor_zero_r a, xor_zero_l r) at block)

-- ---- the sum of bytes

pub gathered-same : (f g : ℕ → ℕ) (n : ℕ) → ((k : ℕ) → k < n → f k ≡ g k) → gathered f n ≡ gathered g n
unfolding gathered
gathered-same f g zero same = refl
gathered-same f g (suc n) same =
    ap (λ (t : ℕ). bit_xor t (shifted (f n * 2 ^ 120) (8 * n))) (gathered-same f g n (λ k h. same k (omega arith)))
    ∙ ap (λ (t : ℕ). bit_xor (gathered g n) (shifted (t * 2 ^ 120) (8 * n))) (same n (omega arith))

pub gathered-xor : (f g : ℕ → ℕ) (n : ℕ) → gathered (λ k. bit_xor (f k) (g k)) n ≡ bit_xor (gathered f n) (gathered g n)
unfolding gathered
gathered-xor f g zero = sym (xor_self 0)
gathered-xor f g (suc n) =
    rw (gathered-xor f g n, xor_times (f n) (g n) 120, shifted-xor (f n * 2 ^ 120) (g n * 2 ^ 120) (8 * n))
    (interchange (gathered f n) (gathered g n) (shifted (f n * 2 ^ 120) (8 * n)) (shifted (g n * 2 ^ 120) (8 * n)))

pub gathered-lt : (f : ℕ → ℕ) (n : ℕ) → ((k : ℕ) → k < n → f k < 256) → gathered f n < 2 ^ 128
unfolding gathered
gathered-lt f zero small = omega arith
gathered-lt f (suc n) small =
    let byte : f n < 256 = small n (omega arith) in
    xor_lt 128 (gathered f n) (shifted (f n * 2 ^ 120) (8 * n)) (gathered-lt f n (λ k h. small k (omega arith)))
    (shifted-lt (f n * 2 ^ 120) (8 * n) (omega arith))

-- the first byte, and x^8 times the others
pub gathered-first : (f : ℕ → ℕ) (n : ℕ) → gathered f (suc n) ≡ bit_xor (f 0 * 2 ^ 120) (shifted (gathered (λ k. f (suc k)) n) 8)
unfolding gathered shifted
gathered-first f zero = sym (ap (λ (t : ℕ). bit_xor (f 0 * 2 ^ 120) t) (shifted_zero 8) ∙ xor_zero_r (f 0 * 2 ^ 120))
gathered-first f (suc n) =
    let rest : ℕ → ℕ = λ k. f (suc k) in
    let place : 8 * suc n ≡ 8 * n + 8 = omega arith in
    ap (λ (t : ℕ). bit_xor t (shifted (f (suc n) * 2 ^ 120) (8 * suc n))) (gathered-first f n)
    ∙ ap (λ (t : ℕ). bit_xor (bit_xor (f 0 * 2 ^ 120) (shifted (gathered rest n) 8)) t) (ap (λ (i : ℕ). shifted (f (suc n) * 2 ^ 120) i) place ∙ shifted-add (f (suc n) * 2 ^ 120) (8 * n) 8)
    ∙ xor_assoc (f 0 * 2 ^ 120) (shifted (gathered rest n) 8) (shifted (shifted (f (suc n) * 2 ^ 120) (8 * n)) 8)
    ∙ ap (λ (t : ℕ). bit_xor (f 0 * 2 ^ 120) t) (sym (shifted-xor (gathered rest n) (shifted (f (suc n) * 2 ^ 120) (8 * n)) 8))

pub gathered-last : (f : ℕ → ℕ) (n : ℕ) → gathered f (suc n) ≡ bit_xor (gathered f n) (shifted (f n * 2 ^ 120) (8 * n))
unfolding gathered
gathered-last f n = refl

-- ---- x^8 times an element, by bytes

bytes_fold : agree_below (λ v. shifted (v * 2 ^ 120) 128 == bit_xor (here v * 2 ^ 120) (next v * 2 ^ 112)) (λ _. true) 256 ≡ true
unfolding shifted times_x
bytes_fold = refl

byte_folds : (v : ℕ) → v < 256 → shifted (v * 2 ^ 120) 128 ≡ bit_xor (here v * 2 ^ 120) (next v * 2 ^ 112)
byte_folds v h = same_at (λ v. shifted (v * 2 ^ 120) 128) (λ v. bit_xor (here v * 2 ^ 120) (next v * 2 ^ 112)) 256 v bytes_fold h

moved_rest : (f : ℕ → ℕ) → gathered (λ k. moved f (suc k)) 15 ≡ bit_xor (next (f 15) * 2 ^ 120) (gathered f 15)
moved_rest f =
    gathered-first (λ k. moved f (suc k)) 14
    ∙ ap (λ (t : ℕ). bit_xor t (shifted (gathered (λ k. f (suc k)) 14) 8)) (xor_times (f 0) (next (f 15)) 120 ∙ xor_comm (f 0 * 2 ^ 120) (next (f 15) * 2 ^ 120))
    ∙ xor_assoc (next (f 15) * 2 ^ 120) (f 0 * 2 ^ 120) (shifted (gathered (λ k. f (suc k)) 14) 8)
    ∙ ap (λ (t : ℕ). bit_xor (next (f 15) * 2 ^ 120) t) (sym (gathered-first f 14))

next_shifted_8 : (v : ℕ) → shifted (v * 2 ^ 120) 8 ≡ v * 2 ^ 112
next_shifted_8 v =
    let split : v * 2 ^ 120 ≡ (v * 2 ^ 112) * 2 ^ 8 = omega arith in
    ap (λ (t : ℕ). shifted t 8) split ∙ shifted_even (v * 2 ^ 112) 8

pub gathered-moved : (f : ℕ → ℕ) → f 15 < 256 → gathered (moved f) 16 ≡ shifted (gathered f 16) 8
gathered-moved f h =
    let H : ℕ = here (f 15) * 2 ^ 120 in
    let N : ℕ = next (f 15) * 2 ^ 112 in
    let R : ℕ = shifted (gathered f 15) 8 in
    let rest : shifted (gathered (λ k. moved f (suc k)) 15) 8 ≡ bit_xor (next (f 15) * 2 ^ 112) (shifted (gathered f 15) 8) =
    ap (λ (t : ℕ). shifted t 8) (moved_rest f) ∙ shifted-xor (next (f 15) * 2 ^ 120) (gathered f 15) 8
    ∙ ap (λ (t : ℕ). bit_xor t (shifted (gathered f 15) 8)) (next_shifted_8 (next (f 15))) in
    let top : shifted (shifted (f 15 * 2 ^ 120) (8 * 15)) 8 ≡ bit_xor (here (f 15) * 2 ^ 120) (next (f 15) * 2 ^ 112) =
    sym (shifted-add (f 15 * 2 ^ 120) (8 * 15) 8) ∙ byte_folds (f 15) h in
    gathered-first (moved f) 15
    ∙ ap (λ (t : ℕ). bit_xor (here (f 15) * 2 ^ 120) t) rest
    ∙ sym (xor_assoc (here (f 15) * 2 ^ 120) (next (f 15) * 2 ^ 112) (shifted (gathered f 15) 8))
    ∙ xor_comm (bit_xor (here (f 15) * 2 ^ 120) (next (f 15) * 2 ^ 112)) (shifted (gathered f 15) 8)
    ∙ ap (λ (t : ℕ). bit_xor (shifted (gathered f 15) 8) t) (sym top)
    ∙ sym (shifted-xor (gathered f 15) (shifted (f 15 * 2 ^ 120) (8 * 15)) 8)
    ∙ ap (λ (t : ℕ). shifted t 8) (sym (gathered-last f 15))

-- ---- a grid that is filled row by row

-- the first n rows are given by f
pub record Filled (grid : List (List ℕ)) (n : ℕ) (f : ℕ → ℕ → ℕ) : Type 0 where
  pub grid_is : IsGrid grid
  pub bytes : (p l : ℕ) → p < n → l < 16 → byte_in grid p l ≡ f p l

abbrev pub zero_row : List ℕ
zero_row = replicate 16 0

abbrev pub zeros : List (List ℕ)
zeros = replicate 16 zero_row

zero_byte : (l : ℕ) → l < 16 → get_or zero_row l 0 ≡ 0
zero_byte l h = get_or-replicate 16 l 0 0 h

zero_row_is : IsRow zero_row
zero_row_is = record { count = refl; bytes = λ l k. omega (arith, zero_byte l k) }

pub zero_grid : IsGrid zeros
zero_grid = record {
  count = refl;
  rows = λ p h. rw (get_or-replicate 16 p zero_row [] h) zero_row_is;
}

pub none_filled : (f : ℕ → ℕ → ℕ) → Filled zeros 0 f
none_filled f = record { grid_is = zero_grid; bytes = λ p l h k. absurd (omega arith) }

pub set_grid : (grid : List (List ℕ)) (n : ℕ) (row : List ℕ) → IsGrid grid → n < 16 → IsRow row → IsGrid (set grid n row)
set_grid grid n row g h r =
    let within : n < length grid = omega (arith, g.count) in
    record {
      count = length-set grid n row ∙ g.count;
      rows = λ p k. elim (cases_eq p n) [
        | inl same ↦ rw (same, get_or-set_same) r
        | inr ne ↦ rw get_or-set_other (g.rows p k)
      ];
    }

pub one_filled : (grid : List (List ℕ)) (n : ℕ) (row : List ℕ) (f : ℕ → ℕ → ℕ) → Filled grid n f → n < 16 → IsRow row
    → ((l : ℕ) → l < 16 → get_or row l 0 ≡ f n l) → Filled (set grid n row) (n + 1) f
one_filled grid n row f filled h r is =
    let within : n < length grid = omega (arith, filled.grid_is.count) in
    record {
      grid_is = set_grid grid n row filled.grid_is h r;
      bytes = λ p l k j. elim (cases_eq p n) [
        | inl same ↦ rw (same, get_or-set_same) (is l j)
        | inr ne ↦ rw get_or-set_other (filled.bytes p l (omega arith) j)
      ];
    }

-- ---- one byte more of a product

-- what the rows are after one byte
abbrev pub after : List (List ℕ) → List (List ℕ) → List (List ℕ) → List ℕ → ℕ → ℕ → ℕ
after high low acc bytes p l =
    bit_xor (bit_xor (moved (λ k. byte_in acc k l) p) (byte_in high p (get_or bytes l 0 / 2 ^ 4 % 16))) (byte_in low p (get_or bytes l 0 % 16))

halves : (x y : ℕ) → x < 256 → bit_xor (product (x / 2 ^ 4 % 16 * 2 ^ 124) y) (product (x % 16 * 2 ^ 120) y) ≡ product (x * 2 ^ 120) y
halves x y h =
    let high : x / 2 ^ 4 % 16 ≡ x / 2 ^ 4 = omega arith in
    let whole : x * 2 ^ 120 ≡ x / 2 ^ 4 * 2 ^ 124 + x % 16 * 2 ^ 120 = omega arith in
    rw high
    (sym (product_left (x / 2 ^ 4 * 2 ^ 124) (x % 16 * 2 ^ 120) y)
    ∙ ap (λ (t : ℕ). product t y) (sym (whole ∙ sum_apart (x / 2 ^ 4) (x % 16 * 2 ^ 120) 124 (omega arith))))

pub one_more_lane : (high low acc out : List (List ℕ)) (bytes : List ℕ) (y l n : ℕ) → IsTable high 124 y → IsTable low 120 y → IsGrid acc → IsRow bytes
    → Filled out n (after high low acc bytes) → 16 ≤ n → l < 16 → lane_of out l ≡ bit_xor (shifted (lane_of acc l) 8) (product (get_or bytes l 0 * 2 ^ 120) y)
unfolding lane_of
one_more_lane high low acc out bytes y l n th tl ga rb filled end h =
    let x : ℕ = get_or bytes l 0 in
    let carried : gathered (moved (λ k. byte_in acc k l)) 16 ≡ shifted (gathered (λ k. byte_in acc k l) 16) 8 =
    gathered-moved (λ k. byte_in acc k l) ((ga.rows 15 (omega arith)).bytes l h) in
    let top : gathered (λ p. byte_in high p (get_or bytes l 0 / 2 ^ 4 % 16)) 16 ≡ product (get_or bytes l 0 / 2 ^ 4 % 16 * 2 ^ 124) y = th.lanes (get_or bytes l 0 / 2 ^ 4 % 16) (omega arith) in
    let bottom : gathered (λ p. byte_in low p (get_or bytes l 0 % 16)) 16 ≡ product (get_or bytes l 0 % 16 * 2 ^ 120) y = tl.lanes (get_or bytes l 0 % 16) (omega arith) in
    gathered-same (λ p. byte_in out p l) (λ p. after high low acc bytes p l) 16 (λ p k. filled.bytes p l (omega arith) h)
    ∙ gathered-xor (λ p. bit_xor (moved (λ k. byte_in acc k l) p) (byte_in high p (get_or bytes l 0 / 2 ^ 4 % 16))) (λ p. byte_in low p (get_or bytes l 0 % 16)) 16
    ∙ ap (λ (t : ℕ). bit_xor t (gathered (λ p. byte_in low p (get_or bytes l 0 % 16)) 16)) (gathered-xor (moved (λ k. byte_in acc k l)) (λ p. byte_in high p (get_or bytes l 0 / 2 ^ 4 % 16)) 16)
    ∙ rw (carried, top, bottom)
    (xor_assoc (shifted (gathered (λ k. byte_in acc k l) 16) 8) (product (get_or bytes l 0 / 2 ^ 4 % 16 * 2 ^ 124) y) (product (get_or bytes l 0 % 16 * 2 ^ 120) y)
    ∙ ap (λ (t : ℕ). bit_xor (shifted (gathered (λ k. byte_in acc k l) 16) 8) t) (halves (get_or bytes l 0) y (rb.bytes l h)))

gathered-none : (n : ℕ) → gathered (λ _. 0) n ≡ 0
unfolding gathered
gathered-none zero = refl
gathered-none (suc n) = rw (gathered-none n, shifted_zero (8 * n)) refl

pub zero_lane : (l : ℕ) → l < 16 → lane_of zeros l ≡ 0
unfolding lane_of
zero_lane l h =
    gathered-same (λ p. byte_in zeros p l) (λ _. 0) 16 (λ p k. ap (λ (row : List ℕ). get_or row l 0) (get_or-replicate 16 p zero_row [] k) ∙ zero_byte l h)
    ∙ gathered-none 16

-- ---- the last n bytes of each element, times the key

abbrev pub tail : List (List ℕ) → ℕ → ℕ → ℕ
tail x l n = gathered (λ k. byte_in x ((16 - n) + k) l) n

pub record Multiplied (high low x : List (List ℕ)) (n : ℕ) (acc : List (List ℕ)) : Type 0 where
  pub grid_is : IsGrid acc
  pub lanes : (y l : ℕ) → y < 2 ^ 128 → IsTable high 124 y → IsTable low 120 y → l < 16 → lane_of acc l ≡ product (tail x l n) y

pub multiplied_none : (high low x : List (List ℕ)) → Multiplied high low x 0 zeros
unfolding gathered
multiplied_none high low x = record {
  grid_is = zero_grid;
  lanes = λ y l b th tl h. zero_lane l h ∙ sym (linear_zero (λ v. product v y) (linear_product y));
}

tail-more : (x : List (List ℕ)) (l n : ℕ) → n < 16 → tail x l (suc n) ≡ bit_xor (byte_in x (15 - n) l * 2 ^ 120) (shifted (tail x l n) 8)
tail-more x l n h =
    let first : (16 - suc n) + 0 ≡ 15 - n = omega arith in
    gathered-first (λ k. byte_in x ((16 - suc n) + k) l) n
    ∙ ap (λ (i : ℕ). bit_xor (byte_in x i l * 2 ^ 120) (shifted (gathered (λ k. byte_in x ((16 - suc n) + suc k) l) n) 8)) first
    ∙ ap (λ (t : ℕ). bit_xor (byte_in x (15 - n) l * 2 ^ 120) (shifted t 8))
    (gathered-same (λ k. byte_in x ((16 - suc n) + suc k) l) (λ k. byte_in x ((16 - n) + k) l) n
    (λ k j. let place : (16 - suc n) + suc k ≡ (16 - n) + k = omega arith in ap (λ (i : ℕ). byte_in x i l) place))

pub multiplied_more : (high low x acc more : List (List ℕ)) (n : ℕ) → n < 16 → IsGrid x → Multiplied high low x n acc → IsGrid more
    → ((y l : ℕ) → IsTable high 124 y → IsTable low 120 y → l < 16 → lane_of more l ≡ bit_xor (shifted (lane_of acc l) 8) (product (byte_in x (15 - n) l * 2 ^ 120) y))
    → Multiplied high low x (n + 1) more
multiplied_more high low x acc more n h gx m gm is = record {
  grid_is = gm;
  lanes = λ y l b th tl k.
      let byte : ℕ = byte_in x (15 - n) l * 2 ^ 120 in
      let last : n + 1 ≡ suc n = omega arith in
      let small : tail x l n < 2 ^ 128 = gathered-lt (λ j. byte_in x ((16 - n) + j) l) n (λ j i. (gx.rows ((16 - n) + j) (omega arith)).bytes l k) in
      is y l th tl k
      ∙ ap (λ (t : ℕ). bit_xor (shifted t 8) (product (byte_in x (15 - n) l * 2 ^ 120) y)) (m.lanes y l b th tl k)
      ∙ ap (λ (t : ℕ). bit_xor t (product (byte_in x (15 - n) l * 2 ^ 120) y)) (sym (product_shifted (tail x l n) y 8 small b))
      ∙ xor_comm (product (shifted (tail x l n) 8) y) (product (byte_in x (15 - n) l * 2 ^ 120) y)
      ∙ sym (product_left (byte_in x (15 - n) l * 2 ^ 120) (shifted (tail x l n) 8) y)
      ∙ ap (λ (t : ℕ). product t y) (sym (tail-more x l n h))
      ∙ ap (λ (i : ℕ). product (tail x l i) y) (sym last);
}

pub multiplied_all : (high low x acc : List (List ℕ)) (n : ℕ) → n ≡ 16 → Multiplied high low x n acc → (y l : ℕ) → y < 2 ^ 128 → IsTable high 124 y → IsTable low 120 y → l < 16
    → lane_of acc l ≡ product (lane_of x l) y
unfolding lane_of
multiplied_all high low x acc n end m y l b th tl h =
    m.lanes y l b th tl h
    ∙ ap (λ (i : ℕ). product (tail x l i) y) end
    ∙ ap (λ (t : ℕ). product t y) (gathered-same (λ k. byte_in x ((16 - 16) + k) l) (λ k. byte_in x k l) 16 (λ k j. let place : (16 - 16) + k ≡ k = omega arith in ap (λ (i : ℕ). byte_in x i l) place))
