-- The product commutes with x and is associative, each by its values at the powers of 2.
use Rattle.std.proofs.Common.{◌≡◌, ℕ, zero, suc, ◌+◌, ◌-◌, ◌*◌, ◌/◌, ◌%◌, ◌^◌, ◌<◌, ◌≤◌, ◌==◌, Bool, true, false, refl, sym, ap, ◌∙◌, arith, inl, inr, if◌then◌else◌}
use Rattle.std.proofs.lemmas.Nat.{xor_lt, xor_block, pow_pos}
use Rattle.std.proofs.lemmas.Bool.{agree_below, agree_below_at, cases_lt}
use Rattle.std.proofs.lemmas.Bool.Decides.{Decides-eqb}
use Rattle.std.specs.Int.Bits.{xor_self, xor_zero_r}
use Rattle.std.specs.Int.RustNames.{bit_xor}
use Rattle.ghash.specs.Field.{reduction, bit_of, times_x, shifted, sum_of, product}
use Rattle.ghash.proofs.Algebra.{interchange, times_x_is, times_x-xor, shifted-xor, product_left, product_power}

-- two functions that agree below n, as a computed test says
pub same_at : (f g : ℕ → ℕ) (n b : ℕ) → agree_below (λ k. f k == g k) (λ _. true) n ≡ true → b < n → f b ≡ g b
same_at f g n b same below = (Decides-eqb (f b) (g b)).0 (agree_below_at (λ k. f k == g k) (λ _. true) n b same below)

-- respects sums
pub record IsLinear (f : ℕ → ℕ) : Type 0 where
  pub sums : (a b : ℕ) → f (bit_xor a b) ≡ bit_xor (f a) (f b)

pub linear_zero : (f : ℕ → ℕ) → IsLinear f → f 0 ≡ 0
linear_zero f l = l.sums 0 0 ∙ xor_self (f 0)

-- a number with n + 1 bits whose highest is 1
top_bit : (n x : ℕ) → 2 ^ n ≤ x → x < 2 ^ suc n → (r : ℕ) × (r < 2 ^ n) × (bit_xor (2 ^ n) r ≡ x)
top_bit n x le lt =
    let r : ℕ = x - 2 ^ n in
    let small : x - 2 ^ n < 2 ^ n = omega arith in
    let block : bit_xor (1 * 2 ^ n + 0) (0 * 2 ^ n + (x - 2 ^ n)) ≡ 1 * 2 ^ n + (x - 2 ^ n) = xor_block n 1 0 0 (x - 2 ^ n) (pow_pos n) small in
    let one : 1 * 2 ^ n + 0 ≡ 2 ^ n = omega arith in
    let none : 0 * 2 ^ n + (x - 2 ^ n) ≡ x - 2 ^ n = omega arith in
    (x - 2 ^ n, small, rw (one, none) at block ∙ omega arith)

-- two functions that respect sums and agree at the powers of 2
pub linear_same : (f g : ℕ → ℕ) (n : ℕ) → IsLinear f → IsLinear g → ((k : ℕ) → k < n → f (2 ^ k) ≡ g (2 ^ k)) → (x : ℕ) → x < 2 ^ n → f x ≡ g x
linear_same f g zero lf lg at x lt =
    let none : x ≡ 0 = omega arith in
    rw none (linear_zero f lf ∙ sym (linear_zero g lg))
linear_same f g (suc n) lf lg at x lt =
    elim (cases_lt x (2 ^ n)) [
      | inl below ↦ linear_same f g n lf lg (λ k h. at k (omega arith)) x below
      | inr above ↦
          let parts = top_bit n x above lt in
          let low : f parts.0 ≡ g parts.0 = linear_same f g n lf lg (λ k h. at k (omega arith)) parts.0 parts.1 in
          let high : f (2 ^ n) ≡ g (2 ^ n) = at n (omega arith) in
          ap f (sym parts.2) ∙ lf.sums (2 ^ n) parts.0 ∙ ap (λ (t : ℕ). bit_xor t (f parts.0)) high ∙ ap (λ (t : ℕ). bit_xor (g (2 ^ n)) t) low
          ∙ sym (lg.sums (2 ^ n) parts.0) ∙ ap g parts.2
    ]

-- ---- bounds

either-lt : (c : Bool) (p v : ℕ) → p < 2 ^ 128 → v < 2 ^ 128 → (if c then p else v) < 2 ^ 128
either-lt true p v h k = h
either-lt false p v h k = k

pub times_x-lt : (v : ℕ) → v < 2 ^ 128 → times_x v < 2 ^ 128
unfolding times_x
times_x-lt v h = either-lt (v % 2 == 0) (v / 2) (bit_xor (v / 2) reduction) (omega arith) (xor_lt 128 (v / 2) reduction (omega arith) (omega arith))

pub shifted-lt : (v i : ℕ) → v < 2 ^ 128 → shifted v i < 2 ^ 128
unfolding shifted
shifted-lt v zero h = h
shifted-lt v (suc i) h = times_x-lt (shifted v i) (shifted-lt v i h)

taken-lt : (c : Bool) (p v : ℕ) → p < 2 ^ 128 → v < 2 ^ 128 → (if c then bit_xor p v else p) < 2 ^ 128
taken-lt true p v h k = xor_lt 128 p v h k
taken-lt false p v h k = h

sum_of-lt : (x y n : ℕ) → y < 2 ^ 128 → sum_of x y n < 2 ^ 128
unfolding sum_of
sum_of-lt x y zero h = omega arith
sum_of-lt x y (suc n) h = taken-lt (bit_of x n == 1) (sum_of x y n) (shifted y n) (sum_of-lt x y n h) (shifted-lt y n h)

pub product-lt : (x y : ℕ) → y < 2 ^ 128 → product x y < 2 ^ 128
product-lt x y h = sum_of-lt x y 128 h

-- ---- what respects sums

pub linear_times_x : IsLinear times_x
linear_times_x = record { sums = times_x-xor }

pub linear_shifted : (i : ℕ) → IsLinear (λ v. shifted v i)
linear_shifted i = record { sums = λ a b. shifted-xor a b i }

pub linear_product : (y : ℕ) → IsLinear (λ x. product x y)
linear_product y = record { sums = λ a b. product_left a b y }

pub linear_after : (f g : ℕ → ℕ) → IsLinear f → IsLinear g → IsLinear (λ x. f (g x))
linear_after f g lf lg = record { sums = λ a b. ap f (lg.sums a b) ∙ lf.sums (g a) (g b) }

-- ---- x^128 is 1 + x + x^2 + x^7

abbrev folded : ℕ → ℕ
folded v = bit_xor (bit_xor v (shifted v 1)) (bit_xor (shifted v 2) (shifted v 7))

powers_fold : agree_below (λ k. shifted (2 ^ k) 128 == folded (2 ^ k)) (λ _. true) 128 ≡ true
unfolding shifted times_x
powers_fold = refl

power_folds : (k : ℕ) → k < 128 → shifted (2 ^ k) 128 ≡ folded (2 ^ k)
power_folds k h = same_at (λ k. shifted (2 ^ k) 128) (λ k. folded (2 ^ k)) 128 k powers_fold h

linear_folded : IsLinear folded
linear_folded = record {
  sums = λ a b.
      rw (shifted-xor a b 1, shifted-xor a b 2, shifted-xor a b 7)
      (ap (λ (t : ℕ). bit_xor (bit_xor (bit_xor a b) (bit_xor (shifted a 1) (shifted b 1))) t) (interchange (shifted a 2) (shifted b 2) (shifted a 7) (shifted b 7))
      ∙ ap (λ (t : ℕ). bit_xor t (bit_xor (bit_xor (shifted a 2) (shifted a 7)) (bit_xor (shifted b 2) (shifted b 7)))) (interchange a b (shifted a 1) (shifted b 1))
      ∙ interchange (bit_xor a (shifted a 1)) (bit_xor b (shifted b 1)) (bit_xor (shifted a 2) (shifted a 7)) (bit_xor (shifted b 2) (shifted b 7)));
}

pub shifted_128 : (v : ℕ) → v < 2 ^ 128 → shifted v 128 ≡ folded v
shifted_128 v h = linear_same (λ v. shifted v 128) folded 128 (linear_shifted 128) linear_folded power_folds v h

-- ---- the product commutes with x

one_shifted : (y : ℕ) → shifted y 0 ≡ y
unfolding shifted
one_shifted y = refl

next_shifted : (y i : ℕ) → shifted y (suc i) ≡ times_x (shifted y i)
unfolding shifted
next_shifted y i = refl

-- the four terms of R
terms : bit_xor (bit_xor (2 ^ (127 - 0)) (2 ^ (127 - 1))) (bit_xor (2 ^ (127 - 2)) (2 ^ (127 - 7))) ≡ reduction
terms = refl

product_reduction : (y : ℕ) → product reduction y ≡ folded y
product_reduction y =
    ap (λ (t : ℕ). product t y) (sym terms)
    ∙ product_left (bit_xor (2 ^ (127 - 0)) (2 ^ (127 - 1))) (bit_xor (2 ^ (127 - 2)) (2 ^ (127 - 7))) y
    ∙ ap (λ (t : ℕ). bit_xor t (product (bit_xor (2 ^ (127 - 2)) (2 ^ (127 - 7))) y)) (product_left (2 ^ (127 - 0)) (2 ^ (127 - 1)) y)
    ∙ ap (λ (t : ℕ). bit_xor (bit_xor (product (2 ^ (127 - 0)) y) (product (2 ^ (127 - 1)) y)) t) (product_left (2 ^ (127 - 2)) (2 ^ (127 - 7)) y)
    ∙ rw (product_power 0 y (omega arith), product_power 1 y (omega arith), product_power 2 y (omega arith), product_power 7 y (omega arith), one_shifted y) refl

pub times_x-even : (v : ℕ) → times_x (2 * v) ≡ v
times_x-even v = times_x_is (2 * v) ∙ (let none : 2 * v % 2 ≡ 0 = omega arith in let half : 2 * v / 2 ≡ v = omega arith in rw (none, half) (xor_zero_r v))

times_x-one : times_x (2 ^ 0) ≡ reduction
unfolding times_x
times_x-one = refl

power_commutes : (y k : ℕ) → y < 2 ^ 128 → k < 128 → product (times_x (2 ^ k)) y ≡ times_x (product (2 ^ k) y)
power_commutes y zero b h =
    let last : product (2 ^ 0) y ≡ shifted y 127 = product_power 127 y (omega arith) in
    rw (times_x-one, last) (product_reduction y ∙ sym (shifted_128 y b) ∙ next_shifted y 127)
power_commutes y (suc k) b h =
    let double : 2 ^ suc k ≡ 2 * 2 ^ k = omega arith in
    let i : 127 - (126 - k) ≡ suc k = omega arith in
    let j : 127 - (127 - k) ≡ k = omega arith in
    let next : suc (126 - k) ≡ 127 - k = omega arith in
    let high : product (2 ^ suc k) y ≡ shifted y (126 - k) = ap (λ (n : ℕ). product (2 ^ n) y) (sym i) ∙ product_power (126 - k) y (omega arith) in
    let low : product (2 ^ k) y ≡ shifted y (127 - k) = ap (λ (n : ℕ). product (2 ^ n) y) (sym j) ∙ product_power (127 - k) y (omega arith) in
    ap (λ (n : ℕ). product (times_x n) y) double ∙ ap (λ (n : ℕ). product n y) (times_x-even (2 ^ k)) ∙ low
    ∙ ap (λ (n : ℕ). shifted y n) (sym next) ∙ next_shifted y (126 - k) ∙ ap times_x (sym high)

pub product_times_x : (x y : ℕ) → x < 2 ^ 128 → y < 2 ^ 128 → product (times_x x) y ≡ times_x (product x y)
product_times_x x y h b =
    linear_same (λ x. product (times_x x) y) (λ x. times_x (product x y)) 128
    (linear_after (λ x. product x y) times_x (linear_product y) linear_times_x)
    (linear_after times_x (λ x. product x y) linear_times_x (linear_product y))
    (λ k l. power_commutes y k b l) x h

pub product_shifted : (x y i : ℕ) → x < 2 ^ 128 → y < 2 ^ 128 → product (shifted x i) y ≡ shifted (product x y) i
unfolding shifted
product_shifted x y zero h b = refl
product_shifted x y (suc i) h b = product_times_x (shifted x i) y (shifted-lt x i h) b ∙ ap times_x (product_shifted x y i h b)

pub product_assoc : (a b c : ℕ) → a < 2 ^ 128 → b < 2 ^ 128 → c < 2 ^ 128 → product a (product b c) ≡ product (product a b) c
product_assoc a b c la lb lc =
    linear_same (λ a. product a (product b c)) (λ a. product (product a b) c) 128
    (linear_product (product b c))
    (linear_after (λ x. product x c) (λ a. product a b) (linear_product c) (linear_product b))
    (λ k l.
    let j : 127 - (127 - k) ≡ k = omega arith in
    let left : product (2 ^ (127 - (127 - k))) (product b c) ≡ shifted (product b c) (127 - k) = product_power (127 - k) (product b c) (omega arith) in
    let right : product (2 ^ (127 - (127 - k))) b ≡ shifted b (127 - k) = product_power (127 - k) b (omega arith) in
    rw j at left ∙ sym (product_shifted b c (127 - k) lb lc) ∙ ap (λ (t : ℕ). product t c) (sym (rw j at right))) a la
