-- Facts of the field: the product with x respects sums, so do all products, and MixColumns is undone.
use Rattle.std.proofs.Common.{◌≡◌, ℕ, zero, suc, ◌/◌, ◌%◌, ◌<◌, ◌==◌, nat_lt, Bool, true, false, cond, [], ◌∷◌, refl, ◌∙◌, ap, lit<}
use Rattle.std.specs.Int.Bits.{bit_xor, xor_assoc, xor_self, xor_zero_r}
use Rattle.std.proofs.lemmas.Nat.{xor_of_8}
use Rattle.std.proofs.lemmas.Bool.{agree_below, agree_below_at, ltb-true}
use Rattle.std.proofs.lemmas.Bool.Decides.{Decides-eqb}
use Rattle.aes_core.specs.Field.{x_times, times_bits, times, inverse_up_to, inverse, affine, sub_byte, affine_back, inv_sub_byte}
use Rattle.aes_core.specs.State.{mixed, unmixed}
use Rattle.aes_core.specs.Laws.XorSums.{interchange, Sum, same_sums}
use Rattle.aes_core.specs.Laws.XorSums.Sum.{Term, Both}

-- two functions that agree below n, as a computed test says
pub same_at : (f g : ℕ → ℕ) (n b : ℕ) → agree_below (λ k. f k == g k) (λ _. true) n ≡ true → b < n → f b ≡ g b
same_at f g n b same below = (Decides-eqb (f b) (g b)).0 (agree_below_at (λ k. f k == g k) (λ _. true) n b same below)

-- ---- the product with x

pairs_same : agree_below (λ a. agree_below (λ b. x_times (bit_xor a b) == bit_xor (x_times a) (x_times b)) (λ _. true) 256) (λ _. true) 256 ≡ true
unfolding x_times
pairs_same = refl

-- it respects sums
pub x_times_sum : (a b : ℕ) → a < 256 → b < 256 → x_times (bit_xor a b) ≡ bit_xor (x_times a) (x_times b)
x_times_sum a b la lb =
    (Decides-eqb (x_times (bit_xor a b)) (bit_xor (x_times a) (x_times b))).0
    (agree_below_at (λ n. x_times (bit_xor a n) == bit_xor (x_times a) (x_times n)) (λ _. true) 256 b
    (agree_below_at (λ m. agree_below (λ n. x_times (bit_xor m n) == bit_xor (x_times m) (x_times n)) (λ _. true) 256) (λ _. true) 256 a pairs_same la) lb)

bytes_stay : agree_below (λ a. nat_lt (x_times a) 256) (λ _. true) 256 ≡ true
unfolding x_times
bytes_stay = refl

-- it is a byte
pub x_times_byte : (a : ℕ) → a < 256 → x_times a < 256
x_times_byte a below = ltb-true (x_times a) 256 (agree_below_at (λ n. nat_lt (x_times n) 256) (λ _. true) 256 a bytes_stay below)

-- a sum of bytes is a byte
pub sum_byte : (a b : ℕ) → a < 256 → b < 256 → bit_xor a b < 256
sum_byte a b la lb = xor_of_8 a b la lb

-- ---- products

chosen_sum : (t : Bool) (a b : ℕ) → cond t 0 (bit_xor a b) ≡ bit_xor (cond t 0 a) (cond t 0 b)
chosen_sum true a b = refl
chosen_sum false a b = refl

times_bits_sum : (n k a b : ℕ) → a < 256 → b < 256 → times_bits n k (bit_xor a b) ≡ bit_xor (times_bits n k a) (times_bits n k b)
unfolding times_bits
times_bits_sum zero k a b la lb = refl
times_bits_sum (suc n) k a b la lb =
    ap (λ y. bit_xor (cond (k % 2 == 0) 0 (bit_xor a b)) (times_bits n (k / 2) y)) (x_times_sum a b la lb)
    ∙ ap (λ y. bit_xor (cond (k % 2 == 0) 0 (bit_xor a b)) y) (times_bits_sum n (k / 2) (x_times a) (x_times b) (x_times_byte a la) (x_times_byte b lb))
    ∙ ap (λ y. bit_xor y (bit_xor (times_bits n (k / 2) (x_times a)) (times_bits n (k / 2) (x_times b)))) (chosen_sum (k % 2 == 0) a b)
    ∙ interchange (cond (k % 2 == 0) 0 a) (cond (k % 2 == 0) 0 b) (times_bits n (k / 2) (x_times a)) (times_bits n (k / 2) (x_times b))

chosen_byte : (t : Bool) (a : ℕ) → a < 256 → cond t 0 a < 256
chosen_byte true a below = lit< tt
chosen_byte false a below = below

times_bits_byte : (n k a : ℕ) → a < 256 → times_bits n k a < 256
unfolding times_bits
times_bits_byte zero k a below = lit< tt
times_bits_byte (suc n) k a below =
    sum_byte (cond (k % 2 == 0) 0 a) (times_bits n (k / 2) (x_times a)) (chosen_byte (k % 2 == 0) a below) (times_bits_byte n (k / 2) (x_times a) (x_times_byte a below))

-- a product respects sums of its second factor
pub times_sum : (k a b : ℕ) → a < 256 → b < 256 → times k (bit_xor a b) ≡ bit_xor (times k a) (times k b)
unfolding times
times_sum k a b la lb = times_bits_sum 8 k a b la lb

-- and is a byte
pub times_byte : (k a : ℕ) → a < 256 → times k a < 256
unfolding times
times_byte k a below = times_bits_byte 8 k a below

-- ---- sums of four

abbrev pub sum4 : ℕ → ℕ → ℕ → ℕ → ℕ
sum4 w x y z = bit_xor (bit_xor (bit_xor w x) y) z

pub sum4_byte : (w x y z : ℕ) → w < 256 → x < 256 → y < 256 → z < 256 → sum4 w x y z < 256
sum4_byte w x y z lw lx ly lz = sum_byte (bit_xor (bit_xor w x) y) z (sum_byte (bit_xor w x) y (sum_byte w x lw lx) ly) lz

times_sum4 : (k w x y z : ℕ) → w < 256 → x < 256 → y < 256 → z < 256 → times k (sum4 w x y z) ≡ sum4 (times k w) (times k x) (times k y) (times k z)
times_sum4 k w x y z lw lx ly lz =
    times_sum k (bit_xor (bit_xor w x) y) z (sum_byte (bit_xor w x) y (sum_byte w x lw lx) ly) lz
    ∙ ap (λ t. bit_xor t (times k z)) (times_sum k (bit_xor w x) y (sum_byte w x lw lx) ly ∙ ap (λ t. bit_xor t (times k y)) (times_sum k w x lw lx))

abbrev pub sum4_of : Sum → Sum → Sum → Sum → Sum
sum4_of w x y z = Both (Both (Both w x) y) z

-- the terms of a 4 by 4 sum, by the diagonals on which one variable of a turned row stands
regrouped : (t0 t1 t2 t3 t4 t5 t6 t7 t8 t9 t10 t11 t12 t13 t14 t15 : ℕ) →
    sum4 (sum4 t0 t1 t2 t3) (sum4 t4 t5 t6 t7) (sum4 t8 t9 t10 t11) (sum4 t12 t13 t14 t15)
    ≡ sum4 (sum4 t0 t7 t10 t13) (sum4 t1 t4 t11 t14) (sum4 t2 t5 t8 t15) (sum4 t3 t6 t9 t12)
regrouped t0 t1 t2 t3 t4 t5 t6 t7 t8 t9 t10 t11 t12 t13 t14 t15 =
    same_sums (t0 ∷ t1 ∷ t2 ∷ t3 ∷ t4 ∷ t5 ∷ t6 ∷ t7 ∷ t8 ∷ t9 ∷ t10 ∷ t11 ∷ t12 ∷ t13 ∷ t14 ∷ t15 ∷ [])
    (sum4_of
    (sum4_of (Term 0) (Term 1) (Term 2) (Term 3)) (sum4_of (Term 4) (Term 5) (Term 6) (Term 7))
    (sum4_of (Term 8) (Term 9) (Term 10) (Term 11)) (sum4_of (Term 12) (Term 13) (Term 14) (Term 15)))
    (sum4_of
    (sum4_of (Term 0) (Term 7) (Term 10) (Term 13)) (sum4_of (Term 1) (Term 4) (Term 11) (Term 14))
    (sum4_of (Term 2) (Term 5) (Term 8) (Term 15)) (sum4_of (Term 3) (Term 6) (Term 9) (Term 12)))
    refl

only_first : (a w x y z : ℕ) → w ≡ a → x ≡ 0 → y ≡ 0 → z ≡ 0 → sum4 w x y z ≡ a
only_first a w x y z ew ex ey ez =
    ap (λ t. sum4 t x y z) ew ∙ ap (λ t. sum4 a t y z) ex ∙ ap (λ t. sum4 a 0 t z) ey ∙ ap (λ t. sum4 a 0 0 t) ez
    ∙ xor_zero_r (bit_xor (bit_xor a 0) 0) ∙ xor_zero_r (bit_xor a 0) ∙ xor_zero_r a

-- ---- MixColumns and its inverse, on a column

first_1 : agree_below (λ a. sum4 (times 14 (times 2 a)) (times 11 a) (times 13 a) (times 9 (times 3 a)) == a) (λ _. true) 256 ≡ true
unfolding times times_bits x_times
first_1 = refl

second_1 : agree_below (λ b. sum4 (times 14 (times 3 b)) (times 11 (times 2 b)) (times 13 b) (times 9 b) == 0) (λ _. true) 256 ≡ true
unfolding times times_bits x_times
second_1 = refl

third_1 : agree_below (λ c. sum4 (times 14 c) (times 11 (times 3 c)) (times 13 (times 2 c)) (times 9 c) == 0) (λ _. true) 256 ≡ true
unfolding times times_bits x_times
third_1 = refl

fourth_1 : agree_below (λ d. sum4 (times 14 d) (times 11 d) (times 13 (times 3 d)) (times 9 (times 2 d)) == 0) (λ _. true) 256 ≡ true
unfolding times times_bits x_times
fourth_1 = refl

pub mixed_undone : (a b c d : ℕ) → a < 256 → b < 256 → c < 256 → d < 256 → unmixed (mixed a b c d) (mixed b c d a) (mixed c d a b) (mixed d a b c) ≡ a
unfolding mixed unmixed
mixed_undone a b c d la lb lc ld =
    ap (λ t. sum4 t (times 11 (mixed b c d a)) (times 13 (mixed c d a b)) (times 9 (mixed d a b c)))
    (times_sum4 14 (times 2 a) (times 3 b) c d (times_byte 2 a la) (times_byte 3 b lb) lc ld)
    ∙ ap (λ t. sum4 (sum4 (times 14 (times 2 a)) (times 14 (times 3 b)) (times 14 c) (times 14 d)) t (times 13 (mixed c d a b)) (times 9 (mixed d a b c)))
    (times_sum4 11 (times 2 b) (times 3 c) d a (times_byte 2 b lb) (times_byte 3 c lc) ld la)
    ∙ ap (λ t. sum4 (sum4 (times 14 (times 2 a)) (times 14 (times 3 b)) (times 14 c) (times 14 d)) (sum4 (times 11 (times 2 b)) (times 11 (times 3 c)) (times 11 d) (times 11 a)) t (times 9 (mixed d a b c)))
    (times_sum4 13 (times 2 c) (times 3 d) a b (times_byte 2 c lc) (times_byte 3 d ld) la lb)
    ∙ ap (λ t. sum4 (sum4 (times 14 (times 2 a)) (times 14 (times 3 b)) (times 14 c) (times 14 d)) (sum4 (times 11 (times 2 b)) (times 11 (times 3 c)) (times 11 d) (times 11 a)) (sum4 (times 13 (times 2 c)) (times 13 (times 3 d)) (times 13 a) (times 13 b)) t)
    (times_sum4 9 (times 2 d) (times 3 a) b c (times_byte 2 d ld) (times_byte 3 a la) lb lc)
    ∙ regrouped
    (times 14 (times 2 a)) (times 14 (times 3 b)) (times 14 c) (times 14 d)
    (times 11 (times 2 b)) (times 11 (times 3 c)) (times 11 d) (times 11 a)
    (times 13 (times 2 c)) (times 13 (times 3 d)) (times 13 a) (times 13 b)
    (times 9 (times 2 d)) (times 9 (times 3 a)) (times 9 b) (times 9 c)
    ∙ only_first a
    (sum4 (times 14 (times 2 a)) (times 11 a) (times 13 a) (times 9 (times 3 a)))
    (sum4 (times 14 (times 3 b)) (times 11 (times 2 b)) (times 13 b) (times 9 b))
    (sum4 (times 14 c) (times 11 (times 3 c)) (times 13 (times 2 c)) (times 9 c))
    (sum4 (times 14 d) (times 11 d) (times 13 (times 3 d)) (times 9 (times 2 d)))
    (same_at (λ n. sum4 (times 14 (times 2 n)) (times 11 n) (times 13 n) (times 9 (times 3 n))) (λ n. n) 256 a first_1 la)
    (same_at (λ n. sum4 (times 14 (times 3 n)) (times 11 (times 2 n)) (times 13 n) (times 9 n)) (λ _. 0) 256 b second_1 lb)
    (same_at (λ n. sum4 (times 14 n) (times 11 (times 3 n)) (times 13 (times 2 n)) (times 9 n)) (λ _. 0) 256 c third_1 lc)
    (same_at (λ n. sum4 (times 14 n) (times 11 n) (times 13 (times 3 n)) (times 9 (times 2 n))) (λ _. 0) 256 d fourth_1 ld)

first_2 : agree_below (λ a. sum4 (times 2 (times 14 a)) (times 3 (times 9 a)) (times 13 a) (times 11 a) == a) (λ _. true) 256 ≡ true
unfolding times times_bits x_times
first_2 = refl

second_2 : agree_below (λ b. sum4 (times 2 (times 11 b)) (times 3 (times 14 b)) (times 9 b) (times 13 b) == 0) (λ _. true) 256 ≡ true
unfolding times times_bits x_times
second_2 = refl

third_2 : agree_below (λ c. sum4 (times 2 (times 13 c)) (times 3 (times 11 c)) (times 14 c) (times 9 c) == 0) (λ _. true) 256 ≡ true
unfolding times times_bits x_times
third_2 = refl

fourth_2 : agree_below (λ d. sum4 (times 2 (times 9 d)) (times 3 (times 13 d)) (times 11 d) (times 14 d) == 0) (λ _. true) 256 ≡ true
unfolding times times_bits x_times
fourth_2 = refl

pub unmixed_undone : (a b c d : ℕ) → a < 256 → b < 256 → c < 256 → d < 256 → mixed (unmixed a b c d) (unmixed b c d a) (unmixed c d a b) (unmixed d a b c) ≡ a
unfolding mixed unmixed
unmixed_undone a b c d la lb lc ld =
    ap (λ t. sum4 t (times 3 (unmixed b c d a)) (unmixed c d a b) (unmixed d a b c))
    (times_sum4 2 (times 14 a) (times 11 b) (times 13 c) (times 9 d) (times_byte 14 a la) (times_byte 11 b lb) (times_byte 13 c lc) (times_byte 9 d ld))
    ∙ ap (λ t. sum4 (sum4 (times 2 (times 14 a)) (times 2 (times 11 b)) (times 2 (times 13 c)) (times 2 (times 9 d))) t (unmixed c d a b) (unmixed d a b c))
    (times_sum4 3 (times 14 b) (times 11 c) (times 13 d) (times 9 a) (times_byte 14 b lb) (times_byte 11 c lc) (times_byte 13 d ld) (times_byte 9 a la))
    ∙ regrouped
    (times 2 (times 14 a)) (times 2 (times 11 b)) (times 2 (times 13 c)) (times 2 (times 9 d))
    (times 3 (times 14 b)) (times 3 (times 11 c)) (times 3 (times 13 d)) (times 3 (times 9 a))
    (times 14 c) (times 11 d) (times 13 a) (times 9 b)
    (times 14 d) (times 11 a) (times 13 b) (times 9 c)
    ∙ only_first a
    (sum4 (times 2 (times 14 a)) (times 3 (times 9 a)) (times 13 a) (times 11 a))
    (sum4 (times 2 (times 11 b)) (times 3 (times 14 b)) (times 9 b) (times 13 b))
    (sum4 (times 2 (times 13 c)) (times 3 (times 11 c)) (times 14 c) (times 9 c))
    (sum4 (times 2 (times 9 d)) (times 3 (times 13 d)) (times 11 d) (times 14 d))
    (same_at (λ n. sum4 (times 2 (times 14 n)) (times 3 (times 9 n)) (times 13 n) (times 11 n)) (λ n. n) 256 a first_2 la)
    (same_at (λ n. sum4 (times 2 (times 11 n)) (times 3 (times 14 n)) (times 9 n) (times 13 n)) (λ _. 0) 256 b second_2 lb)
    (same_at (λ n. sum4 (times 2 (times 13 n)) (times 3 (times 11 n)) (times 14 n) (times 9 n)) (λ _. 0) 256 c third_2 lc)
    (same_at (λ n. sum4 (times 2 (times 9 n)) (times 3 (times 13 n)) (times 11 n) (times 14 n)) (λ _. 0) 256 d fourth_2 ld)

pub mixed_byte : (a b c d : ℕ) → a < 256 → b < 256 → c < 256 → d < 256 → mixed a b c d < 256
unfolding mixed
mixed_byte a b c d la lb lc ld = sum4_byte (times 2 a) (times 3 b) c d (times_byte 2 a la) (times_byte 3 b lb) lc ld

pub unmixed_byte : (a b c d : ℕ) → a < 256 → b < 256 → c < 256 → d < 256 → unmixed a b c d < 256
unfolding unmixed
unmixed_byte a b c d la lb lc ld = sum4_byte (times 14 a) (times 11 b) (times 13 c) (times 9 d) (times_byte 14 a la) (times_byte 11 b lb) (times_byte 13 c lc) (times_byte 9 d ld)

-- ---- the S-box

sub_bytes_stay : agree_below (λ k. nat_lt (sub_byte k) 256) (λ _. true) 256 ≡ true
unfolding sub_byte affine inverse inverse_up_to times times_bits x_times
sub_bytes_stay = refl

pub sub_byte_byte : (b : ℕ) → b < 256 → sub_byte b < 256
sub_byte_byte b below = ltb-true (sub_byte b) 256 (agree_below_at (λ k. nat_lt (sub_byte k) 256) (λ _. true) 256 b sub_bytes_stay below)

inv_sub_bytes_stay : agree_below (λ k. nat_lt (inv_sub_byte k) 256) (λ _. true) 256 ≡ true
unfolding inv_sub_byte affine_back inverse inverse_up_to times times_bits x_times
inv_sub_bytes_stay = refl

pub inv_sub_byte_byte : (b : ℕ) → b < 256 → inv_sub_byte b < 256
inv_sub_byte_byte b below = ltb-true (inv_sub_byte b) 256 (agree_below_at (λ k. nat_lt (inv_sub_byte k) 256) (λ _. true) 256 b inv_sub_bytes_stay below)

there_and_back : agree_below (λ k. inv_sub_byte (sub_byte k) == k) (λ _. true) 256 ≡ true
unfolding sub_byte affine inv_sub_byte affine_back inverse inverse_up_to times times_bits x_times
there_and_back = refl

pub sub_byte_undone : (b : ℕ) → b < 256 → inv_sub_byte (sub_byte b) ≡ b
sub_byte_undone b below = same_at (λ k. inv_sub_byte (sub_byte k)) (λ k. k) 256 b there_and_back below

back_and_there : agree_below (λ k. sub_byte (inv_sub_byte k) == k) (λ _. true) 256 ≡ true
unfolding sub_byte affine inv_sub_byte affine_back inverse inverse_up_to times times_bits x_times
back_and_there = refl

pub inv_sub_byte_undone : (b : ℕ) → b < 256 → sub_byte (inv_sub_byte b) ≡ b
inv_sub_byte_undone b below = same_at (λ k. sub_byte (inv_sub_byte k)) (λ k. k) 256 b back_and_there below

-- a sum with the same byte twice
pub add_undone : (a k : ℕ) → bit_xor (bit_xor a k) k ≡ a
add_undone a k = xor_assoc a k k ∙ ap (λ y. bit_xor a y) (xor_self k) ∙ xor_zero_r a
