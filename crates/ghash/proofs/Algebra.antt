-- The product is linear in each factor, and x^k times an element is the element shifted k times.
use Rattle.std.proofs.Common.{◌≡◌, ℕ, zero, suc, ◌+◌, ◌-◌, ◌/◌, ◌%◌, ◌^◌, ◌<◌, ◌≤◌, ◌==◌, Bool, true, false, refl, sym, ap, ◌∙◌, arith, add-zero, if◌then◌else◌}
use Rattle.std.proofs.lemmas.Nat.{xor_comm, xor_shr, xor_mod}
use Rattle.std.proofs.lemmas.Nat.Bits.{bit_at_xor, bit_at-pow_same, bit_at-pow_other}
use Rattle.std.specs.Int.Bits.{xor_assoc, xor_self, xor_zero_l, xor_zero_r}
use Rattle.std.specs.Int.RustNames.{bit_xor}
use Rattle.ghash.specs.Field.{reduction, bit_of, times_x, shifted, sum_of, product}

-- two sums, term by term
pub interchange : (a b c d : ℕ) → bit_xor (bit_xor a b) (bit_xor c d) ≡ bit_xor (bit_xor a c) (bit_xor b d)
interchange a b c d =
    xor_assoc a b (bit_xor c d) ∙ ap (λ (t : ℕ). bit_xor a t) (sym (xor_assoc b c d) ∙ ap (λ (t : ℕ). bit_xor t d) (xor_comm b c) ∙ xor_assoc c b d)
    ∙ sym (xor_assoc a c (bit_xor b d))

-- what a bit that is shifted out adds
abbrev pub carry : ℕ → ℕ
carry r = if r == 0 then 0 else reduction

times_x_by : (v r : ℕ) → r < 2 → (if r == 0 then v / 2 else bit_xor (v / 2) reduction) ≡ bit_xor (v / 2) (carry r)
times_x_by v zero h = sym (xor_zero_r (v / 2))
times_x_by v (suc zero) h = refl
times_x_by v (suc (suc r)) h = absurd (omega arith)

pub times_x_is : (v : ℕ) → times_x v ≡ bit_xor (v / 2) (carry (v % 2))
unfolding times_x
times_x_is v = times_x_by v (v % 2) (omega arith)

carry-xor : (r s : ℕ) → r < 2 → s < 2 → carry (bit_xor r s) ≡ bit_xor (carry r) (carry s)
carry-xor zero zero h k = refl
carry-xor zero (suc zero) h k = refl
carry-xor (suc zero) zero h k = refl
carry-xor (suc zero) (suc zero) h k = refl
carry-xor (suc (suc r)) s h k = absurd (omega arith)
carry-xor zero (suc (suc s)) h k = absurd (omega arith)
carry-xor (suc zero) (suc (suc s)) h k = absurd (omega arith)

pub times_x-xor : (a b : ℕ) → times_x (bit_xor a b) ≡ bit_xor (times_x a) (times_x b)
times_x-xor a b =
    let half : bit_xor a b / 2 ≡ bit_xor (a / 2) (b / 2) = xor_shr a b 1 in
    let out : carry (bit_xor a b % 2) ≡ bit_xor (carry (a % 2)) (carry (b % 2)) =
    ap (λ (r : ℕ). carry r) (xor_mod a b 1) ∙ carry-xor (a % 2) (b % 2) (omega arith) (omega arith) in
    times_x_is (bit_xor a b) ∙ rw (half, out, times_x_is a, times_x_is b) (interchange (a / 2) (b / 2) (carry (a % 2)) (carry (b % 2)))

pub shifted-xor : (a b i : ℕ) → shifted (bit_xor a b) i ≡ bit_xor (shifted a i) (shifted b i)
unfolding shifted
shifted-xor a b zero = refl
shifted-xor a b (suc i) = rw (shifted-xor a b i) (times_x-xor (shifted a i) (shifted b i))

pub shifted-add : (y i j : ℕ) → shifted y (i + j) ≡ shifted (shifted y i) j
unfolding shifted
shifted-add y i zero = ap (λ (n : ℕ). shifted y n) (add-zero i)
shifted-add y i (suc j) =
    let next : i + suc j ≡ suc (i + j) = omega arith in
    ap (λ (n : ℕ). shifted y n) next ∙ ap (λ (v : ℕ). times_x v) (shifted-add y i j)

-- a term that is taken or not, in two sums
both : (c : Bool) (p q v w : ℕ) → (if c then bit_xor (bit_xor p q) (bit_xor v w) else bit_xor p q)
    ≡ bit_xor (if c then bit_xor p v else p) (if c then bit_xor q w else q)
both true p q v w = interchange p q v w
both false p q v w = refl

sum_right : (x a b n : ℕ) → sum_of x (bit_xor a b) n ≡ bit_xor (sum_of x a n) (sum_of x b n)
unfolding sum_of
sum_right x a b zero = sym (xor_self 0)
sum_right x a b (suc n) = rw (sum_right x a b n, shifted-xor a b n) (both (bit_of x n == 1) (sum_of x a n) (sum_of x b n) (shifted a n) (shifted b n))

-- a term that is taken by the bits of two factors
either : (r s p q v : ℕ) → r < 2 → s < 2 → (if (r + s) % 2 == 1 then bit_xor (bit_xor p q) v else bit_xor p q)
    ≡ bit_xor (if r == 1 then bit_xor p v else p) (if s == 1 then bit_xor q v else q)
either zero zero p q v h k = refl
either (suc zero) zero p q v h k = xor_assoc p q v ∙ ap (λ (t : ℕ). bit_xor p t) (xor_comm q v) ∙ sym (xor_assoc p v q)
either zero (suc zero) p q v h k = xor_assoc p q v
either (suc zero) (suc zero) p q v h k =
    sym (interchange p v q v ∙ ap (λ (t : ℕ). bit_xor (bit_xor p q) t) (xor_self v) ∙ xor_zero_r (bit_xor p q))
either (suc (suc r)) s p q v h k = absurd (omega arith)
either zero (suc (suc s)) p q v h k = absurd (omega arith)
either (suc zero) (suc (suc s)) p q v h k = absurd (omega arith)

sum_left : (a b y n : ℕ) → sum_of (bit_xor a b) y n ≡ bit_xor (sum_of a y n) (sum_of b y n)
unfolding sum_of
sum_left a b y zero = sym (xor_self 0)
sum_left a b y (suc n) =
    let bit : bit_of (bit_xor a b) n ≡ (bit_of a n + bit_of b n) % 2 = bit_at_xor a b (127 - n) in
    rw (bit, sum_left a b y n) (either (bit_of a n) (bit_of b n) (sum_of a y n) (sum_of b y n) (shifted y n) (omega arith) (omega arith))

pub product_right : (x a b : ℕ) → product x (bit_xor a b) ≡ bit_xor (product x a) (product x b)
product_right x a b = sum_right x a b 128

pub product_left : (a b y : ℕ) → product (bit_xor a b) y ≡ bit_xor (product a y) (product b y)
product_left a b y = sum_left a b y 128

-- the sum over the bits of x^k, before bit k and behind it
power_before : (k y n : ℕ) → k < 128 → n ≤ k → sum_of (2 ^ (127 - k)) y n ≡ 0
unfolding sum_of
power_before k y zero h m = refl
power_before k y (suc n) h m =
    let none : bit_of (2 ^ (127 - k)) n ≡ 0 = bit_at-pow_other (127 - k) (127 - n) (λ same. omega arith) in
    rw (none, power_before k y n h (omega arith)) refl

power_behind : (k y j : ℕ) → k + j < 128 → sum_of (2 ^ (127 - k)) y (k + suc j) ≡ shifted y k
unfolding sum_of
power_behind k y zero h =
    let next : k + 1 ≡ suc k = omega arith in
    let one : bit_of (2 ^ (127 - k)) k ≡ 1 = bit_at-pow_same (127 - k) in
    rw (next, one, power_before k y k (omega arith) (omega arith)) (xor_zero_l (shifted y k))
power_behind k y (suc j) h =
    let next : k + suc (suc j) ≡ suc (k + suc j) = omega arith in
    let none : bit_of (2 ^ (127 - k)) (k + suc j) ≡ 0 = bit_at-pow_other (127 - k) (127 - (k + suc j)) (λ same. omega arith) in
    rw (next, none) (power_behind k y j (omega arith))

pub product_power : (k y : ℕ) → k < 128 → product (2 ^ (127 - k)) y ≡ shifted y k
product_power k y h =
    let all : k + suc (127 - k) ≡ 128 = omega arith in
    ap (λ (n : ℕ). sum_of (2 ^ (127 - k)) y n) (sym all) ∙ power_behind k y (127 - k) (omega arith)
