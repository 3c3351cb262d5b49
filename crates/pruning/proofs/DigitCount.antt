-- The count of binary digits: what it is by powers of two, and that it grows with the number.
use Rattle.std.proofs.Common.{◌≡◌, ◌<◌, ◌≤◌, ◌-◌, ◌/◌, ◌^◌, ℕ, zero, suc, refl, inl, inr, arith}
use Rattle.std.proofs.lemmas.Nat.{leading_top}
use Rattle.std.proofs.lemmas.Bool.{cases_lt}
use Rattle.std.proofs.Math.Nat.{pow-suc, pow-le-pow_right}
use Rattle.std.specs.Int.{w64, leading_zeros}
use lib.Count.{count_leading_zeros}
use Rattle.pruning.specs.Victim.{halvings, binary_digits}

-- n is below 2 ^ d, and no lesser power is above it
pub record HasDigits (n d : ℕ) : Type 0 where
  pub above : n < 2 ^ d
  pub below : (j : ℕ) → d ≡ suc j → 2 ^ j ≤ n

-- a number has one count of digits
pub digits_grow : (m n d e : ℕ) → m ≤ n → HasDigits m d → HasDigits n e → d ≤ e
digits_grow m n zero e le hm hn = omega arith
digits_grow m n (suc j) e le hm hn = elim (cases_lt e (suc j)) [
  | inl lt ↦ absurd (omega (arith, pow-le-pow_right {n = 2} (omega arith) {i = e} {j = j} (omega arith), hm.below j refl, hn.above))
  | inr more ↦ more
]

pub same_digits : (n d e : ℕ) → HasDigits n d → HasDigits n e → d ≡ e
same_digits n d e hd he = omega (arith, digits_grow n n d e (omega arith) hd he, digits_grow n n e d (omega arith) he hd)

-- what is below the half's digits is below the number's
half_below : (n d j : ℕ) → HasDigits (suc n / 2) d → d ≡ j → 2 ^ j ≤ suc n
half_below n d zero half e = omega arith
half_below n d (suc i) half e = omega (arith, pow-suc 2 i, half.below i e)

halved : (turns n : ℕ) → n < 2 ^ turns → HasDigits n (halvings turns n)
halved zero n h = record { above = h; below = λ j e. cc }
halved (suc turns) zero h = record { above = omega arith; below = λ j e. cc }
halved (suc turns) (suc n) h =
    let half = halved turns (suc n / 2) (omega (arith, pow-suc 2 turns)) in
    record {
      above = omega (arith, pow-suc 2 (halvings turns (suc n / 2)), half.above);
      below = λ j e. half_below n (halvings turns (suc n / 2)) j half cc;
    }

below_own_power : (n : ℕ) → n < 2 ^ n
below_own_power zero = omega arith
below_own_power (suc n) = omega (arith, pow-suc 2 n, below_own_power n)

pub has_digits : (n : ℕ) → HasDigits n (binary_digits n)
unfolding binary_digits
has_digits n = halved n n (below_own_power n)

-- an older operation's age has no fewer digits
pub digits_of_older : (m n : ℕ) → m ≤ n → binary_digits m ≤ binary_digits n
digits_of_older m n le = digits_grow m n (binary_digits m) (binary_digits n) le (has_digits m) (has_digits n)

-- what is left of 64 without the leading zeros
pub counted_digits : (n : ℕ) → n < 2 ^ 64 → 64 - leading_zeros w64 n ≡ binary_digits n
unfolding binary_digits count_leading_zeros
counted_digits zero h = refl
counted_digits (suc n) h =
    let top = leading_top 64 (suc n) (omega arith) h in
    let counted : HasDigits (suc n) (suc top.0) = record { above = top.3; below = λ j e. (let s : top.0 ≡ j = cc in rw (← s) top.2) } in
    let same = same_digits (suc n) (suc top.0) (binary_digits (suc n)) counted (has_digits (suc n)) in
    omega (arith, top.1, same)
