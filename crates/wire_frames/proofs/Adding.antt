-- Sizes are added.
use Rattle.std.proofs.Common.{◌≡◌, ℕ, ◌+◌, ◌<◌, ◌≤◌, Bool, true, false, List, ◌++◌, length, length-append, arith, refl, ⊎_elim}
use Rattle.std.specs.Prelude.{min}
use Rattle.std.proofs.lemmas.Bool.{cases_lt}
use Rattle.byte_strings.specs.Fields.{flag}
use Rattle.wire_frames.specs.Sizes.{IsSize}

pub size_one : (k a m l : ℕ) → IsSize a m → l ≡ k + m → IsSize (k + a) l
size_one k a m l s is = record {
  exact = λ le. let e = s.exact (omega (arith, le, is)) in omega (arith, e, is);
  great = λ lt. ⊎_elim
      (λ (few : m < 4294967296). let e = s.exact (omega (arith, few)) in omega (arith, e, lt, is))
      (λ (many : 4294967296 ≤ m). let g = s.great (omega (arith, many)) in omega (arith, g))
      (cases_lt m 4294967296);
}

pub size_two : (k a b m n l : ℕ) → IsSize a m → IsSize b n → l ≡ k + m + n → IsSize (k + a + b) l
size_two k a b m n l s t is = record {
  exact = λ le. let e = s.exact (omega (arith, le, is)) in let f = t.exact (omega (arith, le, is)) in omega (arith, e, f, is);
  great = λ lt. ⊎_elim
      (λ (few : m < 4294967296). let e = s.exact (omega (arith, few)) in ⊎_elim
      (λ (less : n < 4294967296). let f = t.exact (omega (arith, less)) in omega (arith, e, f, lt, is))
      (λ (more : 4294967296 ≤ n). let g = t.great (omega (arith, more)) in omega (arith, g))
      (cases_lt n 4294967296))
      (λ (many : 4294967296 ≤ m). let g = s.great (omega (arith, many)) in omega (arith, g))
      (cases_lt m 4294967296);
}

pub size_sum : (a b m n l : ℕ) → IsSize a m → IsSize b n → l ≡ m + n → IsSize (a + b) l
size_sum a b m n l s t is = let sum = size_two 0 a b m n l s t (omega (arith, is)) in let exact = sum.exact in let great = sum.great in record { exact = λ le. omega (arith, exact le); great = λ lt. omega (arith, great lt) }

pub size_three : (k a b c m n o l : ℕ) → IsSize a m → IsSize b n → IsSize c o → l ≡ k + m + n + o → IsSize (k + a + b + c) l
size_three k a b c m n o l s t u is = size_sum (k + a + b) c (k + m + n) o l (size_two k a b m n (k + m + n) s t (omega arith)) u (omega (arith, is))

pub flag_one : (b : Bool) → length (flag b) ≡ 1
flag_one true = refl
flag_one false = refl

pub size_exact : (a m : ℕ) → a ≡ m → IsSize a m
size_exact a m is = record { exact = λ lt. is; great = λ le. omega (arith, is, le) }

pub size_five : (a b c d e m n o p q l : ℕ) → IsSize a m → IsSize b n → IsSize c o → IsSize d p → IsSize e q → l ≡ m + n + o + p + q → IsSize (a + b + c + d + e) l
size_five a b c d e m n o p q l s t u v w is =
    let two = size_sum a b m n (m + n) s t (omega arith) in
    let three = size_sum (a + b) c (m + n) o (m + n + o) two u (omega arith) in
    let four = size_sum (a + b + c) d (m + n + o) p (m + n + o + p) three v (omega arith) in
    size_sum (a + b + c + d) e (m + n + o + p) q l four w is

pub size_six : (a b c d e f m n o p q r l : ℕ) → IsSize a m → IsSize b n → IsSize c o → IsSize d p → IsSize e q → IsSize f r → l ≡ m + n + o + p + q + r → IsSize (a + b + c + d + e + f) l
size_six a b c d e f m n o p q r l s t u v w x is =
    let five = size_five a b c d e m n o p q (m + n + o + p + q) s t u v w (omega arith) in
    size_sum (a + b + c + d + e) f (m + n + o + p + q) r l five x is

-- a size that is too great may be any other one
pub size_capped : (a m : ℕ) → IsSize a m → IsSize (min a 4294967296) m
size_capped a m s = record {
  exact = λ lt. let e = s.exact lt in omega (arith, e, lt);
  great = λ le. let g = s.great le in omega (arith, g);
}

-- what lies one behind the other
pub lengths_three : (p q r : List ℕ) (a b c : ℕ) → a ≡ length p → b ≡ length q → c ≡ length r → a + b + c ≡ length (p ++ (q ++ r))
lengths_three p q r a b c one two three = omega (arith, one, two, three, length-append p (q ++ r), length-append q r)

pub lengths_four : (p q r s : List ℕ) (a b c d : ℕ) → a ≡ length p → b ≡ length q → c ≡ length r → d ≡ length s → a + b + c + d ≡ length (p ++ (q ++ (r ++ s)))
lengths_four p q r s a b c d one two three four = omega (arith, one, two, three, four, length-append p (q ++ (r ++ s)), length-append q (r ++ s), length-append r s)
