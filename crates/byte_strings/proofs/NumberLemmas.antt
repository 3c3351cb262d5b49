-- Numbers in digits, up to a cap.
use Rattle.std.proofs.Common.{◌≡◌, ℕ, ◌+◌, ◌-◌, ◌*◌, ◌≤◌, ◌<◌, List, [], ◌∷◌, length, drop, get_or, min, true, Some, None, refl, sym, ap, ◌∙◌, inl, inr, arith}
use Rattle.std.proofs.lemmas.Bool.{cases_lt, le-leb, lt-leb}
use Rattle.std.proofs.lemmas.List.{drop_more}
use Rattle.byte_strings.specs.Numbers.{is_number, number_in, value_on}

-- digits go on to no smaller number
value_grows : (n : ℕ) (digits : List ℕ) → n ≤ value_on n digits
value_grows n [] = omega arith
value_grows n (b ∷ digits) = omega (arith, value_grows (n * 10 + (b - 48)) digits)

-- what is past the cap stays past it
value_capped : (cap n : ℕ) (digits : List ℕ) → min (value_on (min n cap) digits) cap ≡ min (value_on n digits) cap
value_capped cap n digits = elim (cases_lt n cap) [
  | inl less ↦ (let same : min n cap ≡ n = omega (arith, less) in rw same refl)
  | inr more ↦ (let capped : min n cap ≡ cap = omega (arith, more) in rw capped (omega (arith, more, value_grows cap digits, value_grows n digits)))
]

-- a digit is taken in
pub value_step : (cap all : ℕ) (n new : ℕ) (digits : List ℕ) (i : ℕ) → i < length digits → new ≡ min (n * 10 + (get_or digits i 0 - 48)) cap
    → min (value_on n (drop i digits)) cap ≡ all → min (value_on new (drop (i + 1) digits)) cap ≡ all
value_step cap all n new digits i less is before =
    ap (λ m. min (value_on m (drop (i + 1) digits)) cap) is ∙ value_capped cap (n * 10 + (get_or digits i 0 - 48)) (drop (i + 1) digits)
    ∙ ap (λ rest. min (value_on n rest) cap) (sym (drop_more digits i 0 less)) ∙ before

-- what the capped value of a number comes to, within the bounds and out of them
pub some_in : (least most cap v : ℕ) (text : List ℕ) → is_number text ≡ true → cap ≡ most + 1 → v ≡ min (value_on 0 text) cap → least ≤ v → v ≤ most → Some v ≡ number_in least most text
some_in least most cap v text number is value from to =
    let same : v ≡ value_on 0 text = omega (arith, is, value, to) in
    rw (number, ← same, le-leb least v from, le-leb v most to)

pub none_in : (least most cap v : ℕ) (text : List ℕ) → is_number text ≡ true → cap ≡ most + 1 → v ≡ min (value_on 0 text) cap → (least ≤ v → most < v) → None ≡ number_in least most text
none_in least most cap v text number is value out = elim (cases_lt (value_on 0 text) least) [
  | inl less ↦ rw (number, lt-leb least (value_on 0 text) less)
  | inr from ↦ rw (number, le-leb least (value_on 0 text) from, lt-leb (value_on 0 text) most (past from))
] where
  past : least ≤ value_on 0 text → most < value_on 0 text
  past from = elim (cases_lt most (value_on 0 text)) [
    | inl more ↦ more
    | inr few ↦ (let same : v ≡ value_on 0 text = omega (arith, is, value, few) in omega (arith, same, out (omega (arith, same, from))))
  ]
