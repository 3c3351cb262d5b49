-- Rows in the order of their numbers, told one behind the other.
use Rattle.std.proofs.Common.{◌≡◌, ℕ, ◌<◌, ◌≤◌, ◌==◌, List, [], ◌∷◌, ◌++◌, Option, Some, None, refl, sym, ◌∙◌, subst, arith, append_assoc}
use Rattle.std.specs.Prelude.{find, nat_lt, ⊤}
use Rattle.std.specs.List.{AllByRecursion}
use Rattle.std.specs.Option.{option_map}
use Rattle.std.proofs.lemmas.Bool.{lt-ltb, le-ltb, ne_eqb, eq-eqb}
use Rattle.std.proofs.lemmas.Option.{none-some, same_Some}
use Rattle.grants.proofs.Finding.{all_more, all_push}

-- the first of some rows
abbrev pub first : {X : Type 0} → List X → Option X
first [] = None
first (x ∷ xs) = Some x

module _ {X : Type 0} (number : X → ℕ) where
  -- the numbers rise
  abbrev pub Rise : List X → Type 0
  Rise [] = ⊤
  Rise (x ∷ xs) = AllByRecursion (λ later. number x < number later) xs × Rise xs

  -- of the rows those up to a number were told, and the others are left
  pub record IsAt (all : List X) (past : ℕ) (before left : List X) : Type 0 where
    pub is : all ≡ before ++ left
    pub told : AllByRecursion (λ x. number x ≤ past) before
    pub ahead : AllByRecursion (λ x. past < number x) left

  -- the next one is the first of those left
  next_of : (past : ℕ) (before left : List X) → AllByRecursion (λ x. number x ≤ past) before → AllByRecursion (λ x. past < number x) left
      → find (λ x. nat_lt past (number x)) (before ++ left) ≡ first left
  next_of past [] [] told ahead = refl
  next_of past [] (x ∷ left) told ahead = rw (lt-ltb past (number x) ahead.0) refl
  next_of past (x ∷ before) left told ahead = rw (le-ltb past (number x) told.0) (next_of past before left told.1 ahead)

  pub next_is : (all : List X) (past : ℕ) (before left : List X) → IsAt all past before left → find (λ x. nat_lt past (number x)) all ≡ first left
  next_is all past before left at = subst (λ xs. find (λ x. nat_lt past (number x)) xs ≡ first left) (sym at.is) (next_of past before left at.told at.ahead)

  -- none was told yet
  pub at_start : (all : List X) → AllByRecursion (λ x. 0 < number x) all → IsAt all 0 [] all
  at_start all some = record { is = refl; told = tt; ahead = some }

  later_rise : (before : List X) (x : X) (left : List X) → Rise (before ++ x ∷ left) → AllByRecursion (λ later. number x < number later) left
  later_rise [] x left rise = rise.0
  later_rise (y ∷ before) x left rise = later_rise before x left rise.1

  -- one more is told
  pub at_next : (all : List X) (past : ℕ) (before : List X) (x : X) (left : List X) → Rise all → IsAt all past before (x ∷ left) → IsAt all (number x) (before ++ x ∷ []) left
  at_next all past before x left rise at = record {
    is = at.is ∙ sym (append_assoc before (x ∷ []) left);
    told = all_push (λ y. number y ≤ number x) before x (all_more (λ y. number y ≤ past) (λ y. number y ≤ number x) (λ y le. omega (arith, le, at.ahead.0)) before at.told) (omega arith);
    ahead = later_rise before x left (subst Rise at.is rise);
  }

  -- and its number finds it
  finds : (past : ℕ) (before : List X) (x : X) (left : List X) → AllByRecursion (λ y. number y ≤ past) before → past < number x
      → find (λ y. number y == number x) (before ++ x ∷ left) ≡ Some x
  finds past [] x left told behind = rw (eq-eqb (number x) (number x) refl) refl
  finds past (y ∷ before) x left told behind = rw (ne_eqb (number y) (number x) (λ e. absurd (omega (arith, e, told.0, behind)))) (finds past before x left told.1 behind)

  pub found_by : (all : List X) (past : ℕ) (before : List X) (x : X) (left : List X) → IsAt all past before (x ∷ left) → find (λ y. number y == number x) all ≡ Some x
  found_by all past before x left at = subst (λ xs. find (λ y. number y == number x) xs ≡ Some x) (sym at.is) (finds past before x left at.told at.ahead.0)

-- the first of rows, of which something was told
pub record IsFirst {X Y : Type 0} (f : X → Y) (xs : List X) (y : Y) : Type 0 where
  pub x : X
  pub rest : List X
  pub is : xs ≡ x ∷ rest
  pub told : f x ≡ y

pub first_told : {X Y : Type 0} (f : X → Y) (xs : List X) (y : Y) → option_map f (first xs) ≡ Some y → IsFirst f xs y
first_told f [] y e = absurd (none-some y e)
first_told f (x ∷ rest) y e = record { x = x; rest = rest; is = refl; told = same_Some (f x) y e }

pub none_left : {X Y : Type 0} (f : X → Y) (xs : List X) → option_map f (first xs) ≡ None → xs ≡ []
none_left f [] e = refl
none_left f (x ∷ rest) e = absurd (none-some (f x) (sym e))
