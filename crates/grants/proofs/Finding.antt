-- What a search of a list finds.
use Rattle.std.proofs.Common.{◌≡◌, Bool, true, false, cond, List, [], ◌∷◌, ◌++◌, Option, Some, None, refl, sym, ap, subst, inl, inr}
use Rattle.std.specs.Prelude.{find}
use Rattle.std.specs.List.{AllByRecursion, filter}
use Rattle.std.proofs.lemmas.Bool.{cases_Bool}
use Rattle.std.proofs.lemmas.Option.{none-some, same_Some}

pub all_more : {X : Type 0} (P Q : X → Type 0) → ((x : X) → P x → Q x) → (xs : List X) → AllByRecursion P xs → AllByRecursion Q xs
all_more P Q h [] a = tt
all_more P Q h (x ∷ xs) a = (h x a.0, all_more P Q h xs a.1)

pub all_front : {X : Type 0} (P : X → Type 0) (xs ys : List X) → AllByRecursion P (xs ++ ys) → AllByRecursion P xs
all_front P [] ys a = tt
all_front P (x ∷ xs) ys a = (a.0, all_front P xs ys a.1)

pub all_last : {X : Type 0} (P : X → Type 0) (xs : List X) (y : X) → AllByRecursion P (xs ++ y ∷ []) → P y
all_last P [] y a = a.0
all_last P (x ∷ xs) y a = all_last P xs y a.1

pub all_push : {X : Type 0} (P : X → Type 0) (xs : List X) (y : X) → AllByRecursion P xs → P y → AllByRecursion P (xs ++ y ∷ [])
all_push P [] y a h = (h, tt)
all_push P (x ∷ xs) y a h = (a.0, all_push P xs y a.1 h)

pub all_filter : {X : Type 0} (P : X → Type 0) (p : X → Bool) (xs : List X) → AllByRecursion P xs → AllByRecursion P (filter p xs)
all_filter P p [] a = tt
all_filter P p (x ∷ xs) a =
    elim (p x) as (λ b. AllByRecursion P (cond b (x ∷ filter p xs) (filter p xs))) [ true ↦ (a.0, all_filter P p xs a.1) | false ↦ all_filter P p xs a.1 ]

pub find_none : {X : Type 0} (p : X → Bool) (xs : List X) → AllByRecursion (λ x. p x ≡ false) xs → find p xs ≡ None
find_none p [] a = refl
find_none p (x ∷ xs) a = rw a.0 (find_none p xs a.1)

pub all_from_none : {X : Type 0} (p : X → Bool) (xs : List X) → find p xs ≡ None → AllByRecursion (λ x. p x ≡ false) xs
all_from_none p [] e = tt
all_from_none {X} p (x ∷ xs) e =
    (elim (p x) as (λ b. ◌≡◌ {A = Option X} (cond b (Some x) (find p xs)) None → (b ≡ false) × AllByRecursion (λ y. p y ≡ false) xs) [
      | true ↦ λ some. absurd (none-some x (sym some))
      | false ↦ λ none. (refl, all_from_none p xs none)
    ]) e

pub keeps_all : {X : Type 0} (p : X → Bool) (xs : List X) → AllByRecursion (λ x. p x ≡ true) xs → filter p xs ≡ xs
keeps_all p [] a = refl
keeps_all p (x ∷ xs) a = rw a.0 (ap (λ ys. x ∷ ys) (keeps_all p xs a.1))

-- what is found passes the test
pub found_passes : {X : Type 0} (p : X → Bool) (xs : List X) (y : X) → find p xs ≡ Some y → p y ≡ true
found_passes p [] y e = absurd (none-some y e)
found_passes {X} p (x ∷ xs) y e =
    elim (cases_Bool (p x)) [
      | inl passes ↦ let same : x ≡ y = same_Some x y (rw passes at e) in subst (λ z. p z ≡ true) same passes
      | inr fails ↦ found_passes p xs y (rw fails at e)
    ]

-- and has what each has
pub found_has : {X : Type 0} (P : X → Type 0) (p : X → Bool) (xs : List X) (y : X) → AllByRecursion P xs → find p xs ≡ Some y → P y
found_has P p [] y a e = absurd (none-some y e)
found_has {X} P p (x ∷ xs) y a e =
    elim (cases_Bool (p x)) [
      | inl passes ↦ let same : x ≡ y = same_Some x y (rw passes at e) in subst P same a.0
      | inr fails ↦ found_has P p xs y a.1 (rw fails at e)
    ]
