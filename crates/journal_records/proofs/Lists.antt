-- What holds of each item of a list.
use Rattle.std.proofs.Common.{◌≡◌, ◌+◌, ◌≤◌, Bool, true, false, List, [], ◌∷◌, ◌++◌, length, refl, sym, subst, arith, inl, inr, length-append}
use Rattle.std.specs.Prelude.{map, reverse}
use Rattle.std.specs.List.{AllByRecursion, filter, list_all, list_any}
use Rattle.std.proofs.lemmas.Bool.{cases_Bool, and_from, and_parts, or_from, or_parts}
use Rattle.std.proofs.lemmas.List.{reverse-append}
use Rattle.grants.proofs.Finding.{all_push}

-- those that pass a test, by what they are and that they do
pub all_passing : {X : Type 0} (P Q : X → Type 0) (p : X → Bool) → ((x : X) → P x → p x ≡ true → Q x) → (xs : List X) → AllByRecursion P xs → AllByRecursion Q (filter p xs)
all_passing P Q p h [] a = tt
all_passing P Q p h (x ∷ xs) a = elim (cases_Bool (p x)) [
  | inl passes ↦ rw passes (h x a.0 passes, all_passing P Q p h xs a.1)
  | inr fails ↦ rw fails (all_passing P Q p h xs a.1)
]

pub all_map : {X Y : Type 0} (P : X → Type 0) (Q : Y → Type 0) (f : X → Y) → ((x : X) → P x → Q (f x)) → (xs : List X) → AllByRecursion P xs → AllByRecursion Q (map f xs)
all_map P Q f h [] a = tt
all_map P Q f h (x ∷ xs) a = (h x a.0, all_map P Q f h xs a.1)

pub all_append : {X : Type 0} (P : X → Type 0) (xs ys : List X) → AllByRecursion P xs → AllByRecursion P ys → AllByRecursion P (xs ++ ys)
all_append P [] ys a b = b
all_append P (x ∷ xs) ys a b = (a.0, all_append P xs ys a.1 b)

-- what was first is last
pub last_is : {X : Type 0} (x : X) (xs : List X) → reverse (x ∷ xs) ≡ reverse xs ++ x ∷ []
last_is x xs = reverse-append (x ∷ []) xs

pub all_reverse : {X : Type 0} (P : X → Type 0) (xs : List X) → AllByRecursion P xs → AllByRecursion P (reverse xs)
all_reverse P [] a = tt
all_reverse P (x ∷ xs) a = subst (AllByRecursion P) (sym (last_is x xs)) (all_push P (reverse xs) x (all_reverse P xs a.1) a.0)

-- the item between two lists
pub all_mid : {X : Type 0} (P : X → Type 0) (xs : List X) (y : X) (ys : List X) → AllByRecursion P (xs ++ y ∷ ys) → P y
all_mid P [] y ys a = a.0
all_mid P (x ∷ xs) y ys a = all_mid P xs y ys a.1

pub both_all : {X : Type 0} (P Q : X → Type 0) (xs : List X) → AllByRecursion P xs → AllByRecursion Q xs → AllByRecursion (λ x. P x × Q x) xs
both_all P Q [] a b = tt
both_all P Q (x ∷ xs) a b = ((a.0, b.0), both_all P Q xs a.1 b.1)

-- by the tests of lists
pub all_from_test : {X : Type 0} (p : X → Bool) (xs : List X) → list_all p xs ≡ true → AllByRecursion (λ x. p x ≡ true) xs
all_from_test p [] e = tt
all_from_test p (x ∷ xs) e = let both = and_parts (p x) (list_all p xs) e in (both.0, all_from_test p xs both.1)

pub test_from_all : {X : Type 0} (p : X → Bool) (xs : List X) → AllByRecursion (λ x. p x ≡ true) xs → list_all p xs ≡ true
test_from_all p [] a = refl
test_from_all p (x ∷ xs) a = and_from (p x) (list_all p xs) a.0 (test_from_all p xs a.1)

pub none_from_test : {X : Type 0} (p : X → Bool) (xs : List X) → list_any p xs ≡ false → AllByRecursion (λ x. p x ≡ false) xs
none_from_test p [] e = tt
none_from_test p (x ∷ xs) e = let both = or_parts (p x) (list_any p xs) e in (both.0, none_from_test p xs both.1)

pub test_from_none : {X : Type 0} (p : X → Bool) (xs : List X) → AllByRecursion (λ x. p x ≡ false) xs → list_any p xs ≡ false
test_from_none p [] a = refl
test_from_none p (x ∷ xs) a = or_from (p x) (list_any p xs) a.0 (test_from_none p xs a.1)

-- no more pass a test than there are
pub fewer_pass : {X : Type 0} (p : X → Bool) (xs : List X) → length (filter p xs) ≤ length xs
fewer_pass p [] = omega arith
fewer_pass p (x ∷ xs) = elim (cases_Bool (p x)) [
  | inl passes ↦ rw passes (omega (arith, fewer_pass p xs))
  | inr fails ↦ rw fails (omega (arith, fewer_pass p xs))
]

pub as_many : {X Y : Type 0} (f : X → Y) (xs : List X) → length (map f xs) ≡ length xs
as_many f [] = refl
as_many f (x ∷ xs) = omega (arith, as_many f xs)

pub one_longer : {X : Type 0} (xs : List X) (x : X) → length (xs ++ x ∷ []) ≡ length xs + 1
one_longer xs x = length-append xs (x ∷ [])
