-- Members of lists, and what a search finds among them.
use Rattle.std.proofs.Common.{◌≡◌, ◌<◌, ◌⊎◌, ◌==◌, ℕ, zero, suc, Bool, true, false, ◌||◌, cond, List, [], ◌∷◌, length, slice_get, find, count_by, All, Some, None, refl, ap, inl, inr, arith}
use Rattle.std.specs.List.{list_all, list_any}
use Rattle.std.proofs.lemmas.List.Elements.{All-head, All-tail}
use Rattle.std.proofs.lemmas.List.Sums.{sum_by-append}
use Rattle.std.proofs.lemmas.Bool.{cases_Bool, eqb-true, eq-eqb, and_parts, and_from}

abbrev pub In : {A : Type 0} → A → List A → Type 0
In x [] = ⊥
In x (y ∷ ys) = (y ≡ x) ⊎ In x ys

module _ {A : Type 0} where
  pub at_member : (P : A → Type 0) (x : A) (xs : List A) → All P xs → In x xs → P x
  at_member P x [] h i = absurd i
  at_member P x (y ∷ ys) h (inl e) = rw (← e) (All-head P y ys h)
  at_member P x (y ∷ ys) h (inr i) = at_member P x ys (All-tail P y ys h) i

  pub found_in : (p : A → Bool) (xs : List A) (x : A) → find p xs ≡ Some x → In x xs × (p x ≡ true)
  found_in p [] x h = absurd cc
  found_in p (y ∷ ys) x h = elim (cases_Bool (p y)) [
    | inl e ↦ (let s : Some y ≡ Some x = rw e at h in let t : y ≡ x = cc in (inl t, rw (← t) e))
    | inr e ↦ (let rest = found_in p ys x (rw e at h) in (inr rest.0, rest.1))
  ]

  -- the only one that passes is found
  pub only_found : (p : A → Bool) (xs : List A) (x : A) → In x xs → p x ≡ true → ((y : A) → In y xs → p y ≡ true → y ≡ x) → find p xs ≡ Some x
  only_found p [] x i e only = absurd i
  only_found p (y ∷ ys) x i e only = elim (cases_Bool (p y)) [
    | inl t ↦ rw t (ap Some (only y (inl refl) t))
    | inr f ↦ rw f (only_found p ys x (behind y i f) e (λ z j. only z (inr j)))
  ] where
    behind : (y : A) → In x (y ∷ ys) → p y ≡ false → In x ys
    behind y (inl s) f = absurd (let t : p y ≡ true = rw s e in cc)
    behind y (inr j) f = j

  pub none_found : (p : A → Bool) (xs : List A) → ((x : A) → In x xs → ⊥) → find p xs ≡ None
  none_found p [] h = refl
  none_found p (x ∷ xs) h = absurd (h x (inl refl))

  pub all_pass : (p : A → Bool) (xs : List A) → ((x : A) → In x xs → p x ≡ true) → list_all p xs ≡ true
  all_pass p [] h = refl
  all_pass p (x ∷ xs) h = and_from (p x) (list_all p xs) (h x (inl refl)) (all_pass p xs (λ y i. h y (inr i)))

  pub each_passes : (p : A → Bool) (xs : List A) (x : A) → list_all p xs ≡ true → In x xs → p x ≡ true
  each_passes p [] x h i = absurd i
  each_passes p (y ∷ ys) x h (inl e) = rw (← e) (and_parts (p y) (list_all p ys) h).0
  each_passes p (y ∷ ys) x h (inr i) = each_passes p ys x (and_parts (p y) (list_all p ys) h).1 i

  pub some_passes : (p : A → Bool) (xs : List A) (x : A) → In x xs → p x ≡ true → list_any p xs ≡ true
  some_passes p [] x i e = absurd i
  some_passes p (y ∷ ys) x (inl s) e = rw (s, e) refl
  some_passes p (y ∷ ys) x (inr i) e = rw (some_passes p ys x i e) (or_true (p y)) where
    or_true : (b : Bool) → (b || true) ≡ true
    or_true true = refl
    or_true false = refl

-- a number that is counted stands at a place, and one that stands at a place is counted
pub at_place : (u : ℕ) (xs : List ℕ) → 0 < count_by (λ w. w == u) xs → (k : ℕ) × (k < length xs) × (slice_get xs k ≡ Some u)
at_place u [] h = absurd (omega arith)
at_place u (x ∷ xs) h = elim (cases_Bool (x == u)) [
  | inl e ↦ (zero, (omega arith), ap Some (eqb-true x u e))
  | inr e ↦ (let count = sum_by-append (λ w. cond (w == u) 1 0) (x ∷ []) xs in
      let less : 0 < count_by (λ w. w == u) xs = (let n = rw e at count in omega arith) in
      let rest = at_place u xs less in (suc rest.0, omega (arith, rest.1), rest.2))
]

pub is_counted : (u : ℕ) (xs : List ℕ) (k : ℕ) → slice_get xs k ≡ Some u → 0 < count_by (λ w. w == u) xs
is_counted u [] k h = absurd cc
is_counted u (x ∷ xs) zero h =
    let count = sum_by-append (λ w. cond (w == u) 1 0) (x ∷ []) xs in
    let here : (x == u) ≡ true = eq-eqb x u cc in
    let n = rw here at count in omega arith
is_counted u (x ∷ xs) (suc k) h =
    let count = sum_by-append (λ w. cond (w == u) 1 0) (x ∷ []) xs in
    omega (arith, count, is_counted u xs k h)
