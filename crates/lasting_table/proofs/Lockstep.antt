-- Two lists in the order of numbers, walked together.
use Rattle.std.proofs.Common.{◌≡◌, ℕ, ◌<◌, ◌≤◌, Bool, true, false, not, List, [], ◌∷◌, ◌++◌, length, Option, Some, None, refl, sym, ap, ◌∙◌, subst, arith, inl, inr}
use Rattle.std.specs.Prelude.{find}
use Rattle.std.specs.List.{AllByRecursion, filter}
use Rattle.std.proofs.lemmas.Bool.{cases_Bool, lt-ltb, le-ltb, ltb-true, not_from_false}
use Rattle.std.proofs.lemmas.Option.{none-some, same_Some}
use Rattle.grants.proofs.Finding.{all_more, keeps_all, all_from_none, found_has}
use Rattle.grants.specs.Rows.{is_behind}

-- what stands behind a number, and behind another, stands behind the first
behind_both : (past : Option ℕ) (n k : ℕ) → is_behind past n ≡ true → n < k → is_behind past k ≡ true
behind_both None n k e lt = refl
behind_both (Some past) n k e lt = lt-ltb past k (omega (arith, ltb-true past n e, lt))

not_behind : (n k : ℕ) → n ≤ k → is_behind (Some k) n ≡ false
not_behind n k le = le-ltb k n le

module _ {X : Type 0} (number : X → ℕ) where
  abbrev test : Option ℕ → X → Bool
  test past x = is_behind past (number x)

  abbrev front : Option ℕ → List X → List X
  front past xs = filter (λ x. not (is_behind past (number x))) xs

  -- the numbers rise
  abbrev pub Rise : List X → Type 0
  Rise [] = Unit {0}
  Rise (x ∷ xs) = AllByRecursion (λ later. number x < number later) xs × Rise xs

  none_in_front : (past : Option ℕ) (xs : List X) → AllByRecursion (λ x. is_behind past (number x) ≡ true) xs → front past xs ≡ []
  none_in_front past [] a = refl
  none_in_front past (x ∷ xs) a = rw a.0 (none_in_front past xs a.1)

  front_here : (past : Option ℕ) (y : X) (xs : List X) → Rise (y ∷ xs) → is_behind past (number y) ≡ true → front (Some (number y)) (y ∷ xs) ≡ front past (y ∷ xs) ++ y ∷ []
  front_here past y xs r here =
      let on : front (Some (number y)) xs ≡ [] = none_in_front (Some (number y)) xs (all_more (λ later. number y < number later) (λ later. is_behind (Some (number y)) (number later) ≡ true) (λ later lt. lt-ltb (number y) (number later) lt) xs r.0) in
      let off : front past xs ≡ [] = none_in_front past xs (all_more (λ later. number y < number later) (λ later. is_behind past (number later) ≡ true) (λ later lt. behind_both past (number y) (number later) here lt) xs r.0) in
      rw (here, not_behind (number y) (number y) (omega arith)) (ap (λ zs. y ∷ zs) on ∙ ap (λ zs. zs ++ y ∷ []) (sym off))

  -- one step further
  pub front_more : (past : Option ℕ) (xs : List X) (x : X) → Rise xs → find (test past) xs ≡ Some x → front (Some (number x)) xs ≡ front past xs ++ x ∷ []
  front_more past [] x r e = absurd (none-some x e)
  front_more past (y ∷ xs) x r e =
      elim (cases_Bool (is_behind past (number y))) [
        | inl here ↦ subst (λ z. front (Some (number z)) (y ∷ xs) ≡ front past (y ∷ xs) ++ z ∷ []) (same_Some y x (rw here at e)) (front_here past y xs r here)
        | inr there ↦
            let found : find (test past) xs ≡ Some x = rw there at e in
            let before : number y < number x = found_has (λ later. number y < number later) (test past) xs x r.0 found in
            rw (there, not_behind (number y) (number x) (omega (arith, before))) (ap (λ rest. y ∷ rest) (front_more past xs x r.1 found))
      ]

  at_most : (past : Option ℕ) (n : ℕ) (xs : List X) → AllByRecursion (λ later. is_behind past (number later) ≡ true) xs → length (filter (test (Some n)) xs) ≤ length (filter (test past) xs)
  at_most past n [] a = omega arith
  at_most past n (z ∷ xs) a = rw a.0 (elim (cases_Bool (is_behind (Some n) (number z))) [ inl here ↦ rw here (omega (arith, at_most past n xs a.1)) | inr other ↦ rw other (omega (arith, at_most past n xs a.1)) ])

  fewer_here : (past : Option ℕ) (y : X) (xs : List X) → Rise (y ∷ xs) → is_behind past (number y) ≡ true → length (filter (test (Some (number y))) (y ∷ xs)) < length (filter (test past) (y ∷ xs))
  fewer_here past y xs r here =
      rw (here, not_behind (number y) (number y) (omega arith)) (omega (arith, at_most past (number y) xs (all_more (λ later. number y < number later) (λ later. is_behind past (number later) ≡ true) (λ later lt. behind_both past (number y) (number later) here lt) xs r.0)))

  -- and one fewer behind
  pub fewer_behind : (past : Option ℕ) (xs : List X) (x : X) → Rise xs → find (test past) xs ≡ Some x → length (filter (test (Some (number x))) xs) < length (filter (test past) xs)
  fewer_behind past [] x r e = absurd (none-some x e)
  fewer_behind past (y ∷ xs) x r e =
      elim (cases_Bool (is_behind past (number y))) [
        | inl here ↦ subst (λ z. length (filter (test (Some (number z))) (y ∷ xs)) < length (filter (test past) (y ∷ xs))) (same_Some y x (rw here at e)) (fewer_here past y xs r here)
        | inr there ↦
            let found : find (test past) xs ≡ Some x = rw there at e in
            let before : number y < number x = found_has (λ later. number y < number later) (test past) xs x r.0 found in
            rw (there, not_behind (number y) (number x) (omega (arith, before))) (fewer_behind past xs x r.1 found)
      ]

  pub whole_front : (past : Option ℕ) (xs : List X) → find (test past) xs ≡ None → front past xs ≡ xs
  whole_front past xs none = keeps_all (λ x. not (is_behind past (number x))) xs (all_more (λ x. is_behind past (number x) ≡ false) (λ x. not (is_behind past (number x)) ≡ true) (λ x e. not_from_false (is_behind past (number x)) e) xs (all_from_none (test past) xs none))

  -- so far the two have the same, and so they go on
  pub steps_on : (past : Option ℕ) (xs ys : List X) (x y : X) → Rise xs → Rise ys → front past xs ≡ front past ys → find (test past) xs ≡ Some x → find (test past) ys ≡ Some y → x ≡ y → front (Some (number x)) xs ≡ front (Some (number x)) ys
  steps_on past xs ys x y r s e f g same =
      front_more past xs x r f ∙ ap (λ zs. zs ++ x ∷ []) e ∙ ap (λ z. front past ys ++ z ∷ []) same ∙ sym (front_more past ys y s g) ∙ ap (λ z. front (Some (number z)) ys) (sym same)

  pub same_at_end : (past : Option ℕ) (xs ys : List X) → front past xs ≡ front past ys → find (test past) xs ≡ None → find (test past) ys ≡ None → xs ≡ ys
  same_at_end past xs ys e f g = sym (whole_front past xs f) ∙ e ∙ whole_front past ys g

  pub other_end : (past : Option ℕ) (xs ys : List X) (x : X) → find (test past) xs ≡ Some x → find (test past) ys ≡ None → xs ≡ ys → ⊥
  other_end past xs ys x f g e = none-some x (sym g ∙ ap (find (test past)) (sym e) ∙ f)

  pub same_step : (past : Option ℕ) (xs ys : List X) (x y : X) → find (test past) xs ≡ Some x → find (test past) ys ≡ Some y → xs ≡ ys → x ≡ y
  same_step past xs ys x y f g e = same_Some x y (sym f ∙ ap (find (test past)) e ∙ g)

  pub empty_front : (xs : List X) → front None xs ≡ []
  empty_front [] = refl
  empty_front (x ∷ xs) = empty_front xs
