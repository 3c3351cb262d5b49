-- Two lists that are alike, after the same change of both.
use Rattle.std.proofs.Common.{◌≡◌, ℕ, Bool, true, false, ◌==◌, ◌||◌, if◌then◌else◌, suc, List, [], ◌∷◌, ◌++◌, length, map, filter, find, Option, Some, refl, sym, ap, ◌∙◌, inl, inr, subst}
use Rattle.std.specs.List.{list_any}
use Rattle.std.proofs.lemmas.Bool.{cases_Bool, eqb-true}
use Rattle.slot_chain.specs.Linked.{NoneIs, AllDiffer}
use Rattle.live_tables.specs.Alike.{Alike, BothFound}

module _ {A B : Type 0} (R : A → B → Type 0) where
  pub alike_more : (xs : List A) (ys : List B) (x : A) (y : B) → Alike R xs ys → R x y → Alike R (xs ++ x ∷ []) (ys ++ y ∷ [])
  alike_more [] [] x y h r = (r, tt)
  alike_more (a ∷ xs) (b ∷ ys) x y h r = (h.0, alike_more xs ys x y h.1 r)
  alike_more [] (b ∷ ys) x y h r = absurd h
  alike_more (a ∷ xs) [] x y h r = absurd h

  kept : (c d : Bool) (a : A) (b : B) (xs : List A) (ys : List B) → c ≡ d → R a b → Alike R xs ys → Alike R (if c then a ∷ xs else xs) (if d then b ∷ ys else ys)
  kept true true a b xs ys e r h = (r, h)
  kept false false a b xs ys e r h = h
  kept true false a b xs ys e r h = cc
  kept false true a b xs ys e r h = cc

  pub alike_filter : (p : A → Bool) (q : B → Bool) → ((x : A) (y : B) → R x y → p x ≡ q y) → (xs : List A) (ys : List B) → Alike R xs ys → Alike R (filter p xs) (filter q ys)
  alike_filter p q same [] [] h = tt
  alike_filter p q same (a ∷ xs) (b ∷ ys) h = kept (p a) (q b) a b (filter p xs) (filter q ys) (same a b h.0) h.0 (alike_filter p q same xs ys h.1)
  alike_filter p q same [] (b ∷ ys) h = absurd h
  alike_filter p q same (a ∷ xs) [] h = absurd h

  one : (f : A → A) (g : B → B) (c d : Bool) (a : A) (b : B) → c ≡ d → R a b → (d ≡ true → R (f a) (g b)) → R (if c then f a else a) (if d then g b else b)
  one f g true true a b e r h = h refl
  one f g false false a b e r h = r
  one f g true false a b e r h = cc
  one f g false true a b e r h = cc

  -- a change of those that pass a test
  pub alike_change : (p : A → Bool) (q : B → Bool) (f : A → A) (g : B → B) → ((x : A) (y : B) → R x y → p x ≡ q y) → ((x : A) (y : B) → R x y → q y ≡ true → R (f x) (g y))
      → (xs : List A) (ys : List B) → Alike R xs ys → Alike R (map (λ x. if p x then f x else x) xs) (map (λ y. if q y then g y else y) ys)
  alike_change p q f g same go [] [] h = tt
  alike_change p q f g same go (a ∷ xs) (b ∷ ys) h = (one f g (p a) (q b) a b (same a b h.0) h.0 (go a b h.0), alike_change p q f g same go xs ys h.1)
  alike_change p q f g same go [] (b ∷ ys) h = absurd h
  alike_change p q f g same go (a ∷ xs) [] h = absurd h

  found : (c d : Bool) (a : A) (b : B) (xs : Option A) (ys : Option B) → c ≡ d → R a b → BothFound R xs ys → BothFound R (if c then Some a else xs) (if d then Some b else ys)
  found true true a b xs ys e r h = r
  found false false a b xs ys e r h = h
  found true false a b xs ys e r h = cc
  found false true a b xs ys e r h = cc

  pub alike_found : (p : A → Bool) (q : B → Bool) → ((x : A) (y : B) → R x y → p x ≡ q y) → (xs : List A) (ys : List B) → Alike R xs ys → BothFound R (find p xs) (find q ys)
  alike_found p q same [] [] h = tt
  alike_found p q same (a ∷ xs) (b ∷ ys) h = found (p a) (q b) a b (find p xs) (find q ys) (same a b h.0) h.0 (alike_found p q same xs ys h.1)
  alike_found p q same [] (b ∷ ys) h = absurd h
  alike_found p q same (a ∷ xs) [] h = absurd h

  pub alike_any : (p : A → Bool) (q : B → Bool) → ((x : A) (y : B) → R x y → p x ≡ q y) → (xs : List A) (ys : List B) → Alike R xs ys → list_any p xs ≡ list_any q ys
  alike_any p q same [] [] h = refl
  alike_any p q same (a ∷ xs) (b ∷ ys) h = ap (λ c. c || list_any p xs) (same a b h.0) ∙ ap (λ c. q b || c) (alike_any p q same xs ys h.1)
  alike_any p q same [] (b ∷ ys) h = absurd h
  alike_any p q same (a ∷ xs) [] h = absurd h

  pub alike_images : {C : Type 0} (f : A → C) (g : B → C) → ((x : A) (y : B) → R x y → f x ≡ g y) → (xs : List A) (ys : List B) → Alike R xs ys → map f xs ≡ map g ys
  alike_images f g same [] [] h = refl
  alike_images f g same (a ∷ xs) (b ∷ ys) h = ap (λ c. c ∷ map f xs) (same a b h.0) ∙ ap (λ cs. g b ∷ cs) (alike_images f g same xs ys h.1)
  alike_images f g same [] (b ∷ ys) h = absurd h
  alike_images f g same (a ∷ xs) [] h = absurd h

  pub alike_length : (xs : List A) (ys : List B) → Alike R xs ys → length xs ≡ length ys
  alike_length [] [] h = refl
  alike_length (a ∷ xs) (b ∷ ys) h = ap suc (alike_length xs ys h.1)
  alike_length [] (b ∷ ys) h = absurd h
  alike_length (a ∷ xs) [] h = absurd h

  -- a change of the one of a number, where each number is once
  module _ (num : A → ℕ) (key : B → ℕ) (same : (x : A) (y : B) → R x y → num x ≡ key y) (n : ℕ) (f : A → A) (g : B → B) where
    abbrev Changed : List A → List B → Type 0
    Changed xs ys = Alike R (map (λ x. if num x == n then f x else x) xs) (map (λ y. if key y == n then g y else y) ys)

    untouched : (xs : List A) (ys : List B) → Alike R xs ys → NoneIs n (map key ys) → Changed xs ys
    untouched [] [] h none = tt
    untouched (a ∷ xs) (b ∷ ys) h none =
        (one f g (num a == n) (key b == n) a b (ap (λ m. m == n) (same a b h.0)) h.0 (λ e. absurd (none.0 (eqb-true (key b) n e))), untouched xs ys h.1 none.1)
    untouched [] (b ∷ ys) h none = absurd h
    untouched (a ∷ xs) [] h none = absurd h

    pub alike_at : (xs : List A) (ys : List B) → Alike R xs ys → AllDiffer (map key ys)
        → ((x : A) (y : B) → find (λ z. num z == n) xs ≡ Some x → find (λ z. key z == n) ys ≡ Some y → R (f x) (g y)) → Changed xs ys
    alike_at [] [] h differ go = tt
    alike_at (a ∷ xs) (b ∷ ys) h differ go = elim (cases_Bool (key b == n)) [
      | inl e ↦ (let e' : (num a == n) ≡ true = ap (λ m. m == n) (same a b h.0) ∙ e in
          let here : R (f a) (g b) = go a b (rw e' refl) (rw e refl) in
          (one f g (num a == n) (key b == n) a b (e' ∙ sym e) h.0 (λ z. here), untouched xs ys h.1 (subst (λ (m : ℕ). NoneIs m (map key ys)) (eqb-true (key b) n e) differ.0)))
      | inr e ↦ (let e' : (num a == n) ≡ false = ap (λ m. m == n) (same a b h.0) ∙ e in
          (one f g (num a == n) (key b == n) a b (e' ∙ sym e) h.0 (λ z. cc), alike_at xs ys h.1 differ.1 (λ x y u v. go x y (rw e' u) (rw e v))))
    ]
    alike_at [] (b ∷ ys) h differ go = absurd h
    alike_at (a ∷ xs) [] h differ go = absurd h
