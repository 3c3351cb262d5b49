-- Fronts of one list, and the entries of one pass in them.
use Rattle.std.proofs.Common.{◌≡◌, ◌≢◌, ℕ, suc, ◌+◌, ◌≤◌, eqb, eq-eqb, ne_eqb, leb-true, leb-false, cond, Bool, true, false, leb, List, [], ◌∷◌, ◌++◌, length, take, if◌then◌else◌, refl, ap, sym, ◌∙◌, arith, append_assoc, length-append}
use Rattle.std.proofs.lemmas.List.{append-nil}
use Rattle.std.proofs.lemmas.List.Elements.{filter-append}
use mathlib.Core.List.{IsPrefix}
use Rattle.turn_lock.specs.Rule.{own}
use Rattle.turn_lock.specs.Steps.{longer}
use Rattle.turn_lock.specs.Fronts.{AllMade}

module _ {A : Type 0} where
  pub prefix_self : (xs : List A) → IsPrefix xs xs
  prefix_self xs = ([], append-nil xs)

  pub prefix_more : (xs ys : List A) → IsPrefix xs (xs ++ ys)
  prefix_more xs ys = (ys, refl)

  pub prefix_trans : (xs ys zs : List A) → IsPrefix xs ys → IsPrefix ys zs → IsPrefix xs zs
  prefix_trans xs ys zs p q = (p.0 ++ q.0, sym (append_assoc xs p.0 q.0) ∙ (ap (λ w. w ++ q.0) p.1 ∙ q.1))

  -- of two fronts of one list the shorter begins the longer
  pub prefix_shorter : (xs ys zs : List A) → IsPrefix xs zs → IsPrefix ys zs → length xs ≤ length ys → IsPrefix xs ys
  prefix_shorter [] ys zs p q le = (ys, refl)
  prefix_shorter (x ∷ xs) [] zs p q le = absurd (omega arith)
  prefix_shorter (x ∷ xs) (y ∷ ys) [] p q le = absurd (cc (p.1))
  prefix_shorter (x ∷ xs) (y ∷ ys) (z ∷ zs) p q le =
      let heads : x ≡ y = cc (p.1, q.1) in
      let more = prefix_shorter xs ys zs (p.0, cc (p.1)) (q.0, cc (q.1)) (omega arith) in
      (more.0, cc (heads, more.1))

  -- a front as long as the whole is the whole
  pub prefix_whole : (xs ys : List A) → IsPrefix xs ys → length ys ≤ length xs → xs ≡ ys
  prefix_whole [] [] p le = refl
  prefix_whole [] (y ∷ ys) p le = absurd (omega arith)
  prefix_whole (x ∷ xs) [] p le = absurd (cc (p.1))
  prefix_whole (x ∷ xs) (y ∷ ys) p le =
      let more = prefix_whole xs ys (p.0, cc (p.1)) (omega arith) in cc (p.1, more)

  pub prefix_length : (xs ys : List A) → IsPrefix xs ys → length xs ≤ length ys
  prefix_length xs ys p = omega (arith, sym (ap length p.1) ∙ length-append xs p.0)

  -- of two fronts of one list the longer is one too, and both begin it
  pub longer_prefix : (xs ys zs : List A) → IsPrefix xs zs → IsPrefix ys zs → IsPrefix (longer xs ys) zs
  longer_prefix xs ys zs p q = go (leb (length xs) (length ys))
    where
      go : (b : Bool) → IsPrefix (if b then ys else xs) zs
      go true = q
      go false = p

  pub longer_begins : (xs ys zs : List A) → IsPrefix xs zs → IsPrefix ys zs → IsPrefix xs (longer xs ys) × IsPrefix ys (longer xs ys)
  longer_begins xs ys zs p q = go (leb (length xs) (length ys)) refl
    where
      go : (b : Bool) → leb (length xs) (length ys) ≡ b → IsPrefix xs (if b then ys else xs) × IsPrefix ys (if b then ys else xs)
      go true e = (prefix_shorter xs ys zs p q (leb-true (length xs) (length ys) e), prefix_self ys)
      go false e = (prefix_self xs, let h : length ys ≤ length xs = omega (arith, leb-false (length xs) (length ys) e) in prefix_shorter ys xs zs q p h)

  -- one entry more than xs
  pub take_next : (xs : List A) (y : A) (ys : List A) → take (length xs + 1) (xs ++ y ∷ ys) ≡ xs ++ y ∷ []
  take_next [] y ys = refl
  take_next (x ∷ xs) y ys =
      let next : suc (length xs) + 1 ≡ suc (length xs + 1) = omega arith in
      ap (λ (k : ℕ). take k (x ∷ (xs ++ y ∷ ys))) next ∙ ap (λ (l : List A). x ∷ l) (take_next xs y ys)

module _ {E : Type 0} (maker : E → ℕ) where
  pub own_prefix : (n : ℕ) (xs ys : List E) → IsPrefix xs ys → IsPrefix (own maker n xs) (own maker n ys)
  own_prefix n xs ys p = (own maker n p.0, sym (filter-append (λ e. eqb (maker e) n) xs p.0) ∙ ap (own maker n) p.1)

  -- between two lists that agree on what the pass n made
  pub own_between : (n : ℕ) (xs ys zs : List E) → IsPrefix xs ys → IsPrefix ys zs → own maker n xs ≡ own maker n zs → own maker n ys ≡ own maker n zs
  own_between n xs ys zs p q same =
      let a = prefix_length (own maker n xs) (own maker n ys) (own_prefix n xs ys p) in
      let b = ap length same in
      prefix_whole (own maker n ys) (own maker n zs) (own_prefix n ys zs q) (omega arith)

  pub own_none : (n : ℕ) (xs ys : List E) → IsPrefix xs ys → own maker n ys ≡ [] → own maker n xs ≡ []
  own_none n xs ys p none =
      let a = prefix_length (own maker n xs) (own maker n ys) (own_prefix n xs ys p) in
      let b = ap length none in
      let c : length (own maker n xs) ≤ 0 = omega arith in
      empty (own maker n xs) c
    where
      empty : (l : List E) → length l ≤ 0 → l ≡ []
      empty [] h = refl
      empty (x ∷ xs) h = absurd (omega arith)

  pub own_other : (n : ℕ) (xs : List E) (e : E) → maker e ≢ n → own maker n (xs ++ e ∷ []) ≡ own maker n xs
  own_other n xs e other =
      filter-append (λ e. eqb (maker e) n) xs (e ∷ []) ∙ (ap (λ (b : Bool). own maker n xs ++ cond b (e ∷ []) []) (ne_eqb (maker e) n other) ∙ append-nil (own maker n xs))

  pub own_mine : (n : ℕ) (xs : List E) (e : E) → maker e ≡ n → own maker n (xs ++ e ∷ []) ≡ own maker n xs ++ e ∷ []
  own_mine n xs e mine =
      filter-append (λ e. eqb (maker e) n) xs (e ∷ []) ∙ ap (λ (b : Bool). own maker n xs ++ cond b (e ∷ []) []) (eq-eqb (maker e) n mine)

  pub longer_own : (n : ℕ) (xs ys zs : List E) → IsPrefix xs zs → IsPrefix ys zs → own maker n xs ≡ own maker n zs → own maker n (longer xs ys) ≡ own maker n zs
  longer_own n xs ys zs p q same = go (leb (length xs) (length ys)) refl
    where
      go : (b : Bool) → leb (length xs) (length ys) ≡ b → own maker n (if b then ys else xs) ≡ own maker n zs
      go true e = own_between n xs ys zs (prefix_shorter xs ys zs p q (leb-true (length xs) (length ys) e)) q same
      go false e = same

  -- what the pass n made, where it made all that came
  pub own_all : (n : ℕ) (more : List E) → AllMade maker n more → own maker n more ≡ more
  own_all n [] made = refl
  own_all n (e ∷ es) made =
      ap (λ (b : Bool). cond b (e ∷ own maker n es) (own maker n es)) (eq-eqb (maker e) n made.0) ∙ ap (λ (l : List E). e ∷ l) (own_all n es made.1)

  pub own_append : (n : ℕ) (xs more : List E) → AllMade maker n more → own maker n (xs ++ more) ≡ own maker n xs ++ more
  own_append n xs more made = filter-append (λ e. eqb (maker e) n) xs more ∙ ap (λ (l : List E). own maker n xs ++ l) (own_all n more made)

  -- the longer of two fronts has no more of the pass n than its own front
  pub longer_owned : (n : ℕ) (xs ys zs : List E) → IsPrefix xs zs → IsPrefix ys zs → own maker n xs ≡ own maker n zs → own maker n xs ≡ own maker n (longer xs ys)
  longer_owned n xs ys zs p q same = same ∙ sym (longer_own n xs ys zs p q same)
