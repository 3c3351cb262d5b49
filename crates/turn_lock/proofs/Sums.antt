-- Sums over the views, and functions that change at one number.
use Rattle.std.proofs.Common.{◌≡◌, ◌≢◌, ◌⊎◌, ℕ, zero, suc, ◌+◌, ◌<◌, ◌≤◌, List, [], ◌∷◌, ◌++◌, length, set, sym, refl, ap, inl, inr, ⊎_elim, arith}
use mathlib.Core.Option.{some, some-injective, some-ne-none}
use native.Mathlib.Decide.{ℕ_discrete}
use lib.ListN.{get_elem?}
use Rattle.turn_lock.specs.Rule.{total}

module _ {A : Type 0} where
  pub total_set : (f : A → ℕ) (l : List A) (i : ℕ) (a b : A) → get_elem? l i ≡ some a → total f (set l i b) + f a ≡ total f l + f b
  total_set f [] i a b e = absurd (some-ne-none a (sym e))
  total_set f (x ∷ xs) zero a b e = let h : f x ≡ f a = ap f (some-injective x a e) in omega arith
  total_set f (x ∷ xs) (suc i) a b e = omega (arith, total_set f xs i a b e)

  pub total_snoc : (f : A → ℕ) (l : List A) (a : A) → total f (l ++ a ∷ []) ≡ total f l + f a
  total_snoc f [] a = omega arith
  total_snoc f (x ∷ xs) a = omega (arith, total_snoc f xs a)

  pub total_le : (f g : A → ℕ) (l : List A) → ((j : ℕ) (a : A) → get_elem? l j ≡ some a → f a ≤ g a) → total f l ≤ total g l
  total_le f g [] h = omega arith
  total_le f g (x ∷ xs) h = let here = h zero x refl in let more = total_le f g xs (λ j a e. h (suc j) a e) in omega arith

  pub at_snoc_where : (l : List A) (a b : A) (j : ℕ) → get_elem? (l ++ a ∷ []) j ≡ some b → ((j < length l) × (get_elem? l j ≡ some b)) ⊎ ((j ≡ length l) × (a ≡ b))
  at_snoc_where [] a b zero e = inr (refl, some-injective a b e)
  at_snoc_where [] a b (suc j) e = absurd (some-ne-none b (sym e))
  at_snoc_where (x ∷ xs) a b zero e = inl (omega arith, e)
  at_snoc_where (x ∷ xs) a b (suc j) e = ⊎_elim (λ t. let l = t.0 in inl (omega arith, t.1)) (λ t. inr (ap suc t.0, t.1)) (at_snoc_where xs a b j e)

  pub at_inside : (l : List A) (j : ℕ) (a : A) → get_elem? l j ≡ some a → j < length l
  at_inside [] j a e = absurd (some-ne-none a (sym e))
  at_inside (x ∷ xs) zero a e = omega arith
  at_inside (x ∷ xs) (suc j) a e = let h = at_inside xs j a e in omega arith

abbrev pick : {P : Type 0} → Dec P → ℕ → ℕ → ℕ
pick (yes _) a b = a
pick (no _) a b = b

-- f, with c at i
pub put : (ℕ → ℕ) → ℕ → ℕ → ℕ → ℕ
put f i c j = pick (ℕ_discrete j i) c (f j)

pub put_here : (f : ℕ → ℕ) (i c : ℕ) → put f i c i ≡ c
unfolding put
put_here f i c = go (ℕ_discrete i i)
  where
    go : (d : Dec (i ≡ i)) → pick d c (f i) ≡ c
    go (yes _) = refl
    go (no n) = absurd (n refl)

pub put_else : (f : ℕ → ℕ) (i c j : ℕ) → j ≢ i → put f i c j ≡ f j
unfolding put
put_else f i c j other = go (ℕ_discrete j i)
  where
    go : (d : Dec (j ≡ i)) → pick d c (f j) ≡ f j
    go (yes e) = absurd (other e)
    go (no _) = refl

-- f, with b for a
pub moved : (ℕ → ℕ) → ℕ → ℕ → ℕ → ℕ
moved f a b n = pick (ℕ_discrete (f n) a) b (f n)

pub moved_here : (f : ℕ → ℕ) (a b n : ℕ) → f n ≡ a → moved f a b n ≡ b
unfolding moved
moved_here f a b n e = go (ℕ_discrete (f n) a)
  where
    go : (d : Dec (f n ≡ a)) → pick d b (f n) ≡ b
    go (yes _) = refl
    go (no n) = absurd (n e)

pub moved_else : (f : ℕ → ℕ) (a b n : ℕ) → f n ≢ a → moved f a b n ≡ f n
unfolding moved
moved_else f a b n other = go (ℕ_discrete (f n) a)
  where
    go : (d : Dec (f n ≡ a)) → pick d b (f n) ≡ f n
    go (yes e) = absurd (other e)
    go (no _) = refl
