-- Numbers that differ.
use Rattle.std.proofs.Common.{◌≡◌, ◌≢◌, ◌<◌, ◌≤◌, ◌==◌, ℕ, zero, suc, true, false, List, [], ◌∷◌, ◌++◌, length, refl, sym, ap, subst, arith, inl, inr}
use Rattle.std.proofs.lemmas.Bool.{cases_Bool, eqb-true, ne_eqb, eq-eqb}
use Rattle.slot_chain.specs.Linked.{NoneIs, AllDiffer, last_of, IsOwned}
use Rattle.slot_chain.specs.Table.{without, is_in}

pub none_more : (n k : ℕ) (ks : List ℕ) → NoneIs n ks → k ≢ n → NoneIs n (ks ++ k ∷ [])
none_more n k [] h ne = (ne, tt)
none_more n k (j ∷ js) h ne = (h.0, none_more n k js h.1 ne)

pub differ_more : (k : ℕ) (ks : List ℕ) → AllDiffer ks → NoneIs k ks → AllDiffer (ks ++ k ∷ [])
differ_more k [] h none = (tt, tt)
differ_more k (j ∷ js) h none = (none_more j k js h.0 (λ e. none.0 (sym e)), differ_more k js h.1 none.1)

-- one is left out, or none is
pub left_out : (p k : ℕ) (ks : List ℕ) → (k == p) ≡ true → without p (k ∷ ks) ≡ without p ks
left_out p k ks e = rw e refl

pub left_in : (p k : ℕ) (ks : List ℕ) → (k == p) ≡ false → without p (k ∷ ks) ≡ k ∷ without p ks
left_in p k ks e = rw e refl

pub none_fewer : (n p : ℕ) (ks : List ℕ) → NoneIs n ks → NoneIs n (without p ks)
none_fewer n p [] h = tt
none_fewer n p (k ∷ ks) h = elim (cases_Bool (k == p)) [
  | inl e ↦ rw e (none_fewer n p ks h.1)
  | inr e ↦ rw e (h.0, none_fewer n p ks h.1)
]

pub differ_fewer : (p : ℕ) (ks : List ℕ) → AllDiffer ks → AllDiffer (without p ks)
differ_fewer p [] h = tt
differ_fewer p (k ∷ ks) h = elim (cases_Bool (k == p)) [
  | inl e ↦ rw e (differ_fewer p ks h.1)
  | inr e ↦ rw e (none_fewer k p ks h.0, differ_fewer p ks h.1)
]

pub all_stay : (p : ℕ) (ks : List ℕ) → NoneIs p ks → without p ks ≡ ks
all_stay p [] h = refl
all_stay p (k ∷ ks) h = rw (ne_eqb k p h.0) (ap (λ l. k ∷ l) (all_stay p ks h.1))

-- the last of a list is not what none of it is
pub last_differs : (p q : ℕ) (qs : List ℕ) → NoneIs p (q ∷ qs) → last_of q qs ≢ p
last_differs p q [] h = h.0
last_differs p q (r ∷ rs) h = last_differs p r rs h.1

pub last_more : (p x : ℕ) (qs : List ℕ) → last_of p (qs ++ x ∷ []) ≡ x
last_more p x [] = refl
last_more p x (q ∷ qs) = last_more q x qs

-- ---- no more numbers below n than n

abbrev pub AllUnder : ℕ → List ℕ → Type 0
AllUnder n [] = Unit {0}
AllUnder n (k ∷ ks) = (k < n) × AllUnder n ks

under_fewer : (n : ℕ) (ks : List ℕ) → AllUnder (suc n) ks → AllUnder n (without n ks)
under_fewer n [] h = tt
under_fewer n (k ∷ ks) h = elim (cases_Bool (k == n)) [
  | inl e ↦ rw e (under_fewer n ks h.1)
  | inr e ↦ (let other : k ≢ n = (λ (s : k ≡ n). let t = eq-eqb k n s in cc) in let less : k < suc n = h.0 in rw e (omega (arith, other), under_fewer n ks h.1))
]

length_fewer : (n : ℕ) (ks : List ℕ) → AllDiffer ks → length ks ≤ suc (length (without n ks))
length_fewer n [] h = omega arith
length_fewer n (k ∷ ks) h = elim (cases_Bool (k == n)) [
  | inl e ↦ (let none : NoneIs n ks = subst (λ (m : ℕ). NoneIs m ks) (eqb-true k n e) h.0 in
      let same = ap length (all_stay n ks none) in rw e (omega (arith, same)))
  | inr e ↦ (let later = length_fewer n ks h.1 in rw e (omega (arith, later)))
]

pub bounded : (n : ℕ) (ks : List ℕ) → AllDiffer ks → AllUnder n ks → length ks ≤ n
bounded zero [] d u = omega arith
bounded zero (k ∷ ks) d u = absurd (let less : k < 0 = u.0 in omega arith)
bounded (suc n) ks d u = omega (arith, length_fewer n ks d, bounded n (without n ks) (differ_fewer n ks d) (under_fewer n ks u))

pub owned_under : (owner : List ℕ) (uid : ℕ) (ps : List ℕ) → IsOwned owner uid ps → AllUnder (length owner) ps
owned_under owner uid [] h = tt
owned_under owner uid (p ∷ ps) h = (h.0, owned_under owner uid ps h.2)

-- ---- one that is there

pub in_behind : (r q : ℕ) (qs : List ℕ) → is_in r (q ∷ qs) ≡ true → (q == r) ≡ false → is_in r qs ≡ true
in_behind r q qs h e = rw e at h

pub not_in_none : (r : ℕ) → is_in r [] ≡ true → ⊥
not_in_none r h = cc

-- what is there is left out once
pub length_without : (r : ℕ) (ks : List ℕ) → AllDiffer ks → is_in r ks ≡ true → suc (length (without r ks)) ≡ length ks
length_without r [] d h = absurd (not_in_none r h)
length_without r (k ∷ ks) d h = elim (cases_Bool (k == r)) [
  | inl e ↦ (let none : NoneIs r ks = subst (λ (m : ℕ). NoneIs m ks) (eqb-true k r e) d.0 in rw e (ap (λ (l : List ℕ). suc (length l)) (all_stay r ks none)))
  | inr e ↦ rw e (ap suc (length_without r ks d.1 (in_behind r k ks h e)))
]
