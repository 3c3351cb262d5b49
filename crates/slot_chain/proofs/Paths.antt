-- What writes of links do to a path.
use Rattle.std.proofs.Common.{◌≡◌, ◌≢◌, ◌<◌, ◌==◌, ℕ, zero, suc, true, false, List, [], ◌∷◌, ◌++◌, length, get_or, refl, sym, ap, ◌∙◌, subst, arith, inl, inr}
use Rattle.std.proofs.lemmas.Bool.{cases_Bool, eqb-true, ne_eqb, eq-eqb}
use Rattle.slot_chain.specs.Linked.{Puts, NoneIs, AllDiffer, last_of, walk, IsPath, IsOwned}
use Rattle.slot_chain.specs.Table.{without, is_in}
use Rattle.slot_chain.proofs.Numbers.{all_stay, last_differs, in_behind, not_in_none}

pub put_there : (old new : List ℕ) (place number : ℕ) → Puts old new place number → (p : ℕ) → p ≡ place → get_or new p 0 ≡ number
put_there old new place number puts p e = puts p ∙ rw (eq-eqb p place e) refl

pub put_other : (old new : List ℕ) (place number : ℕ) → Puts old new place number → (p : ℕ) → p ≢ place → get_or new p 0 ≡ get_or old p 0
put_other old new place number puts p ne = puts p ∙ rw (ne_eqb p place ne) refl

-- a path is what a walk of its length gives
pub walk_path : (after before : List ℕ) (p : ℕ) (qs : List ℕ) → IsPath after before p qs → walk after (length qs) (get_or after p 0) ≡ qs
walk_path after before p [] h = refl
walk_path after before p (q ∷ qs) h = rw h.0 (ap (λ (l : List ℕ). q ∷ l) (walk_path after before q qs h.2))

pub length_walk : (after : List ℕ) (n p : ℕ) → length (walk after n p) ≡ n
length_walk after zero p = refl
length_walk after (suc n) p = ap suc (length_walk after n (get_or after p 0))

-- ---- a write elsewhere

pub path_after : (after later before : List ℕ) (at number p : ℕ) (qs : List ℕ) → Puts after later at number → NoneIs at (p ∷ qs) → IsPath after before p qs → IsPath later before p qs
path_after after later before at number p [] puts none h = tt
path_after after later before at number p (q ∷ qs) puts none h =
    (put_other after later at number puts p none.0 ∙ h.0, h.1, path_after after later before at number q qs puts none.1 h.2)

pub path_before : (after before later : List ℕ) (at number p : ℕ) (qs : List ℕ) → Puts before later at number → NoneIs at qs → IsPath after before p qs → IsPath after later p qs
path_before after before later at number p [] puts none h = tt
path_before after before later at number p (q ∷ qs) puts none h =
    (h.0, put_other before later at number puts q none.0 ∙ h.1, path_before after before later at number q qs puts none.1 h.2)

pub owned_put : (owner later : List ℕ) (at number uid : ℕ) (ps : List ℕ) → Puts owner later at number → length later ≡ length owner → NoneIs at ps → IsOwned owner uid ps → IsOwned later uid ps
owned_put owner later at number uid [] puts long none h = tt
owned_put owner later at number uid (p ∷ ps) puts long none h =
    (omega (arith, h.0, long), put_other owner later at number puts p none.0 ∙ h.1, owned_put owner later at number uid ps puts long none.1 h.2)

-- of another uid's list none is a place of this uid
pub other_owned : (owner : List ℕ) (uid at : ℕ) (ps : List ℕ) → IsOwned owner uid ps → get_or owner at 0 ≢ uid → NoneIs at ps
other_owned owner uid at [] h ne = tt
other_owned owner uid at (p ∷ ps) h ne = ((λ (e : p ≡ at). ne (sym (ap (λ (k : ℕ). get_or owner k 0) e) ∙ h.1)), other_owned owner uid at ps h.2 ne)

-- what stands behind the last place is not looked at
pub path_last : (after later before : List ℕ) (at number p : ℕ) (qs : List ℕ) → Puts after later at number → last_of p qs ≡ at → AllDiffer (p ∷ qs) → IsPath after before p qs → IsPath later before p qs
path_last after later before at number p [] puts last differ h = tt
path_last after later before at number p (q ∷ qs) puts last differ h =
    let other : p ≢ at = (λ (e : p ≡ at). last_differs p q qs differ.0 (last ∙ sym e)) in
    (put_other after later at number puts p other ∙ h.0, h.1, path_last after later before at number q qs puts last differ.1 h.2)

-- ---- one more at the end

pub path_more : (after before : List ℕ) (place p : ℕ) (qs : List ℕ) → IsPath after before p qs → get_or after (last_of p qs) 0 ≡ place → get_or before place 0 ≡ last_of p qs → IsPath after before p (qs ++ place ∷ [])
path_more after before place p [] h behind ahead = (behind, ahead, tt)
path_more after before place p (q ∷ qs) h behind ahead = (h.0, h.1, path_more after before place q qs h.2 behind ahead)

pub owned_more : (owner : List ℕ) (uid place : ℕ) (ps : List ℕ) → IsOwned owner uid ps → place < length owner → get_or owner place 0 ≡ uid → IsOwned owner uid (ps ++ place ∷ [])
owned_more owner uid place [] h within is = (within, is, tt)
owned_more owner uid place (p ∷ ps) h within is = (h.0, h.1, owned_more owner uid place ps h.2 within is)

pub owned_fewer : (owner : List ℕ) (uid r : ℕ) (ps : List ℕ) → IsOwned owner uid ps → IsOwned owner uid (without r ps)
owned_fewer owner uid r [] h = tt
owned_fewer owner uid r (p ∷ ps) h = elim (cases_Bool (p == r)) [
  | inl e ↦ rw e (owned_fewer owner uid r ps h.2)
  | inr e ↦ rw e (h.0, h.1, owned_fewer owner uid r ps h.2)
]

pub owned_in : (owner : List ℕ) (uid r : ℕ) (ps : List ℕ) → IsOwned owner uid ps → is_in r ps ≡ true → (r < length owner) × (get_or owner r 0 ≡ uid)
owned_in owner uid r [] h is = absurd (not_in_none r is)
owned_in owner uid r (p ∷ ps) h is = elim (cases_Bool (p == r)) [
  | inl e ↦ (let same : p ≡ r = eqb-true p r e in (subst (λ (k : ℕ). k < length owner) same h.0, subst (λ (k : ℕ). get_or owner k 0 ≡ uid) same h.1))
  | inr e ↦ owned_in owner uid r ps h.2 (in_behind r p ps is e)
]

-- ---- one less

-- the places before and behind one of a path are of it
ahead_among : (after before : List ℕ) (k r p : ℕ) (qs : List ℕ) → IsPath after before p qs → is_in r qs ≡ true → NoneIs k (p ∷ qs) → get_or before r 0 ≢ k
ahead_among after before k r p [] h is none = absurd (not_in_none r is)
ahead_among after before k r p (q ∷ qs) h is none = elim (cases_Bool (q == r)) [
  | inl e ↦ (λ (s : get_or before r 0 ≡ k). none.0 (sym h.1 ∙ ap (λ (m : ℕ). get_or before m 0) (eqb-true q r e) ∙ s))
  | inr e ↦ ahead_among after before k r q qs h.2 (in_behind r q qs is e) none.1
]

behind_first : (after before : List ℕ) (k r p : ℕ) (qs : List ℕ) → IsPath after before p qs → p ≡ r → last_of p qs ≢ r → NoneIs k qs → get_or after r 0 ≢ k
behind_first after before k r p [] h same last none = absurd (last same)
behind_first after before k r p (q ∷ qs) h same last none = λ (s : get_or after r 0 ≡ k). none.0 (sym h.0 ∙ ap (λ (m : ℕ). get_or after m 0) same ∙ s)

behind_among : (after before : List ℕ) (k r p : ℕ) (qs : List ℕ) → IsPath after before p qs → is_in r qs ≡ true → last_of p qs ≢ r → NoneIs k qs → get_or after r 0 ≢ k
behind_among after before k r p [] h is last none = absurd (not_in_none r is)
behind_among after before k r p (q ∷ qs) h is last none = elim (cases_Bool (q == r)) [
  | inl e ↦ behind_first after before k r q qs h.2 (eqb-true q r e) last none.1
  | inr e ↦ behind_among after before k r q qs h.2 (in_behind r q qs is e) last none.1
]

pub last_stays : (r p : ℕ) (qs : List ℕ) → AllDiffer qs → last_of p qs ≢ r → last_of p (without r qs) ≡ last_of p qs
last_stays r p [] d last = refl
last_stays r p (q ∷ []) d last = rw (ne_eqb q r last) refl
last_stays r p (q ∷ (s ∷ ss)) d last = elim (cases_Bool (q == r)) [
  | inl e ↦ (let none : NoneIs r (s ∷ ss) = subst (λ (m : ℕ). NoneIs m (s ∷ ss)) (eqb-true q r e) d.0 in
      let same : without r (s ∷ ss) ≡ s ∷ ss = all_stay r (s ∷ ss) none in
      rw e (ap (λ (l : List ℕ). last_of p l) same))
  | inr e ↦ rw e (last_stays r q (s ∷ ss) d.1 last)
]

-- the last one is left out
pub record IsCut (after before : List ℕ) (r p : ℕ) (qs : List ℕ) : Type 0 where
  pub path : IsPath after before p (without r qs)
  pub last : last_of p (without r qs) ≡ get_or before r 0

pub cut_last : (after before : List ℕ) (r p q : ℕ) (qs : List ℕ) → IsPath after before p (q ∷ qs) → AllDiffer (q ∷ qs) → last_of q qs ≡ r → IsCut after before r p (q ∷ qs)
cut_last after before r p q [] h differ last =
    let out : (q == r) ≡ true = eq-eqb q r last in
    record { path = rw out tt; last = rw out (sym h.1 ∙ ap (λ (m : ℕ). get_or before m 0) last) }
cut_last after before r p q (s ∷ ss) h differ last =
    let kept : (q == r) ≡ false = ne_eqb q r (λ (e : q ≡ r). last_differs q s ss differ.0 (last ∙ sym e)) in
    let cut = cut_last after before r q s ss h.2 differ.1 last in
    record { path = rw kept (h.0, h.1, cut.path); last = rw kept cut.last }

-- a place, and this uid's
abbrev pub Owns : List ℕ → ℕ → ℕ → Type 0
Owns owner uid p = (p < length owner) × (get_or owner p 0 ≡ uid)

-- the places before and behind one of a path are such
pub ahead_owned : (after before owner : List ℕ) (uid r p : ℕ) (qs : List ℕ) → IsPath after before p qs → IsOwned owner uid (p ∷ qs) → is_in r qs ≡ true → Owns owner uid (get_or before r 0)
ahead_owned after before owner uid r p [] h owned is = absurd (not_in_none r is)
ahead_owned after before owner uid r p (q ∷ qs) h owned is = elim (cases_Bool (q == r)) [
  | inl e ↦ subst (Owns owner uid) (sym h.1 ∙ ap (λ (m : ℕ). get_or before m 0) (eqb-true q r e)) (owned.0, owned.1)
  | inr e ↦ ahead_owned after before owner uid r q qs h.2 owned.2 (in_behind r q qs is e)
]

next_owned : (after before owner : List ℕ) (uid r p : ℕ) (qs : List ℕ) → IsPath after before p qs → IsOwned owner uid qs → p ≡ r → last_of p qs ≢ r → Owns owner uid (get_or after r 0)
next_owned after before owner uid r p [] h owned same last = absurd (last same)
next_owned after before owner uid r p (q ∷ qs) h owned same last = subst (Owns owner uid) (sym h.0 ∙ ap (λ (m : ℕ). get_or after m 0) same) (owned.0, owned.1)

pub behind_owned : (after before owner : List ℕ) (uid r p : ℕ) (qs : List ℕ) → IsPath after before p qs → IsOwned owner uid qs → is_in r qs ≡ true → last_of p qs ≢ r → Owns owner uid (get_or after r 0)
behind_owned after before owner uid r p [] h owned is last = absurd (not_in_none r is)
behind_owned after before owner uid r p (q ∷ qs) h owned is last = elim (cases_Bool (q == r)) [
  | inl e ↦ next_owned after before owner uid r q qs h.2 owned.2 (eqb-true q r e) last
  | inr e ↦ behind_owned after before owner uid r q qs h.2 owned.2 (in_behind r q qs is e) last
]

-- one that is not the last is left out
pub cut_inner : (after later before earlier : List ℕ) (r p : ℕ) (qs : List ℕ) → Puts after later (get_or before r 0) (get_or after r 0) → Puts before earlier (get_or after r 0) (get_or before r 0)
    → IsPath after before p qs → AllDiffer (p ∷ qs) → is_in r qs ≡ true → last_of p qs ≢ r → IsPath later earlier p (without r qs)
cut_inner after later before earlier r p [] puts sets h differ is last = absurd (not_in_none r is)
cut_inner after later before earlier r p (q ∷ []) puts sets h differ is last = elim (cases_Bool (q == r)) [
  | inl e ↦ absurd (last (eqb-true q r e))
  | inr e ↦ absurd (not_in_none r (in_behind r q [] is e))
]
cut_inner after later before earlier r p (q ∷ (s ∷ ss)) puts sets h differ is last = elim (cases_Bool (q == r)) [
  | inl e ↦ (
      let same : q ≡ r = eqb-true q r e in
      let none : NoneIs r (s ∷ ss) = subst (λ (m : ℕ). NoneIs m (s ∷ ss)) same differ.1.0 in
      let ahead : get_or before r 0 ≡ p = sym (ap (λ (m : ℕ). get_or before m 0) same) ∙ h.1 in
      let behind : get_or after r 0 ≡ s = sym (ap (λ (m : ℕ). get_or after m 0) same) ∙ h.2.0 in
      let first : NoneIs (get_or before r 0) (s ∷ ss) = subst (λ (m : ℕ). NoneIs m (s ∷ ss)) (sym ahead) differ.0.1 in
      let second : NoneIs (get_or after r 0) ss = subst (λ (m : ℕ). NoneIs m ss) (sym behind) differ.1.1.0 in
      let rest : IsPath later earlier s ss =
      path_before later before earlier (get_or after r 0) (get_or before r 0) s ss sets second
      (path_after after later before (get_or before r 0) (get_or after r 0) s ss puts first h.2.2) in
      let path : IsPath later earlier p (s ∷ ss) = (
        put_there after later (get_or before r 0) (get_or after r 0) puts p (sym ahead) ∙ behind,
        put_there before earlier (get_or after r 0) (get_or before r 0) sets s (sym behind) ∙ ahead,
        rest,
      ) in
      rw e (subst (IsPath later earlier p) (sym (all_stay r (s ∷ ss) none)) path))
  | inr e ↦ (
      let there : is_in r (s ∷ ss) ≡ true = in_behind r q (s ∷ ss) is e in
      let other : p ≢ get_or before r 0 = (λ (k : p ≡ get_or before r 0). ahead_among after before p r q (s ∷ ss) h.2 there differ.0 (sym k)) in
      let apart : q ≢ get_or after r 0 = (λ (k : q ≡ get_or after r 0). behind_among after before q r q (s ∷ ss) h.2 there last differ.1.0 (sym k)) in
      rw e (
        put_other after later (get_or before r 0) (get_or after r 0) puts p other ∙ h.0,
        put_other before earlier (get_or after r 0) (get_or before r 0) sets q apart ∙ h.1,
        cut_inner after later before earlier r q (s ∷ ss) puts sets h.2 differ.1 there last,
      ))
]
