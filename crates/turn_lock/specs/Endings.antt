-- What the end of a lock tells: the law of `EndRule`.
use Rattle.std.proofs.Common.{◌≡◌, ℕ, ◌<◌, ◌≤◌, List, [], ◌∷◌, get_or, arith, ap, sym, ◌∙◌, subst, ⊎_elim, Option, Some}
use mathlib.Core.Option.{some, some-ne-none, some-injective}
use mathlib.Core.List.{IsPrefix}
use lib.ListN.{get_elem?}
use Rattle.atomic_table.specs.Table.{Final, Seen}
use Rattle.turn_lock.specs.declared.view.Stage.{Stage}
use Rattle.turn_lock.specs.declared.view.Stage.TheVariants.{Idle, Makes, Waits, Serves, Closes, Ends}
use Rattle.turn_lock.specs.declared.view.Hand.{Hand}
use Rattle.turn_lock.specs.declared.view.View.{View}
use Rattle.turn_lock.specs.Views.{IsServing, turn_in, made_in}
use Rattle.turn_lock.specs.Rule.{own, Tally, Stands, Owns, AllHold, IsSound, IsClosing}
use Rattle.turn_lock.specs.Fronts.{IsFrontOf, HasHand}

-- What is known at the end of a lock, of its name, the view of its last turn, how many numbers were drawn, and the slot
pub record Ended {T E K : Type 0} (entries : T → List E) (maker : E → ℕ) (fits : K → T → Type 0) (name : K) (v : View E K) (drawn : ℕ) (slot : Option T) : Type 0 where
  pub value : T
  pub is : slot ≡ Some value
  pub fit : fits name value
  -- the front of each pass that was taken in begins the history, and has all that this pass made
  pub all : (n : ℕ) (front : List E) → HasHand v.hands n front → IsFrontOf maker n front (entries value)
  pub below : (n : ℕ) (front : List E) → HasHand v.hands n front → n < drawn
  -- so many were drawn as the last turn knows, and no entry has a number that was not
  pub made : drawn ≡ made_in v.stage
  pub none : (n : ℕ) → drawn ≤ n → own maker n (entries value) ≡ []

-- two values at one place
pub same_at : {A : Type 0} (l : List A) (j : ℕ) (a b : A) → get_elem? l j ≡ some a → get_elem? l j ≡ some b → a ≡ b
same_at l j a b p q = some-injective a b (sym p ∙ q)

-- the seat whose turn is served
pub serving_one : {E : Type 0} (f : Tally E) (j : ℕ) (st : Stage E) → Stands f j st → IsServing st → f.server f.passed ≡ j
serving_one f j Idle h s = absurd s
serving_one f j (Makes k) h s = absurd s
serving_one f j (Waits t) h s = absurd s
serving_one f j (Serves t log) h s = ap f.server (sym h.0) ∙ h.2
serving_one f j (Closes t) h s = absurd s
serving_one f j (Ends t k) h s = absurd s

-- a hand that the rule holds of has a front of the history, and a number that was drawn
front_held : {E K : Type 0} (maker : E → ℕ) (log : List E) (drawn : ℕ) (holder : ℕ → ℕ) (seat : ℕ) (name : K) (hs : List (Hand E K)) (n : ℕ) (front : List E)
    → AllHold maker log drawn holder seat name hs → HasHand hs n front → IsFrontOf maker n front log × (n < drawn)
front_held {E} maker log drawn holder seat name [] n front all h = absurd h
front_held {E} maker log drawn holder seat name (x ∷ hs) n front all h = ⊎_elim
    (λ (a : (x.number ≡ Some n) × (x.front ≡ front)).
    let owns : Owns maker log drawn holder seat front (Some n) = subst (λ (p : List E × Option ℕ). Owns maker log drawn holder seat p.0 p.1) (λ i. (a.1 i, a.0 i)) all.2 in
    let it : IsFrontOf maker n front log = record { begins = subst (λ (l : List E). IsPrefix l log) a.1 all.1; owned = owns.2 } in (it, owns.0))
    (λ a. front_held maker log drawn holder seat name hs n front all.3 a) h

word_at : (ws : List ℕ) (d : ℕ) → get_elem? ws 0 ≡ some d → get_or ws 0 0 ≡ d
word_at [] d e = absurd (some-ne-none d (sym e))
word_at (x ∷ ws) d e = some-injective x d e

module _ {T E K : Type 0} (entries : T → List E) (maker : E → ℕ) (fits : K → T → Type 0) (level : List E → ℕ) where
  pub end_known : (name : K) (id drawn : ℕ) (v : View E K) (ws : List ℕ) (xs : List (Option T)) (slot : Option T) → IsClosing v → Final (Seen (IsSound entries maker fits level name) id v) ws xs
      → get_elem? ws 0 ≡ some drawn → get_elem? xs 0 ≡ some slot → Ended entries maker fits name v drawn slot
  end_known name id drawn v ws xs slot is fin word taken =
      let t : ℕ = turn_in v.stage in
      let s = fin.0 in
      let r = fin.1.0 in
      let f : Tally E = r.tally in
      let known = r.views.each id v fin.1.1 in
      let stands : (t ≡ f.passed) × (0 < f.waiting) × (f.server t ≡ id) × (made_in v.stage ≡ f.drawn) × (id ≡ f.drawer) = subst (Stands f id) is known.stands in
      let same : drawn ≡ f.drawn = sym (word_at ws drawn word) ∙ (ap (λ (l : List ℕ). get_or l 0 0) (sym fin.2) ∙ r.words.drawn_is) in
      ⊎_elim
      (λ (h : (x : T) × (get_elem? s.homes 0 ≡ some (some (Some x))) × (entries x ≡ f.log) × fits name x).
      let out : Ended entries maker fits name v drawn slot = record {
        value = h.0;
        is = some-injective slot (Some h.0) (sym taken ∙ fin.4 0 (Some h.0) h.1);
        fit = h.3;
        all = λ n front a. subst (IsFrontOf maker n front) (sym h.2) (front_held maker f.log f.drawn f.holder id name v.hands n front known.hold a).0;
        below = λ n front a. let inside = (front_held maker f.log f.drawn f.holder id name v.hands n front known.hold a).1 in omega arith;
        made = same ∙ sym stands.3;
        none = λ n le. ap (own maker n) h.2 ∙ r.later n (omega arith);
      } in out)
      (λ (h : (j : ℕ) × (u : View E K) × (get_elem? s.views j ≡ some u) × IsServing u.stage).
      let a : f.server f.passed ≡ h.0 = serving_one f h.0 h.1.stage (r.views.each h.0 h.1 h.2).stands h.3 in
      let b : h.0 ≡ id = sym a ∙ (ap f.server (sym stands.0) ∙ stands.2) in
      let c : h.1 ≡ v = same_at s.views id h.1 v (subst (λ (i : ℕ). get_elem? s.views i ≡ some h.1) b h.2) fin.1.1 in
      let d : IsServing v.stage = subst (λ (u : View E K). IsServing u.stage) c h.3 in
      absurd (subst IsServing is d))
      r.slot
