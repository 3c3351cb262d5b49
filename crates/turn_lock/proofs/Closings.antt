-- The hands of a seat that took in another.
use Rattle.std.proofs.Common.{◌≡◌, ℕ, List, [], ◌∷◌, ◌++◌, sym, subst, inl, inr, ⊎_elim, Option}
use Rattle.atomic_table.specs.Table.{Me}
use Rattle.turn_lock.specs.declared.view.Hand.{Hand}
use Rattle.turn_lock.specs.declared.view.View.{View}
use Rattle.turn_lock.specs.Fronts.{HasHand}

module _ {E K : Type 0} where
  pub has_before : (hs ks : List (Hand E K)) (n : ℕ) (front : List E) → HasHand hs n front → HasHand (hs ++ ks) n front
  has_before [] ks n front h = absurd h
  has_before (x ∷ hs) ks n front h = ⊎_elim (λ a. inl a) (λ a. inr (has_before hs ks n front a)) h

  pub has_behind : (hs ks : List (Hand E K)) (n : ℕ) (front : List E) → HasHand ks n front → HasHand (hs ++ ks) n front
  has_behind [] ks n front h = h
  has_behind (x ∷ hs) ks n front h = inr (has_behind hs ks n front h)

-- a seat with this view
pub has_in : {T E K : Type 0} (m : Me (Option T) (View E K)) (v : View E K) (carried : List (ℕ × Option T)) (n : ℕ) (front : List E) → m ≡ (v, carried) → HasHand v.hands n front
    → HasHand m.0.hands n front
has_in {T} {E} {K} m v carried n front e h = subst (λ (x : Me (Option T) (View E K)). HasHand x.0.hands n front) (sym e) h
