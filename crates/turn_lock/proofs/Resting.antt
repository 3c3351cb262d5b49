-- A seat and its badge have the same view.
use Rattle.std.proofs.Common.{◌≡◌, ℕ, [], ◌∷◌, List, length, ap, sym, ◌∙◌, Option}
use Rattle.atomic_table.specs.declared.badge.Badge.{Badge}
use Rattle.atomic_table.specs.declared.shared.Seat.{Seat}
use Rattle.turn_lock.specs.declared.view.Stage.{Stage}
use Rattle.turn_lock.specs.declared.view.Hand.{Hand}
use Rattle.turn_lock.specs.declared.view.View.{View}
use Rattle.turn_lock.specs.Views.{view, posed, badged, hands_of}
use Rattle.turn_lock.proofs.Posing.{is_posed, pose_of}

views_of : {E K : Type 0} (b : Badge (View E K)) (v : View E K) → b ≡ badged b v → b.views ≡ v ∷ []
views_of {E} {K} b v e = ap (λ (z : Badge (View E K)). z.views) e

module _ {T E K : Type 0} where
  -- a seat that is posed gives a badge that is
  pub badge_of : (s : Seat (Option T) (View E K)) (b : Badge (View E K)) (stage : Stage E) (change : List (Hand E K) → List (Hand E K)) → s ≡ posed s (view stage (change s.me.0.hands)) []
      → b.views ≡ s.me.0 ∷ [] → b ≡ badged b (view stage (change (hands_of b.views)))
  badge_of s b stage change is e =
      let now : s.me.0 ≡ view stage (change s.me.0.hands) = ap (λ (m : View E K × List (ℕ × Option T)). m.0) (pose_of s (view stage (change s.me.0.hands)) [] is) in
      let hands : s.me.0.hands ≡ hands_of b.views = ap hands_of (sym e) in
      let all : b.views ≡ view stage (change (hands_of b.views)) ∷ [] = e ∙ ((λ i. now i ∷ []) ∙ (λ i. view stage (change (hands i)) ∷ [])) in
      λ i. record b { views = all i }

  pub badge_single : (s : Seat (Option T) (View E K)) (b : Badge (View E K)) → length s.me.0.hands ≡ 1 → b.views ≡ s.me.0 ∷ [] → length (hands_of b.views) ≡ 1
  badge_single s b one e = ap (λ (vs : List (View E K)). length (hands_of vs)) e ∙ one

  -- and the other way round
  pub seat_of : (s : Seat (Option T) (View E K)) (b : Badge (View E K)) (stage : Stage E) (change : List (Hand E K) → List (Hand E K)) → b ≡ badged b (view stage (change (hands_of b.views)))
      → b.views ≡ s.me.0 ∷ [] → s.me.1 ≡ [] → s ≡ posed s (view stage (change s.me.0.hands)) []
  seat_of s b stage change is e none =
      let both : s.me.0 ∷ [] ≡ view stage (change (hands_of b.views)) ∷ [] = sym e ∙ views_of b (view stage (change (hands_of b.views))) is in
      let now : s.me.0 ≡ view stage (change (hands_of b.views)) = ap (λ (vs : List (View E K)). first s.me.0 vs) both in
      let hands : hands_of b.views ≡ s.me.0.hands = ap hands_of e in
      is_posed s (view stage (change s.me.0.hands)) [] ((λ i. (now i, none i)) ∙ (λ i. (view stage (change (hands i)), [])))
    where
      first : View E K → List (View E K) → View E K
      first d [] = d
      first d (v ∷ vs) = v

  pub seat_single : (s : Seat (Option T) (View E K)) (b : Badge (View E K)) → length (hands_of b.views) ≡ 1 → b.views ≡ s.me.0 ∷ [] → length s.me.0.hands ≡ 1
  seat_single s b one e = ap (λ (vs : List (View E K)). length (hands_of vs)) (sym e) ∙ one
