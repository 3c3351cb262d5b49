-- A seat by its view and its slots, and what the steps of a call make of them.
use Rattle.std.proofs.Common.{◌≡◌, ℕ, ◌+◌, ◌%◌, ◌^◌, ◌∷◌, [], ◌++◌, List, take, length, arith, refl, sym, ap, ◌∙◌, subst, Option, Some, None}
use Rattle.atomic_table.specs.Table.{Me, Step, rest}
use Rattle.atomic_table.specs.declared.shared.Seat.{Seat}
use Rattle.turn_lock.specs.declared.view.Stage.{Stage}
use Rattle.turn_lock.specs.declared.view.Stage.TheVariants.{Idle, Makes, Waits, Serves}
use Rattle.turn_lock.specs.declared.view.Hand.{Hand}
use Rattle.turn_lock.specs.declared.view.View.{View}
use Rattle.turn_lock.specs.Views.{posed, view, hand, front_in, number_to, unnumbered, blank, AllNamed, turn_in, log_in}
use Rattle.turn_lock.specs.Steps.{looked, recorded, held, AllSee}
use Rattle.turn_lock.proofs.Prefixes.{take_next}

abbrev Sat : Type 0 → Type 0 → Type 0 → Type 0
Sat T E K = Me (Option T) (View E K)

module _ {E K : Type 0} where
  one_of : (hs : List (Hand E K)) (name : K) (n : ℕ) → length hs ≡ 1 → AllNamed name hs → number_to n hs ≡ hand name (Some n) (front_in hs) ∷ []
  one_of [] name n one named = absurd (omega arith)
  one_of (h ∷ []) name n one named = λ i. hand (named.0 i) (Some n) h.front ∷ []
  one_of (h ∷ k ∷ hs) name n one named = absurd (omega arith)

  bare_of : (hs : List (Hand E K)) (name : K) → length hs ≡ 1 → AllNamed name hs → unnumbered hs ≡ hand name None (front_in hs) ∷ []
  bare_of [] name one named = absurd (omega arith)
  bare_of (h ∷ []) name one named = λ i. hand (named.0 i) None h.front ∷ []
  bare_of (h ∷ k ∷ hs) name one named = absurd (omega arith)

  blank_of : (hs : List (Hand E K)) (name : K) → length hs ≡ 1 → AllNamed name hs → blank hs ≡ hand name None [] ∷ []
  blank_of [] name one named = absurd (omega arith)
  blank_of (h ∷ []) name one named = λ i. hand (named.0 i) None [] ∷ []
  blank_of (h ∷ k ∷ hs) name one named = absurd (omega arith)

module _ {T E K : Type 0} where
  pub is_posed : (s : Seat (Option T) (View E K)) (v : View E K) (carried : List (ℕ × Option T)) → s.me ≡ (v, carried) → s ≡ posed s v carried
  is_posed s v carried e = λ i. record s { me = e i }

  pub pose_of : (s : Seat (Option T) (View E K)) (v : View E K) (carried : List (ℕ × Option T)) → s ≡ posed s v carried → s.me ≡ (v, carried)
  pose_of s v carried e = ap (λ (z : Seat (Option T) (View E K)). z.me) e

  -- what a pass, a turn, a note and a maker have
  pub open_pass : (s : Seat (Option T) (View E K)) (name : K) (n : ℕ) → s ≡ posed s (view Idle (number_to n s.me.0.hands)) [] → length s.me.0.hands ≡ 1 → AllNamed name s.me.0.hands
      → s.me ≡ (view Idle (hand name (Some n) (front_in s.me.0.hands) ∷ []), [])
  open_pass s name n e one named = pose_of s (view Idle (number_to n s.me.0.hands)) [] e ∙ (λ i. (view Idle (one_of s.me.0.hands name n one named i), []))

  pub open_note : (s : Seat (Option T) (View E K)) (name : K) → s ≡ posed s (view Idle (unnumbered s.me.0.hands)) [] → length s.me.0.hands ≡ 1 → AllNamed name s.me.0.hands
      → s.me ≡ (view Idle (hand name None (front_in s.me.0.hands) ∷ []), [])
  open_note s name e one named = pose_of s (view Idle (unnumbered s.me.0.hands)) [] e ∙ (λ i. (view Idle (bare_of s.me.0.hands name one named i), []))

  pub open_maker : (s : Seat (Option T) (View E K)) (name : K) (n : ℕ) → s ≡ posed s (view (Makes n) (blank s.me.0.hands)) [] → length s.me.0.hands ≡ 1 → AllNamed name s.me.0.hands
      → s.me ≡ (view (Makes n) (hand name None [] ∷ []), [])
  open_maker s name n e one named = pose_of s (view (Makes n) (blank s.me.0.hands)) [] e ∙ (λ i. (view (Makes n) (blank_of s.me.0.hands name one named i), []))

  pub open_turn : (s : Seat (Option T) (View E K)) (name : K) (n : ℕ)
      → s ≡ posed s (view (Serves (turn_in s.me.0.stage) (log_in s.me.0.stage)) (number_to n s.me.0.hands)) ((0, None) ∷ []) → length s.me.0.hands ≡ 1 → AllNamed name s.me.0.hands
      → s.me ≡ (view (Serves (turn_in s.me.0.stage) (log_in s.me.0.stage)) (hand name (Some n) (front_in s.me.0.hands) ∷ []), (0, None) ∷ [])
  open_turn s name n e one named = pose_of s (view (Serves (turn_in s.me.0.stage) (log_in s.me.0.stage)) (number_to n s.me.0.hands)) ((0, None) ∷ []) e
      ∙ (λ i. (view (Serves (turn_in s.me.0.stage) (log_in s.me.0.stage)) (one_of s.me.0.hands name n one named i), (0, None) ∷ []))

  -- and what makes them
  pub pose_pass : (s : Seat (Option T) (View E K)) (name : K) (n : ℕ) (front : List E) → s.me ≡ (view Idle (hand name (Some n) front ∷ []), []) → s ≡ posed s (view Idle (number_to n s.me.0.hands)) []
  pose_pass s name n front e = is_posed s (view Idle (number_to n s.me.0.hands)) [] (e ∙ (λ i. (view Idle (number_to n (sym e i).0.hands), [])))

  pub pose_note : (s : Seat (Option T) (View E K)) (name : K) (front : List E) → s.me ≡ (view Idle (hand name None front ∷ []), []) → s ≡ posed s (view Idle (unnumbered s.me.0.hands)) []
  pose_note s name front e = is_posed s (view Idle (unnumbered s.me.0.hands)) [] (e ∙ (λ i. (view Idle (unnumbered (sym e i).0.hands), [])))

  pub pose_maker : (s : Seat (Option T) (View E K)) (name : K) (n : ℕ) → s.me ≡ (view (Makes n) (hand name None [] ∷ []), []) → s ≡ posed s (view (Makes n) (blank s.me.0.hands)) []
  pose_maker s name n e = is_posed s (view (Makes n) (blank s.me.0.hands)) [] (e ∙ (λ i. (view (Makes n) (blank (sym e i).0.hands), [])))

  pub pose_turn : (s : Seat (Option T) (View E K)) (name : K) (n t : ℕ) (log front : List E) → s.me ≡ (view (Serves t log) (hand name (Some n) front ∷ []), (0, None) ∷ [])
      → s ≡ posed s (view (Serves (turn_in s.me.0.stage) (log_in s.me.0.stage)) (number_to n s.me.0.hands)) ((0, None) ∷ [])
  pose_turn s name n t log front e =
      is_posed s (view (Serves (turn_in s.me.0.stage) (log_in s.me.0.stage)) (number_to n s.me.0.hands)) ((0, None) ∷ [])
      (e ∙ (λ i. (view (Serves (turn_in (sym e i).0.stage) (log_in (sym e i).0.stage)) (number_to n (sym e i).0.hands), (0, None) ∷ [])))

  pub single : (m : Sat T E K) (stage : Stage E) (h : Hand E K) (carried : List (ℕ × Option T)) → m ≡ (view stage (h ∷ []), carried) → length m.0.hands ≡ 1
  single m stage h carried e = ap (λ (m : Sat T E K). length m.0.hands) e

  pub all_named : (m : Sat T E K) (stage : Stage E) (h : Hand E K) (carried : List (ℕ × Option T)) → m ≡ (view stage (h ∷ []), carried) → AllNamed h.name m.0.hands
  all_named m stage h carried e = subst (λ (m : Sat T E K). AllNamed h.name m.0.hands) (sym e) (refl, tt)

  -- the seat has the slot
  pub has_slot : (m : Sat T E K) (v : View E K) (y : Option T) → m ≡ (v, (0, y) ∷ []) → m.1 ≡ (0, y) ∷ rest m.1
  has_slot m v y e = ap (λ (z : Sat T E K). z.1) e ∙ (λ i. (0, y) ∷ rest (sym e i).1)

  -- what an exchange found there
  pub found : (m : Sat T E K) (v : View E K) (x y : Option T) → m ≡ (v, (0, y) ∷ []) → m.1 ≡ (0, x) ∷ rest m.1 → x ≡ y
  found m v x y e f = let both : (0, x) ∷ rest m.1 ≡ (0, y) ∷ [] = sym f ∙ ap (λ (z : Sat T E K). z.1) e in ap (λ (l : List (ℕ × Option T)). first y l) both
    where
      first : Option T → List (ℕ × Option T) → Option T
      first d [] = d
      first d (z ∷ zs) = z.1

  -- the seat after an exchange
  pub put_in : (m m' : Sat T E K) (v : View E K) (x y : Option T) → m ≡ (v, (0, y) ∷ []) → m' ≡ (m.0, (0, x) ∷ rest m.1) → m' ≡ (v, (0, x) ∷ [])
  put_in m m' v x y e f = f ∙ (λ i. ((e i).0, (0, x) ∷ rest (e i).1))

  pub took : (entries : T → List E) (maker : E → ℕ) (fits : K → T → Type 0) (st : Step (Option T)) (m m' : Sat T E K) (n t : ℕ) (hs : List (Hand E K)) → m ≡ (view (Waits t) hs, []) → n ≡ t % 2 ^ 64
      → looked entries maker fits st m n m' → (x : T) × (m' ≡ (view (Serves t (entries x)) hs, (0, Some x) ∷ [])) × AllSee entries maker fits x hs
  took entries maker fits st m m' n t hs e h l = (subst (λ (z : Sat T E K). looked entries maker fits st z n m') e l).0 h

  pub waits_on : (entries : T → List E) (maker : E → ℕ) (fits : K → T → Type 0) (st : Step (Option T)) (m m' : Sat T E K) (n t : ℕ) (hs : List (Hand E K)) → m ≡ (view (Waits t) hs, []) → (n ≡ t % 2 ^ 64 → ⊥)
      → looked entries maker fits st m n m' → m' ≡ m
  waits_on entries maker fits st m m' n t hs e h l = l.1 (λ z. h (z ∙ ap (λ (y : Sat T E K). turn_in y.0.stage % 18446744073709551616) e))

  -- one entry was counted
  pub counted_one : (entries : T → List E) (m m' : Sat T E K) (t : ℕ) (number : Option ℕ) (log front : List E) (name : K) (x : T) (e : E) (es : List E)
      → m ≡ (view (Serves t log) (hand name number front ∷ []), (0, Some x) ∷ []) → entries x ≡ log ++ e ∷ es → m' ≡ (recorded (held entries m.1) m.0, m.1)
      → m' ≡ (view (Serves t (log ++ e ∷ [])) (hand name number (log ++ e ∷ []) ∷ []), (0, Some x) ∷ [])
  counted_one entries m m' t number log front name x e es is grown f =
      let built : take (length log + 1) (entries x) ≡ log ++ e ∷ [] = ap (take (length log + 1)) grown ∙ take_next log e es in
      f ∙ ((λ i. (recorded (held entries (is i).1) (is i).0, (is i).1)) ∙ (λ i. (view (Serves t (built i)) (hand name number (built i) ∷ []), (0, Some x) ∷ [])))
