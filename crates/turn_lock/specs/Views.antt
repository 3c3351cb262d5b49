-- Views, and what stands in them.
use Rattle.std.specs.Prelude.{◌≡◌, ◌+◌, ℕ, List, [], ◌∷◌, Option, Some, None}
use Rattle.atomic_table.specs.declared.badge.Badge.{Badge}
use Rattle.atomic_table.specs.declared.shared.Seat.{Seat}
use Rattle.turn_lock.specs.declared.view.Stage.{Stage}
use Rattle.turn_lock.specs.declared.view.Stage.TheVariants.{Idle, Makes, Waits, Serves, Closes, Ends}
use Rattle.turn_lock.specs.declared.view.Hand.{Hand}
use Rattle.turn_lock.specs.declared.view.View.{View}

module _ {E : Type 0} where
  -- whether the seat has a turn
  abbrev pub turns_of : Stage E → ℕ
  turns_of Idle = 0
  turns_of (Makes k) = 0
  turns_of (Waits t) = 1
  turns_of (Serves t log) = 1
  turns_of (Closes t) = 1
  turns_of (Ends t k) = 1

  -- the value is out with the seat
  abbrev pub IsServing : Stage E → Type 0
  IsServing Idle = ⊥
  IsServing (Makes k) = ⊥
  IsServing (Waits t) = ⊥
  IsServing (Serves t log) = Unit {0}
  IsServing (Closes t) = ⊥
  IsServing (Ends t k) = ⊥

  abbrev pub turn_in : Stage E → ℕ
  turn_in Idle = 0
  turn_in (Makes k) = 0
  turn_in (Waits t) = t
  turn_in (Serves t log) = t
  turn_in (Closes t) = t
  turn_in (Ends t k) = t

  abbrev pub made_in : Stage E → ℕ
  made_in Idle = 0
  made_in (Makes k) = k
  made_in (Waits t) = 0
  made_in (Serves t log) = 0
  made_in (Closes t) = 0
  made_in (Ends t k) = k

  abbrev pub log_in : Stage E → List E
  log_in Idle = []
  log_in (Makes k) = []
  log_in (Waits t) = []
  log_in (Serves t log) = log
  log_in (Closes t) = []
  log_in (Ends t k) = []

-- a hand counts where it has a number
abbrev pub count_in : Option ℕ → ℕ
count_in None = 0
count_in (Some n) = 1

module _ {E K : Type 0} where
  abbrev pub hand : K → Option ℕ → List E → Hand E K
  hand name number front = record { name = name; number = number; front = front }

  abbrev pub view : Stage E → List (Hand E K) → View E K
  view stage hands = record { stage = stage; hands = hands }

  -- how many of the hands have a number
  abbrev pub numbers_in : List (Hand E K) → ℕ
  numbers_in [] = 0
  numbers_in (h ∷ hs) = count_in h.number + numbers_in hs

  abbrev pub turns : View E K → ℕ
  turns v = turns_of v.stage

  abbrev pub numbers : View E K → ℕ
  numbers v = numbers_in v.hands

  -- the front of the first hand
  abbrev pub front_in : List (Hand E K) → List E
  front_in [] = []
  front_in (h ∷ hs) = h.front

  -- the hands, with this front or this number for the first
  abbrev pub front_to : List E → List (Hand E K) → List (Hand E K)
  front_to front [] = []
  front_to front (h ∷ hs) = hand h.name h.number front ∷ hs

  abbrev pub number_to : ℕ → List (Hand E K) → List (Hand E K)
  number_to n [] = []
  number_to n (h ∷ hs) = hand h.name (Some n) h.front ∷ hs

  -- the first hand alone, without its number
  abbrev pub unnumbered : List (Hand E K) → List (Hand E K)
  unnumbered [] = []
  unnumbered (h ∷ hs) = hand h.name None h.front ∷ []

  -- the first hand alone, as it was before it had a number or saw an entry
  abbrev pub blank : List (Hand E K) → List (Hand E K)
  blank [] = []
  blank (h ∷ hs) = hand h.name None [] ∷ []

  -- all hands have this name
  abbrev pub AllNamed : K → List (Hand E K) → Type 0
  AllNamed name [] = Unit {0}
  AllNamed name (h ∷ hs) = (h.name ≡ name) × AllNamed name hs

  -- the view of the first seat: it may draw numbers, and has a hand without one
  abbrev pub first_view : K → View E K
  first_view name = view (Makes 0) (hand name None [] ∷ [])

-- the seat with this view, and with these slots in hand
abbrev pub posed : {T E K : Type 0} → Seat (Option T) (View E K) → View E K → List (ℕ × Option T) → Seat (Option T) (View E K)
posed seat v carried = record seat { me = (v, carried) }

-- the hands of the one view of a badge, and the badge with this view
abbrev pub hands_of : {E K : Type 0} → List (View E K) → List (Hand E K)
hands_of [] = []
hands_of (v ∷ vs) = v.hands

abbrev pub badged : {E K : Type 0} → Badge (View E K) → View E K → Badge (View E K)
badged badge v = record badge { views = v ∷ [] }
