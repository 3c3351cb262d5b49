-- What each step tells the seat that makes it: of the step, the seat before, the number found and the seat after.
use Rattle.std.specs.Prelude.{◌≡◌, ◌≢◌, ℕ, ◌+◌, ◌%◌, ◌^◌, ◌≤◌, List, [], ◌∷◌, ◌++◌, length, take, if◌then◌else◌, Option, Some, None}
use Rattle.std.proofs.Common.{leb}
use mathlib.Core.List.{IsPrefix}
use Rattle.atomic_table.specs.Table.{Me, Step, rest}
use Rattle.turn_lock.specs.declared.view.Stage.TheVariants.{Idle, Makes, Waits, Serves, Closes, Ends}
use Rattle.turn_lock.specs.declared.view.Hand.{Hand}
use Rattle.turn_lock.specs.declared.view.View.{View}
use Rattle.turn_lock.specs.Views.{view, hand, turn_in, made_in, log_in, number_to, front_to, unnumbered}
use Rattle.turn_lock.specs.Rule.{own}

-- all that the pass made is in its front
abbrev pub IsOwned : {E : Type 0} → (E → ℕ) → List E → List E → Option ℕ → Type 0
IsOwned maker log front None = Unit {0}
IsOwned maker log front (Some n) = own maker n front ≡ own maker n log

-- each hand's front begins the history of the value, which is one of the hand's name
abbrev pub AllSee : {T E K : Type 0} → (T → List E) → (E → ℕ) → (K → T → Type 0) → T → List (Hand E K) → Type 0
AllSee entries maker fits x [] = Unit {0}
AllSee entries maker fits x (h ∷ hs) =
    fits h.name x × IsPrefix h.front (entries x) × IsOwned maker (entries x) h.front h.number × AllSee entries maker fits x hs

abbrev pub entries_of : {T E : Type 0} → (T → List E) → Option T → List E
entries_of entries None = []
entries_of entries (Some x) = entries x

-- the history of the value that the seat has in its slot
abbrev pub held : {T E : Type 0} → (T → List E) → List (ℕ × Option T) → List E
held entries [] = []
held entries (x ∷ xs) = entries_of entries x.1

abbrev pub longer : {E : Type 0} → List E → List E → List E
longer xs ys = if leb (length xs) (length ys) then ys else xs

module _ {E K : Type 0} where
  -- one entry more of the history `entries` is counted
  abbrev pub recorded : List E → View E K → View E K
  recorded entries v =
      let log = take (length (log_in v.stage) + 1) entries in view (Serves (turn_in v.stage) log) (front_to log v.hands)

  -- ---- what a seat that is cut in two keeps, and what the new seat has

  abbrev pub kept_part : View E K → View E K
  kept_part v = view Idle v.hands

  abbrev pub heir_part : View E K → View E K
  heir_part v = view v.stage (unnumbered v.hands)

  abbrev pub note_part : View E K → View E K
  note_part v = view Idle (unnumbered v.hands)

  -- ---- what a seat has that takes in another, and what is left of the other

  abbrev pub gathered : View E K → View E K → View E K
  gathered v w = view v.stage (v.hands ++ w.hands)

  -- a seat whose turn is served for good takes in the one that may draw numbers
  abbrev pub completed : View E K → View E K → View E K
  completed v w = view (Ends (turn_in v.stage) (made_in w.stage)) (v.hands ++ w.hands)

  abbrev pub nobody : View E K
  nobody = view Idle []

  -- ---- two hands of one seat

  -- the first hand takes the longer front, and the second is let go
  abbrev pub compare : List (Hand E K) → List (Hand E K)
  compare [] = []
  compare (x ∷ []) = x ∷ []
  compare (x ∷ y ∷ hs) = hand x.name x.number (longer x.front y.front) ∷ []

  -- both fronts begin the longer one, and it has no more of the first hand's own
  abbrev pub BothBegin : (E → ℕ) → List (Hand E K) → Type 0
  BothBegin maker [] = Unit {0}
  BothBegin maker (x ∷ []) = Unit {0}
  BothBegin maker (x ∷ y ∷ hs) =
      IsPrefix x.front (longer x.front y.front) × IsPrefix y.front (longer x.front y.front)
      × IsOwned maker (longer x.front y.front) x.front x.number

-- the first hand's front begins the history, which has no more of its own
abbrev pub FirstBegins : {E K : Type 0} → (E → ℕ) → List E → List (Hand E K) → Type 0
FirstBegins maker log [] = Unit {0}
FirstBegins maker log (h ∷ hs) = IsPrefix h.front log × IsOwned maker log h.front h.number

abbrev At : Type 0 → Type 0
At T = Step (Option T)

abbrev Sat : Type 0 → Type 0 → Type 0 → Type 0
Sat T E K = Me (Option T) (View E K)

module _ {T E K : Type 0} where
  -- the seat has drawn the next number of a pass
  abbrev pub numbered : At T → Sat T E K → ℕ → Sat T E K → Type 0
  numbered st m n m' = (n ≡ made_in m.0.stage) × (m' ≡ (view (Makes (n + 1)) (number_to n m.0.hands), m.1))

  -- the seat has drawn a turn, of which the number found is the word
  abbrev pub drew : At T → Sat T E K → ℕ → Sat T E K → Type 0
  drew st m n m' = (t : ℕ) × (n ≡ t % 2 ^ 64) × (m' ≡ (view (Waits t) m.0.hands, m.1))

  -- where the number found is the word that was asked for, the seat has drawn that turn; else all is as it was
  abbrev pub drew_if : At T → Sat T E K → ℕ → Sat T E K → Type 0
  drew_if st m n m' = (n ≡ st.first → drew st m n m') × (n ≢ st.first → m' ≡ m)

  -- where the number found is the seat's turn, the seat has the slot with the value; else all is as it was
  abbrev pub looked : (T → List E) → (E → ℕ) → (K → T → Type 0) → At T → Sat T E K → ℕ → Sat T E K → Type 0
  looked entries maker fits st m n m' =
      (n ≡ turn_in m.0.stage % 2 ^ 64
      → (x : T) × (m' ≡ (view (Serves (turn_in m.0.stage) (entries x)) m.0.hands, (0, Some x) ∷ m.1)) × AllSee entries maker fits x m.0.hands)
      × (n ≢ turn_in m.0.stage % 2 ^ 64 → m' ≡ m)

  -- one entry more of the value in the slot is in the history
  abbrev pub counted : (T → List E) → At T → Sat T E K → ℕ → Sat T E K → Type 0
  counted entries st m n m' = m' ≡ (recorded (held entries m.1) m.0, m.1)

  -- the turn is passed, and the slot given back
  abbrev pub left : At T → Sat T E K → ℕ → Sat T E K → Type 0
  left st m n m' = m' ≡ (view Idle m.0.hands, rest m.1)

  -- the same, and the front is the whole history
  abbrev pub left_seeing : At T → Sat T E K → ℕ → Sat T E K → Type 0
  left_seeing st m n m' = m' ≡ (view Idle (front_to (log_in m.0.stage) m.0.hands), rest m.1)

  -- the slot is given back, and the turn is not passed on
  abbrev pub closed : At T → Sat T E K → ℕ → Sat T E K → Type 0
  closed st m n m' = m' ≡ (view (Closes (turn_in m.0.stage)) m.0.hands, rest m.1)

  -- of two hands the first has the longer front
  abbrev pub compared : (E → ℕ) → At T → Sat T E K → ℕ → Sat T E K → Type 0
  compared maker st m n m' = (m' ≡ (view m.0.stage (compare m.0.hands), m.1)) × BothBegin maker m.0.hands

  -- the front is the whole history, whose level is at least the number found
  abbrev pub caught_up : (E → ℕ) → (List E → ℕ) → At T → Sat T E K → ℕ → Sat T E K → Type 0
  caught_up maker level st m n m' = (log : List E) × (n ≤ level log) × (m' ≡ (view m.0.stage (front_to log m.0.hands), m.1)) × FirstBegins maker log m.0.hands

  -- a level is told; the seat knows what it knew
  abbrev pub told : At T → Sat T E K → ℕ → Sat T E K → Type 0
  told st m n m' = m' ≡ m
