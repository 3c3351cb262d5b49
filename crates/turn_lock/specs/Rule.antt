-- The one rule of a lock's table.
-- Word 0 counts the numbers of passes that were drawn, word 1 is the next turn, word 2 the turn that is served, word 3
-- counts the entries of the history, and word 4 is the highest level of it that was told. Slot 0 has the value. Turns go on
-- without a bound, and their words go round at 2^64.
use Rattle.std.specs.Prelude.{◌≡◌, ◌⊎◌, ℕ, ◌+◌, ◌%◌, ◌^◌, ◌<◌, ◌≤◌, List, [], ◌∷◌, length, slice_index, filter, eqb, Option, Some, None}
use mathlib.Core.Option.{some}
use mathlib.Core.Option as maybe
use mathlib.Core.List.{IsPrefix}
use lib.ListN.{get_elem?}
use Rattle.atomic_table.specs.Table.{State}
use Rattle.turn_lock.specs.declared.view.Stage.{Stage}
use Rattle.turn_lock.specs.declared.view.Stage.TheVariants.{Idle, Makes, Waits, Serves, Closes, Ends}
use Rattle.turn_lock.specs.declared.view.Hand.{Hand}
use Rattle.turn_lock.specs.declared.view.View.{View}
use Rattle.turn_lock.specs.Views.{turns_of, turn_in, made_in, IsServing, numbers_in, turns, numbers}

-- the entries that the pass n made, in their order
abbrev pub own : {E : Type 0} → (E → ℕ) → ℕ → List E → List E
own maker n entries = filter (λ e. eqb (maker e) n) entries

-- f of each, added up
abbrev pub total : {A : Type 0} → (A → ℕ) → List A → ℕ
total f [] = 0
total f (x ∷ xs) = f x + total f xs

-- What the rule says there is
pub record Tally (E : Type 0) : Type 0 where
  -- the history
  pub log : List E
  -- how many numbers of passes were drawn, how many turns were passed, and how many seats have a turn
  pub drawn : ℕ
  pub passed : ℕ
  pub waiting : ℕ
  -- the seat that may draw numbers, the one that drew a turn, and the one that has a pass's number
  pub drawer : ℕ
  pub server : ℕ → ℕ
  pub holder : ℕ → ℕ

-- what is true of where a seat stands
abbrev pub Stands : {E : Type 0} → Tally E → ℕ → Stage E → Type 0
Stands f seat Idle = Unit {0}
Stands f seat (Makes k) = (k ≡ f.drawn) × (seat ≡ f.drawer)
Stands f seat (Waits t) = (f.passed ≤ t) × (t < f.passed + f.waiting) × (f.server t ≡ seat)
Stands f seat (Serves t log) = (t ≡ f.passed) × (0 < f.waiting) × (f.server t ≡ seat) × (log ≡ f.log)
Stands f seat (Closes t) = (t ≡ f.passed) × (0 < f.waiting) × (f.server t ≡ seat)
Stands f seat (Ends t k) = (t ≡ f.passed) × (0 < f.waiting) × (f.server t ≡ seat) × (k ≡ f.drawn) × (seat ≡ f.drawer)

module _ {E : Type 0} (maker : E → ℕ) (log : List E) (drawn : ℕ) (holder : ℕ → ℕ) (seat : ℕ) where
  -- a hand without a number made nothing; a numbered one has seen all that its pass made
  abbrev pub Owns : List E → Option ℕ → Type 0
  Owns front None = Unit {0}
  Owns front (Some n) = (n < drawn) × (holder n ≡ seat) × (own maker n front ≡ own maker n log)

  -- what is true of the hands of a seat: their fronts begin the history
  abbrev pub AllHold : {K : Type 0} → K → List (Hand E K) → Type 0
  AllHold name [] = Unit {0}
  AllHold name (h ∷ hs) = (h.name ≡ name) × IsPrefix h.front log × Owns h.front h.number × AllHold name hs

-- what is true of the view of a seat
pub record Knows {E K : Type 0} (maker : E → ℕ) (name : K) (f : Tally E) (seat : ℕ) (v : View E K) : Type 0 where
  -- it has a turn only where it has a number
  pub may : turns_of v.stage ≤ numbers_in v.hands
  pub stands : Stands f seat v.stage
  pub hold : AllHold maker f.log f.drawn f.holder seat name v.hands

-- the words, as the tally has them
pub record WordsAre {E : Type 0} (f : Tally E) (words : List ℕ) : Type 0 where
  pub wide : length words ≡ 5
  pub drawn_is : slice_index words 0 ≡ f.drawn
  pub next_is : slice_index words 1 ≡ (f.passed + f.waiting) % 2 ^ 64
  pub served_is : slice_index words 2 ≡ f.passed % 2 ^ 64
  pub count_is : slice_index words 3 ≡ length f.log

-- the views, as the tally has them
pub record ViewsAre {E K : Type 0} (maker : E → ℕ) (name : K) (f : Tally E) (views : List (View E K)) : Type 0 where
  -- each number that was drawn is in one hand, and each turn is one seat's
  pub drawn_by : f.drawn ≡ total numbers views
  pub waiting_by : f.waiting ≡ total turns views
  pub each : (seat : ℕ) (v : View E K) → get_elem? views seat ≡ some v → Knows maker name f seat v

-- the value is in its slot with the whole history, or it is out with the seat that is served
abbrev pub IsKept : {T E K : Type 0} → (T → List E) → (K → T → Type 0) → K → List E → List (maybe.Option (Option T)) → List (View E K) → Type 0
IsKept {T} {E} {K} entries fits name log homes views =
    ((x : T) × (get_elem? homes 0 ≡ some (some (Some x))) × (entries x ≡ log) × fits name x)
    ⊎ ((seat : ℕ) × (v : View E K) × (get_elem? views seat ≡ some v) × IsServing v.stage)

-- The rule
pub record IsSound {T E K : Type 0} (entries : T → List E) (maker : E → ℕ) (fits : K → T → Type 0) (level : List E → ℕ) (name : K) (s : State (Option T) (View E K)) : Type 0 where
  pub tally : Tally E
  pub words : WordsAre tally s.words
  pub few : tally.drawn < 2 ^ 64
  -- the level that was told is at most the history's
  pub told : slice_index s.words 4 ≤ level tally.log
  -- no entry has a number that was not drawn
  pub later : (n : ℕ) → tally.drawn ≤ n → own maker n tally.log ≡ []
  pub views : ViewsAre maker name tally s.views
  pub slot : IsKept entries fits name tally.log s.homes s.views

-- the seat's turn is served for good, and no other seat may draw a number
abbrev pub IsClosing : {E K : Type 0} → View E K → Type 0
IsClosing v = v.stage ≡ Ends (turn_in v.stage) (made_in v.stage)
