-- What contracts say of a lock, its passes and its turns. Clauses of other crates have these words and no field.
use Rattle.std.specs.Prelude.{◌≡◌, ℕ, List, [], ◌∷◌, Option, Some}
use Rattle.atomic_table.specs.Seated.{TableId}
use Rattle.turn_lock.specs.declared.lock.Locked.{Locked}
use Rattle.turn_lock.specs.declared.lock.LockPass.{LockPass}
use Rattle.turn_lock.specs.declared.lock.Turn.{Turn}
use Rattle.turn_lock.specs.declared.lock.Note.{Note}
use Rattle.turn_lock.specs.declared.lock.LastTurn.{LastTurn}
use Rattle.turn_lock.specs.declared.lock.Maker.{Maker}
use Rattle.turn_lock.specs.declared.view.View.{View}
use Rattle.atomic_table.specs.declared.shared.Seat.{Seat}
use Rattle.turn_lock.specs.declared.view.Stage.TheVariants.{Serves}
use Rattle.turn_lock.specs.Views.{hand, view, front_in, turn_in, made_in, log_in, AllNamed}
use Rattle.turn_lock.specs.Rule.{IsClosing}
use Rattle.turn_lock.specs.Fronts.{IsFrontOf, HasHand}

-- ---- a lock

module _ {S V K P : Type 0} where
  -- which lock it is: no other has the same
  abbrev pub lock_id : Locked S V K P → TableId
  lock_id lock = lock.table.shared.table_id

  -- the name that it was opened with
  abbrev pub name_of : Locked S V K P → K
  name_of lock = lock.name

-- the last turn of a lock, of which `Closing` is an alias
abbrev pub Closing : Type 0 → Type 0 → Type 0 → Type 0
Closing T E K = LastTurn (Option T) (View E K)

-- what the seat of a last turn knows, and which lock it is of
module _ {S V : Type 0} where
  abbrev pub view_of : LastTurn S V → V
  view_of closing = closing.seat.me.0

  abbrev pub closing_lock : LastTurn S V → TableId
  closing_lock closing = closing.seat.table_id

-- ---- what was seen

module _ {T E K : Type 0} where
  abbrev pub number_of : LockPass T E K → ℕ
  number_of pass = pass.number

  -- the lock that a pass is of, as `lock_id` tells it
  abbrev pub pass_lock : LockPass T E K → TableId
  pass_lock pass = pass.seat.table_id

  -- the front of the history that a pass has seen
  abbrev pub front : LockPass T E K → List E
  front pass = front_in pass.seat.me.0.hands

  abbrev pub note_front : Note T E K → List E
  note_front note = front_in note.seat.me.0.hands

  abbrev pub turn_number : Turn T E K → ℕ
  turn_number turn = turn.number

  -- the history when the turn came
  abbrev pub seen : Turn T E K → List E
  seen turn = log_in turn.seat.me.0.stage

  -- what its pass had seen before
  abbrev pub front_before : Turn T E K → List E
  front_before turn = front_in turn.seat.me.0.hands

  -- how many passes were made
  abbrev pub made_of : Maker T E K → ℕ
  made_of maker = maker.made

  -- how many passes were made, as the last turn knows it
  abbrev pub made_before : Closing T E K → ℕ
  made_before closing = made_in closing.seat.me.0.stage

-- ---- which lock they are of

module _ {T E K : Type 0} where
  -- of the lock with this identity and name
  pub record IsPassAt (lock : TableId) (name : K) (pass : LockPass T E K) : Type 0 where
    pub here : pass.seat.table_id ≡ lock
    pub named : AllNamed name pass.seat.me.0.hands

  pub record IsNoteAt (lock : TableId) (name : K) (note : Note T E K) : Type 0 where
    pub here : note.seat.table_id ≡ lock
    pub named : AllNamed name note.seat.me.0.hands

  pub record IsMakerAt (lock : TableId) (name : K) (maker : Maker T E K) : Type 0 where
    pub here : maker.seat.table_id ≡ lock
    pub named : AllNamed name maker.seat.me.0.hands

  pub record IsTurnAt (maker : E → ℕ) (lock : TableId) (name : K) (turn : Turn T E K) : Type 0 where
    pub here : turn.seat.table_id ≡ lock
    pub named : AllNamed name turn.seat.me.0.hands
    pub before : IsFrontOf maker turn.number (front_before turn) (seen turn)

  -- the seat of a turn that is still served, with the value in its slot
  abbrev pub HasPutBack : K → Turn T E K → T → Seat (Option T) (View E K) → Type 0
  HasPutBack name turn value seat =
      seat.me ≡ (view (Serves (turn_in turn.seat.me.0.stage) (seen turn)) (hand name (Some turn.number) (front_before turn) ∷ []), (0, Some value) ∷ [])

  -- the last turn of that lock
  pub record IsClosingAt (lock : TableId) (closing : Closing T E K) : Type 0 where
    pub here : closing.seat.table_id ≡ lock
    pub closes : IsClosing closing.seat.me.0

  -- the closing has taken the pass in
  abbrev pub Took : Closing T E K → LockPass T E K → Type 0
  Took closing pass = HasHand closing.seat.me.0.hands pass.number (front pass)

module _ {S V T E K P : Type 0} where
  -- of this lock
  abbrev pub IsPassOf : Locked S V K P → LockPass T E K → Type 0
  IsPassOf lock pass = IsPassAt (lock_id lock) (name_of lock) pass

  abbrev pub IsNoteOf : Locked S V K P → Note T E K → Type 0
  IsNoteOf lock note = IsNoteAt (lock_id lock) (name_of lock) note

  abbrev pub IsMakerOf : Locked S V K P → Maker T E K → Type 0
  IsMakerOf lock maker = IsMakerAt (lock_id lock) (name_of lock) maker

  abbrev pub IsTurnOf : (E → ℕ) → Locked S V K P → Turn T E K → Type 0
  IsTurnOf maker lock turn = IsTurnAt maker (lock_id lock) (name_of lock) turn

  abbrev pub IsClosingOf : Locked S V K P → Closing T E K → Type 0
  IsClosingOf lock closing = IsClosingAt (lock_id lock) closing
