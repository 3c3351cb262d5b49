-- What contracts say of passes, notes and makers at rest.
use Rattle.std.proofs.Common.{◌≡◌, ℕ, List, [], ◌∷◌, length, sym, ◌∙◌, arith}
use Rattle.atomic_table.specs.Seated.{TableId}
use Rattle.turn_lock.specs.declared.lock.Locked.{Locked}
use Rattle.turn_lock.specs.declared.lock.RestingPass.{RestingPass}
use Rattle.turn_lock.specs.declared.lock.RestingMaker.{RestingMaker}
use Rattle.turn_lock.specs.declared.lock.RestingNote.{RestingNote}
use Rattle.turn_lock.specs.declared.view.Hand.{Hand}
use Rattle.turn_lock.specs.Views.{AllNamed, front_in, hands_of}
use Rattle.turn_lock.specs.Passes.{lock_id, name_of}

module _ {E K : Type 0} where
  abbrev pub resting_number : RestingPass E K → ℕ
  resting_number pass = pass.number

  -- the front of the history that it has seen
  abbrev pub resting_front : RestingPass E K → List E
  resting_front pass = front_in (hands_of pass.badge.views)

  abbrev pub resting_note_front : RestingNote E K → List E
  resting_note_front note = front_in (hands_of note.badge.views)

  abbrev pub resting_made : RestingMaker E K → ℕ
  resting_made maker = maker.made

  -- of the lock with this identity and name
  pub record IsRestingPassAt (lock : TableId) (name : K) (pass : RestingPass E K) : Type 0 where
    pub here : pass.badge.table_id ≡ lock
    pub named : AllNamed name (hands_of pass.badge.views)

  pub record IsRestingNoteAt (lock : TableId) (name : K) (note : RestingNote E K) : Type 0 where
    pub here : note.badge.table_id ≡ lock
    pub named : AllNamed name (hands_of note.badge.views)

  pub record IsRestingMakerAt (lock : TableId) (name : K) (maker : RestingMaker E K) : Type 0 where
    pub here : maker.badge.table_id ≡ lock
    pub named : AllNamed name (hands_of maker.badge.views)

module _ {S V E K P : Type 0} where
  -- of this lock
  abbrev pub IsRestingPassOf : Locked S V K P → RestingPass E K → Type 0
  IsRestingPassOf lock pass = IsRestingPassAt (lock_id lock) (name_of lock) pass

  abbrev pub IsRestingNoteOf : Locked S V K P → RestingNote E K → Type 0
  IsRestingNoteOf lock note = IsRestingNoteAt (lock_id lock) (name_of lock) note

  abbrev pub IsRestingMakerOf : Locked S V K P → RestingMaker E K → Type 0
  IsRestingMakerOf lock maker = IsRestingMakerAt (lock_id lock) (name_of lock) maker

-- a pass at rest has one name
pub one_name : {E K : Type 0} (pass : RestingPass E K) (lock other : TableId) (a b : K) → IsRestingPassAt lock a pass → IsRestingPassAt other b pass → a ≡ b
one_name {E} {K} pass lock other a b at there = of_hands (hands_of pass.badge.views) pass.single at.named there.named
  where
    none : ◌≡◌ {A = ℕ} 0 1 → ⊥
    none e = omega arith

    of_hands : (hands : List (Hand E K)) → length hands ≡ 1 → AllNamed a hands → AllNamed b hands → a ≡ b
    of_hands [] one p q = absurd (none one)
    of_hands (h ∷ hs) one p q = sym p.0 ∙ q.0
