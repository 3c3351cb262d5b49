-- The board as contracts see it, and what an answer says of what was found.
use Rattle.std.proofs.Common.{◌≡◌, ◌<◌, ◌≤◌, ◌==◌, nat_lt, ℕ, Bool, true, cond, if◌then◌else◌, List, length, find, count_by, All, Option, Some, None, OnSome, IfNone, option_map, refl, sym, ap, ◌∙◌, arith}
use Rattle.std.specs.List.{list_any}
use Rattle.std.proofs.lemmas.Bool.{lt-ltb}
use Rattle.slot_chain.specs.Table.{list_in, has_place}
use Rattle.operation_slots.specs.declared.board.SlotBoard.{SlotBoard}
use Rattle.operation_slots.specs.declared.operation.SlotOperation.{SlotOperation}
use Rattle.operation_slots.specs.declared.operation.Taken.{Taken}
use Rattle.operation_slots.specs.Counted.{count_in, total}
use Rattle.operation_slots.specs.Table.{IsSound, MatchTaken, has_number, is_idle_of, is_of, idle_value, is_busy, made_busy, taken, without}
use Rattle.operation_slots.specs.Boards.{IsKept, entries_of, operations_on, seen}
use Rattle.operation_slots.proofs.Keeping.{later_without, one_fewer}
use Rattle.operation_slots.proofs.Lists.{found_without}
use Rattle.operation_slots.proofs.Entries.{count_operations}
use Rattle.operation_slots.proofs.Boards.{open_is}
use Rattle.operation_slots.proofs.OldestIdle.{chain_has}

module _ {T : Type 0} where
  module _ (board : SlotBoard T) (kept : IsKept board) where
    pub open_seen : length (operations_on board) ≡ length board.index.items
    open_seen = open_is board.cells.items board.index.items board.free.items board.counts board.idle board.capacity kept.linked

    pub count_seen : (uid : ℕ) → count_in board.counts uid ≡ count_by (is_of uid) (operations_on board)
    count_seen uid = kept.linked.counts_are uid ∙ sym (count_operations (is_of uid) (entries_of board))

    pub all_seen : total board.counts ≡ length (operations_on board)
    all_seen = kept.linked.all ∙ sym open_seen

    owner_seen : (uid : ℕ) → has_place (list_in board.idle uid) ≡ list_any (is_idle_of uid) (operations_on board)
    owner_seen uid = ap has_place (kept.linked.idle_are uid) ∙ chain_has (entries_of board) uid

    pub sound_seen : IsSound (seen board)
    sound_seen = record {
      numbers = kept.held.numbers;
      stamps = kept.held.stamps;
      some = kept.held.some;
      few = omega (arith, kept.held.few);
      within = kept.held.within;
      owners = λ uid. kept.linked.idle_sound.owners uid ∙ ap (λ (b : Bool). cond {A = ℕ} b 1 0) (owner_seen uid);
    }

  -- ---- what the answer of `take` says

  by_value : (p : SlotOperation T) (v : Option T) → p.value ≡ v → MatchTaken (taken (Some p)) (λ value. (idle_value (Some p) ≡ Some value) × (is_busy (option_map made_busy (Some p)) ≡ true)) (is_busy (Some p) ≡ true) (Some p ≡ None)
  by_value p None e = rw e refl
  by_value p (Some v) e = rw e (refl, refl)

  pub cases_of : (o after : Option (SlotOperation T)) (r : Taken T) → r ≡ taken o → after ≡ option_map made_busy o → MatchTaken r (λ value. (idle_value o ≡ Some value) × (is_busy after ≡ true)) (is_busy o ≡ true) (o ≡ None)
  cases_of None after r e a = rw e refl
  cases_of (Some o) after r e a = rw e (rw a (by_value o o.value refl))

  -- ---- what the answer of `close` says

  pub found_closed : (r : Option T) (xs ys : List (SlotOperation T)) (n : ℕ) → OnSome r (ys ≡ without n xs) → OnSome r ((m : ℕ) → find (has_number m) ys ≡ (if m == n then None else find (has_number m) xs))
  found_closed None xs ys n some = tt
  found_closed (Some v) xs ys n some = λ m. rw some (found_without n xs m)

  pub later_closed : (r : Option T) (xs ys : List (SlotOperation T)) (n next : ℕ) → OnSome r (ys ≡ without n xs) → IfNone r (ys ≡ xs) → All (λ o. o.stamp < next) xs → All (λ o. o.stamp < next) ys
  later_closed None xs ys n next some none h = rw none h
  later_closed (Some v) xs ys n next some none h = rw some (later_without n xs next h)

  pub room_closed : (r : Option T) (xs ys : List (SlotOperation T)) (capacity n : ℕ) → length xs ≤ capacity → r ≡ idle_value (find (has_number n) xs) → OnSome r (ys ≡ without n xs) → OnSome r (nat_lt (length ys) capacity ≡ true)
  room_closed None xs ys capacity n within value some = tt
  room_closed (Some v) xs ys capacity n within value some = rw some (lt-ltb _ _ (omega (arith, one_fewer n xs v (sym value), within)))
