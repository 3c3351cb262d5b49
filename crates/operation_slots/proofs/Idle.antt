-- The chains of the idle operations after each call.
use Rattle.std.proofs.Common.{◌≡◌, ◌<◌, ◌==◌, ◌&&◌, ℕ, Bool, true, false, not, cond, List, [], ◌∷◌, ◌++◌, map, filter, length, get_or, refl, sym, ap, ◌∙◌, inl, inr}
use Rattle.std.proofs.Math.ListN.{set}
use Rattle.std.specs.List.{AllByRecursion, insert, remove}
use Rattle.std.proofs.lemmas.Bool.{cases_Bool, eqb-true, eq-eqb, ne_eqb}
use Rattle.slot_chain.specs.Table.{without}
use Rattle.slot_chain.specs.Linked.{AllDiffer}
use Rattle.operation_slots.specs.Table.{is_idle, is_of}
use Rattle.operation_slots.specs.Sorted.{in_order}
use Rattle.operation_slots.specs.Boards.{PlacedOperation, place_of, operation_of, stamp_of, is_idle_entry, idle_places}
use Rattle.slot_chain.proofs.Ordering.{remove_is_filter}
use Rattle.operation_slots.proofs.Sorting.{insert_out, remove_out, set_out, set_removed, filter_comm, order_filter, order_inserted, order_set}
use Rattle.operation_slots.proofs.Entries.{map_push, filter_map_is}

module _ {T : Type 0} where
  abbrev uid_of : PlacedOperation T → ℕ
  uid_of e = e.cell.operation.uid

  idle_own : (e : PlacedOperation T) (uid : ℕ) → is_idle (operation_of e) ≡ true → (uid == uid_of e) ≡ true → is_idle_entry uid e ≡ true
  idle_own e uid idle own = rw (eq-eqb (uid_of e) uid (sym (eqb-true uid (uid_of e) own)), idle) refl

  idle_other : (e : PlacedOperation T) (uid : ℕ) → (uid == uid_of e) ≡ false → is_idle_entry uid e ≡ false
  idle_other e uid other = rw (ne_eqb (uid_of e) uid (λ (s : uid_of e ≡ uid). absurd (let t = eq-eqb uid (uid_of e) (sym s) in cc))) refl

  pub busy_entry : (e : PlacedOperation T) (uid : ℕ) → is_idle (operation_of e) ≡ false → is_idle_entry uid e ≡ false
  busy_entry e uid busy = both (is_of uid (operation_of e)) (is_idle (operation_of e)) busy where
    both : (a b : Bool) → b ≡ false → (a && b) ≡ false
    both true b h = h
    both false b h = refl

  -- a new one that is the newest
  pub idle_begun : (es : List (PlacedOperation T)) (i : ℕ) (e : PlacedOperation T) (uid : ℕ) → AllByRecursion (λ x. stamp_of x < stamp_of e) es → is_idle (operation_of e) ≡ true
      → idle_places (insert es i e) uid ≡ cond (uid == uid_of e) (idle_places es uid ++ place_of e ∷ []) (idle_places es uid)
  idle_begun es i e uid newest idle = elim (cases_Bool (uid == uid_of e)) [
    | inl own ↦ rw own (ap (map place_of) (order_inserted stamp_of (is_idle_entry uid) e (idle_own e uid idle own) es i newest) ∙ map_push place_of (in_order stamp_of (filter (is_idle_entry uid) es)) e)
    | inr other ↦ rw other (ap (λ (l : List (PlacedOperation T)). map place_of (in_order stamp_of l)) (insert_out (is_idle_entry uid) es i e (idle_other e uid other)))
  ]

  -- one that was busy is the newest
  pub idle_given : (es : List (PlacedOperation T)) (i : ℕ) (d e : PlacedOperation T) (uid : ℕ) → i < length es → is_idle (operation_of (get_or es i d)) ≡ false → AllByRecursion (λ x. stamp_of x < stamp_of e) es → is_idle (operation_of e) ≡ true
      → idle_places (set es i e) uid ≡ cond (uid == uid_of e) (idle_places es uid ++ place_of e ∷ []) (idle_places es uid)
  idle_given es i d e uid within busy newest idle = elim (cases_Bool (uid == uid_of e)) [
    | inl own ↦ rw own (ap (map place_of) (order_set stamp_of (is_idle_entry uid) e (idle_own e uid idle own) es i d within (busy_entry (get_or es i d) uid busy) newest) ∙ map_push place_of (in_order stamp_of (filter (is_idle_entry uid) es)) e)
    | inr other ↦ rw other (ap (λ (l : List (PlacedOperation T)). map place_of (in_order stamp_of l)) (set_out (is_idle_entry uid) es i d e within (busy_entry (get_or es i d) uid busy) (idle_other e uid other)))
  ]

  -- an idle one that is taken out
  pub idle_removed : (es : List (PlacedOperation T)) (i : ℕ) (d : PlacedOperation T) (place uid : ℕ) → AllDiffer (map place_of es) → i < length es → place_of (get_or es i d) ≡ place
      → idle_places (remove es i) uid ≡ without place (idle_places es uid)
  idle_removed es i d place uid differ within here =
      let q : PlacedOperation T → Bool = λ x. not (place_of x == place) in
      ap (λ (l : List (PlacedOperation T)). map place_of (in_order stamp_of (filter (is_idle_entry uid) l))) (remove_is_filter place_of place es i d differ within here)
      ∙ ap (λ (l : List (PlacedOperation T)). map place_of (in_order stamp_of l)) (filter_comm (is_idle_entry uid) q es)
      ∙ ap (map place_of) (order_filter stamp_of q (filter (is_idle_entry uid) es))
      ∙ sym (filter_map_is place_of (λ p. not (p == place)) (in_order stamp_of (filter (is_idle_entry uid) es)))

  -- an idle one that becomes busy
  pub idle_taken : (es : List (PlacedOperation T)) (i : ℕ) (d e : PlacedOperation T) (place uid : ℕ) → AllDiffer (map place_of es) → i < length es → place_of (get_or es i d) ≡ place → is_idle (operation_of e) ≡ false
      → idle_places (set es i e) uid ≡ without place (idle_places es uid)
  idle_taken es i d e place uid differ within here busy =
      ap (λ (l : List (PlacedOperation T)). map place_of (in_order stamp_of l)) (set_removed (is_idle_entry uid) es i e within (busy_entry e uid busy)) ∙ idle_removed es i d place uid differ within here

  -- a busy one that is taken out, or stays busy
  pub idle_left : (es : List (PlacedOperation T)) (i : ℕ) (d : PlacedOperation T) (uid : ℕ) → i < length es → is_idle (operation_of (get_or es i d)) ≡ false → idle_places (remove es i) uid ≡ idle_places es uid
  idle_left es i d uid within busy = ap (λ (l : List (PlacedOperation T)). map place_of (in_order stamp_of l)) (remove_out (is_idle_entry uid) es i d within (busy_entry (get_or es i d) uid busy))

  pub idle_busy : (es : List (PlacedOperation T)) (i : ℕ) (d e : PlacedOperation T) (uid : ℕ) → i < length es → is_idle (operation_of (get_or es i d)) ≡ false → is_idle (operation_of e) ≡ false → idle_places (set es i e) uid ≡ idle_places es uid
  idle_busy es i d e uid within busy still = ap (λ (l : List (PlacedOperation T)). map place_of (in_order stamp_of l)) (set_out (is_idle_entry uid) es i d e within (busy_entry (get_or es i d) uid busy) (busy_entry e uid still))
