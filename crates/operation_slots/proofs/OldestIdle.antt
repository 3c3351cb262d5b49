-- The first place of a chain is that of the oldest idle operation of its uid.
use Rattle.std.proofs.Common.{◌≡◌, ◌<◌, ◌≤◌, ℕ, suc, Bool, true, false, List, [], ◌∷◌, map, filter, length, get_or, find, Option, Some, None, option_map, refl, sym, ap, ◌∙◌, subst, arith, inl, inr}
use Rattle.std.specs.List.{AllByRecursion, list_any, slice_get}
use Rattle.std.proofs.lemmas.Bool.{cases_Bool}
use Rattle.std.proofs.lemmas.List.{get_or_default}
use Rattle.slot_chain.specs.Table.{ChainTable, list_in, has_place}
use Rattle.operation_slots.specs.declared.cells.Cell.{Cell}
use Rattle.operation_slots.specs.declared.index.Numbered.{Numbered}
use Rattle.operation_slots.specs.Counted.{CountTable}
use Rattle.operation_slots.specs.Table.{has_number, is_idle_of, IsOldestAmong}
use Rattle.operation_slots.specs.Sorted.{in_order}
use Rattle.operation_slots.specs.Boards.{PlacedOperation, IsLinked, cell_at, entry, entries, place_of, operation_of, number_of, stamp_of, operations_in, idle_places, is_idle_entry}
use Rattle.operation_slots.proofs.Sorting.{Rises, rises_in_order, all_in_order, in_order_all, any_in_order}
use Rattle.operation_slots.proofs.Entries.{all_operations, any_operation, found_operation}
use Rattle.operation_slots.proofs.Boards.{numbers_differ, length_entries, found_entry, place_within, number_is, entry_is}

module _ {A : Type 0} where
  all_of_each : (P : A → Type 0) (xs : List A) → ((i : ℕ) (d : A) → i < length xs → P (get_or xs i d)) → AllByRecursion P xs
  all_of_each P [] h = tt
  all_of_each P (x ∷ xs) h = (h 0 x (omega arith), all_of_each P xs (λ i d l. h (suc i) d (omega arith)))

  any_left : (p : A → Bool) (xs : List A) → list_any (λ _. true) (filter p xs) ≡ list_any p xs
  any_left p [] = refl
  any_left p (x ∷ xs) = elim (cases_Bool (p x)) [ inl e ↦ rw e refl | inr e ↦ rw e (any_left p xs) ]

  all_passing : (p : A → Bool) (P : A → Type 0) (xs : List A) → AllByRecursion P (filter p xs) → AllByRecursion (λ x. p x ≡ true → P x) xs
  all_passing p P [] h = tt
  all_passing p P (x ∷ xs) h = elim (cases_Bool (p x)) [
    | inl e ↦ (let k = rw e at h in ((λ _. k.0), all_passing p P xs k.1))
    | inr e ↦ (let k = rw e at h in ((λ (t : p x ≡ true). absurd cc), all_passing p P xs k))
  ]

  passing : (p : A → Bool) (P : A → Type 0) (xs : List A) → AllByRecursion P xs → AllByRecursion (λ x. P x × (p x ≡ true)) (filter p xs)
  passing p P [] h = tt
  passing p P (x ∷ xs) h = elim (cases_Bool (p x)) [
    | inl e ↦ rw e ((h.0, e), passing p P xs h.1)
    | inr e ↦ rw e (passing p P xs h.1)
  ]

module _ {T : Type 0} where
  -- a uid's chain has a place where the uid has an idle operation
  pub chain_has : (es : List (PlacedOperation T)) (uid : ℕ) → has_place (idle_places es uid) ≡ list_any (is_idle_of uid) (operations_in es)
  chain_has es uid = by_list (in_order stamp_of (filter (is_idle_entry uid) es)) ∙ any_in_order stamp_of (λ _. true) (filter (is_idle_entry uid) es) ∙ any_left (is_idle_entry uid) es ∙ sym (any_operation (is_idle_of uid) es) where
    by_list : (ys : List (PlacedOperation T)) → has_place (map place_of ys) ≡ list_any (λ _. true) ys
    by_list [] = refl
    by_list (y ∷ ys) = refl

  pub record IsFirst (cells : List (Cell T)) (es : List (PlacedOperation T)) (uid place : ℕ) : Type 0 where
    pub within : place < length cells
    pub oldest : IsOldestAmong (operations_in es) uid (cell_at cells place).operation.number (cell_at cells place).operation.stamp

  module _ (cells : List (Cell T)) (index : List Numbered) (free : List ℕ) (counts : CountTable) (idle : ChainTable) (capacity : ℕ) (kept : IsLinked cells index free counts idle capacity) (uid : ℕ) where
    abbrev IsThere : PlacedOperation T → Type 0
    IsThere x = (cell_at cells x.place ≡ x.cell) × (x.place < length cells) × (find (has_number (number_of x)) (operations_in (entries cells index)) ≡ Some (operation_of x))

    each_there : AllByRecursion IsThere (entries cells index)
    each_there = all_of_each IsThere (entries cells index) (λ i d l. at_index i d (omega (arith, l, length_entries cells index free counts idle capacity kept))) where
      at_index : (i : ℕ) (d : PlacedOperation T) → i < length index → IsThere (get_or (entries cells index) i d)
      at_index i d l =
          let row : Numbered = get_or index i (record { number = 0; place = 0 }) in
          let row_is : row ≡ get_or index i row = get_or_default index i (record { number = 0; place = 0 }) row l in
          let is = entry_is cells index free counts idle capacity kept i row l row_is d in
          let found = found_operation row.number (entries cells index) (numbers_differ cells index free counts idle capacity kept) ∙ ap (option_map operation_of) (found_entry cells index free counts idle capacity kept i row l row_is) in
          subst IsThere (sym is) (refl, place_within cells index free counts idle capacity kept i row l row_is, subst (λ (n : ℕ). find (has_number n) (operations_in (entries cells index)) ≡ Some (operation_of (entry cells row))) (number_is cells index free counts idle capacity kept i row l row_is) found)

    pub none_left : None ≡ slice_get (list_in idle uid) 0 → list_any (is_idle_of uid) (operations_in (entries cells index)) ≡ false
    none_left none = sym (chain_has (entries cells index) uid) ∙ sym (ap has_place (kept.idle_are uid)) ∙ by_list (list_in idle uid) none where
      by_list : (ps : List ℕ) → None ≡ slice_get ps 0 → has_place ps ≡ false
      by_list [] e = refl
      by_list (p ∷ ps) e = absurd (let no : ◌≡◌ {A = Option ℕ} None (Some p) = e in cc)

    first_of : (place : ℕ) (ys : List (PlacedOperation T)) → ys ≡ in_order stamp_of (filter (is_idle_entry uid) (entries cells index)) → AllByRecursion (λ x. IsThere x × (is_idle_entry uid x ≡ true)) ys → Some place ≡ slice_get (map place_of ys) 0 → IsFirst cells (entries cells index) uid place
    first_of place [] is all e = absurd (let no : ◌≡◌ {A = Option ℕ} (Some place) None = e in cc)
    first_of place (y ∷ ys) is all e =
        let here : place ≡ y.place = (let both : ◌≡◌ {A = Option ℕ} (Some place) (Some y.place) = e in cc) in
        let there = all.0.0 in
        let cell_is : cell_at cells place ≡ y.cell = ap (cell_at cells) here ∙ there.0 in
        let least : AllByRecursion (λ x. stamp_of y ≤ stamp_of x) (y ∷ ys) = ((omega arith), (subst (Rises stamp_of) (sym is) (rises_in_order stamp_of (filter (is_idle_entry uid) (entries cells index)))).0) in
        let of_all = all_passing (is_idle_entry uid) (λ x. stamp_of y ≤ stamp_of x) (entries cells index) (in_order_all stamp_of (λ x. stamp_of y ≤ stamp_of x) (filter (is_idle_entry uid) (entries cells index)) (subst (AllByRecursion (λ x. stamp_of y ≤ stamp_of x)) is least)) in
        record {
          within = rw here there.1;
          oldest = rw cell_is (record {
            operation = operation_of y;
            found = there.2;
            idle = all.0.1;
            stamp_is = refl;
            oldest = all_operations (λ o. is_idle_of uid o ≡ true → stamp_of y ≤ o.stamp) (entries cells index) of_all;
          });
        }

    pub first_is : (place : ℕ) → Some place ≡ slice_get (list_in idle uid) 0 → IsFirst cells (entries cells index) uid place
    first_is place e = first_of place (in_order stamp_of (filter (is_idle_entry uid) (entries cells index))) refl
        (all_in_order stamp_of (λ x. IsThere x × (is_idle_entry uid x ≡ true)) (filter (is_idle_entry uid) (entries cells index)) (passing (is_idle_entry uid) IsThere (entries cells index) each_there))
        (e ∙ ap (λ (l : List ℕ). slice_get l 0) (kept.idle_are uid))
