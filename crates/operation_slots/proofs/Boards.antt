-- What each call on the board keeps, and what it makes of the operations.
use Rattle.std.proofs.Common.{◌≡◌, ◌≢◌, ◌<◌, ◌≤◌, ◌+◌, ◌-◌, ◌==◌, ◌||◌, ℕ, zero, suc, Bool, true, false, not, cond, List, [], ◌∷◌, ◌++◌, map, filter, length, get_or, find, count_by, All, Option, Some, None, option_map, is_some, refl, sym, ap, ◌∙◌, subst, arith, inl, inr}
use Rattle.std.proofs.Math.ListN.{set}
use Rattle.std.specs.List.{AllByRecursion, insert, remove, list_any, slice_get}
use Rattle.std.proofs.lemmas.List.{length-map, set-get_or, length_push}
use Rattle.std.proofs.lemmas.List.Edits.{length-insert, length-remove}
use Rattle.std.proofs.lemmas.List.Sums.{sum_by-append, sum_by-set, sum_by-insert, sum_by-remove}
use Rattle.std.proofs.lemmas.Bool.{cases_Bool, eqb-true, eq-eqb, ne_eqb}
use Rattle.slot_chain.specs.Ordered.{IsAt, IsGap}
use Rattle.slot_chain.specs.Table.{ChainTable, list_in, places_count, Pushes, Unlinks, without as without_place, IsInNone, IsInOne, is_in}
use Rattle.slot_chain.specs.Table as chains
use Rattle.slot_chain.proofs.Ordering.{rising_differ, found_at, found_in_gap, none_named, not_found, rising_inserted, rising_removed, keys_set, set_is_change, remove_is_filter}
use Rattle.operation_slots.specs.declared.operation.SlotOperation.{SlotOperation}
use Rattle.operation_slots.specs.declared.cells.Cell.{Cell}
use Rattle.operation_slots.specs.declared.index.Numbered.{Numbered}
use Rattle.operation_slots.specs.Counted.{CountTable, count_in, Raises, Lowers}
use Rattle.slot_chain.specs.Linked.{NoneIs, AllDiffer}
use Rattle.operation_slots.specs.Table.{has_number, is_idle, with_change, without, made_busy, given_back}
use Rattle.operation_slots.specs.Sorted.{in_order}
use Rattle.operation_slots.specs.Boards.{PlacedOperation, Lays, PutsCell, IsLinked, cell_at, times, entry, entries, place_of, operation_of, number_of, stamp_of, begun_of, BeganBefore, index_number, index_place, operations_in, idle_places, is_idle_entry, is_entry_of, taken_cell, given_cell}
use Rattle.operation_slots.proofs.Sorting.{all_filter, all_in_order, any_in_order, all_at, order_filter, order_map, order_inserted}
use Rattle.std.proofs.lemmas.Option.{slice_get-get_or}
use Rattle.operation_slots.proofs.Entries.{map_insert, map_remove, map_at, any_map, map_push, filter_map_is, all_pass, all_put, all_less, all_over, one_if, none_if, none_of_times, times_at, differ_of_times, once_at_most, once_within, put_there, put_other, entries_inserted, entries_set, entries_removed, places_are, all_entries, found_operation, length_operations}
use Rattle.operation_slots.proofs.Idle.{idle_begun, idle_given, idle_removed, idle_taken, idle_left, idle_busy}

-- what is left out of a list of places is in no chain
none_left : (ks : List ℕ) (i d p : ℕ) → AllDiffer ks → i < length ks → get_or ks i d ≡ p → NoneIs p (remove ks i)
none_left [] i d p differ l e = absurd (omega arith)
none_left (k ∷ ks) zero d p differ l e = subst (λ (n : ℕ). NoneIs n ks) e differ.0
none_left (k ∷ ks) (suc i) d p differ l e = (apart k ks i differ.0 (omega arith) e, none_left ks i d p differ.1 (omega arith) e) where
  apart : (m : ℕ) (js : List ℕ) (j : ℕ) → NoneIs m js → j < length js → get_or js j d ≡ p → m ≢ p
  apart m [] j none l' e' = absurd (omega arith)
  apart m (h ∷ hs) zero none l' e' = λ (q : m ≡ p). none.0 (e' ∙ sym q)
  apart m (h ∷ hs) (suc j) none l' e' = apart m hs j none.1 (omega arith) e'

pub times_more : (n p : ℕ) (ks : List ℕ) → times n (ks ++ p ∷ []) ≡ times n ks + cond (p == n) 1 0
times_more n p ks = omega (arith, sum_by-append (λ k. cond {A = ℕ} (k == n) 1 0) ks (p ∷ []))

module _ {T : Type 0} where
  count_set : (p : PlacedOperation T → Bool) (es : List (PlacedOperation T)) (i : ℕ) (d e : PlacedOperation T) → i < length es → p e ≡ p (get_or es i d) → count_by p (set es i e) ≡ count_by p es
  count_set p es i d e within same = omega (arith, sum_by-set (λ x. cond (p x) 1 0) es i e d within, ap (λ (b : Bool). cond {A = ℕ} b 1 0) same)

  abbrev BeganFirst : ℕ → PlacedOperation T → Type 0
  BeganFirst stamp e = stamp_of e < stamp

  began_first : (stamp : ℕ) (es : List (PlacedOperation T)) → AllByRecursion BeganBefore es → AllByRecursion (BeganFirst stamp) es → AllByRecursion (λ e. begun_of e < stamp) es
  began_first stamp [] h k = tt
  began_first stamp (e ∷ es) h k = ((let one : begun_of e ≤ stamp_of e = h.0 in let two : stamp_of e < stamp = k.0 in omega arith), began_first stamp es h.1 k.1)

  -- the operations with a change of the one of this number
  pub changed_operations : (n : ℕ) (f : PlacedOperation T → PlacedOperation T) (g : SlotOperation T → SlotOperation T) → ((e : PlacedOperation T) → begun_of (f e) ≡ begun_of e) → ((e : PlacedOperation T) → operation_of (f e) ≡ g (operation_of e)) → (es : List (PlacedOperation T))
      → operations_in (map (λ e. cond (number_of e == n) (f e) e) es) ≡ with_change n g (operations_in es)
  changed_operations n f g same is es = ap (map operation_of) (order_map begun_of (λ e. cond (number_of e == n) (f e) e) kept es) ∙ mapped (in_order begun_of es) where
    kept : (e : PlacedOperation T) → begun_of (cond (number_of e == n) (f e) e) ≡ begun_of e
    kept e = elim (cases_Bool (number_of e == n)) [ inl b ↦ rw b (same e) | inr b ↦ rw b refl ]

    one : (e : PlacedOperation T) → operation_of (cond (number_of e == n) (f e) e) ≡ cond (has_number n (operation_of e)) (g (operation_of e)) (operation_of e)
    one e = elim (cases_Bool (number_of e == n)) [ inl b ↦ rw b (is e) | inr b ↦ rw b refl ]

    mapped : (xs : List (PlacedOperation T)) → map operation_of (map (λ e. cond (number_of e == n) (f e) e) xs) ≡ with_change n g (map operation_of xs)
    mapped [] = refl
    mapped (x ∷ xs) = (λ i. one x i ∷ mapped xs i)

  pub fewer_operations : (p : SlotOperation T → Bool) (es : List (PlacedOperation T)) → operations_in (filter (λ e. p (operation_of e)) es) ≡ filter p (operations_in es)
  fewer_operations p es = ap (map operation_of) (order_filter begun_of (λ e. p (operation_of e)) es) ∙ sym (filter_map_is operation_of p (in_order begun_of es))

  none_all : (p : ℕ) (xs : List (PlacedOperation T)) → NoneIs p (map place_of xs) → AllByRecursion (λ x. place_of x ≢ p) xs
  none_all p [] h = tt
  none_all p (x ∷ xs) h = (h.0, none_all p xs h.1)

  all_none : (p : ℕ) (xs : List (PlacedOperation T)) → AllByRecursion (λ x. place_of x ≢ p) xs → NoneIs p (map place_of xs)
  all_none p [] h = tt
  all_none p (x ∷ xs) h = (h.0, all_none p xs h.1)

  none_idle : (p uid : ℕ) (xs : List (PlacedOperation T)) → NoneIs p (map place_of xs) → NoneIs p (idle_places xs uid)
  none_idle p uid xs h = all_none p (in_order stamp_of (filter (is_idle_entry uid) xs)) (all_in_order stamp_of (λ x. place_of x ≢ p) (filter (is_idle_entry uid) xs) (all_filter (λ x. place_of x ≢ p) (is_idle_entry uid) xs (none_all p xs h)))

  any_kept : (p q : PlacedOperation T → Bool) (xs : List (PlacedOperation T)) (i : ℕ) (d : PlacedOperation T) → i < length xs → p (get_or xs i d) ≡ true → q (get_or xs i d) ≡ true → list_any q (filter p xs) ≡ true
  any_kept p q [] i d l a b = absurd (omega arith)
  any_kept p q (x ∷ xs) zero d l a b = rw (a, b) refl
  any_kept p q (x ∷ xs) (suc i) d l a b = elim (cases_Bool (p x)) [
    | inl k ↦ rw k (or_true (q x) (list_any q (filter p xs)) (any_kept p q xs i d (omega arith) a b))
    | inr k ↦ rw k (any_kept p q xs i d (omega arith) a b)
  ] where
    or_true : (m n : Bool) → n ≡ true → (m || n) ≡ true
    or_true true n h = refl
    or_true false n h = h

  module _ (cells : List (Cell T)) (index : List Numbered) (free : List ℕ) (counts : CountTable) (idle : ChainTable) (capacity : ℕ) (kept : IsLinked cells index free counts idle capacity) where
    es : List (PlacedOperation T)
    es = entries cells index

    pub numbers_differ : AllDiffer (map number_of (entries cells index))
    numbers_differ = subst AllDiffer (sym kept.named) (rising_differ (map index_number index) kept.order)

    places_differ : AllDiffer (map index_place index)
    places_differ = differ_of_times (map index_place index) (λ n. omega (arith, kept.apart n, once_at_most n (length cells)))

    entries_differ : AllDiffer (map place_of (entries cells index))
    entries_differ = subst AllDiffer (sym (places_are cells index)) places_differ

    pub length_entries : length (entries cells index) ≡ length index
    length_entries = length-map index (entry cells)

    pub open_is : length (operations_in (entries cells index)) ≡ length index
    open_is = length_operations (entries cells index) ∙ length_entries

    -- ---- what the index finds

    pub absent : (n at : ℕ) → IsGap index_number index n at → find (has_number n) (operations_in (entries cells index)) ≡ None
    absent n at gap = found_operation n (entries cells index) numbers_differ
        ∙ ap (option_map operation_of) (not_found number_of n (entries cells index) (subst (NoneIs n) (sym kept.named) (none_named index_number n index (found_in_gap index_number index n at gap))))

    module _ (at : ℕ) (row : Numbered) (within : at < length index) (row_is : row ≡ get_or index at row) where
      place_is : get_or (map index_place index) at 0 ≡ row.place
      place_is = map_at index_place index at row 0 within ∙ ap index_place (sym row_is)

      stands : 0 < times row.place (map index_place index)
      stands = times_at row.place (map index_place index) at 0 (omega (arith, within, length-map index index_place)) place_is

      pub place_within : row.place < length cells
      place_within = once_within row.place (length cells) (omega (arith, kept.apart row.place, stands))

      pub not_free : times row.place free ≡ 0
      not_free = omega (arith, kept.apart row.place, stands, once_at_most row.place (length cells))

      entry_within : at < length (entries cells index)
      entry_within = omega (arith, within, length_entries)

      pub entry_is : (d : PlacedOperation T) → get_or (entries cells index) at d ≡ entry cells row
      entry_is d = map_at (entry cells) index at row d within ∙ ap (entry cells) (sym row_is)

      pub number_is : row.number ≡ number_of (entry cells row)
      number_is = ap index_number row_is ∙ sym (map_at index_number index at row 0 within) ∙ ap (λ (l : List ℕ). get_or l at 0) (sym kept.named) ∙ map_at number_of (entries cells index) at (entry cells row) 0 entry_within ∙ ap number_of (entry_is (entry cells row))

      pub present : (n : ℕ) → IsAt index_number index n at → find (has_number n) (operations_in (entries cells index)) ≡ Some (operation_of (entry cells row))
      present n here =
          let named : number_of (entry cells row) ≡ n = sym number_is ∙ ap index_number row_is ∙ here.named row in
          let there : IsAt number_of (entries cells index) n at = record { within = entry_within; named = λ d. ap number_of (entry_is d) ∙ named } in
          found_operation n (entries cells index) numbers_differ ∙ ap (option_map operation_of) (found_at number_of (entries cells index) n at (entry cells row) numbers_differ there ∙ ap (λ (e : PlacedOperation T). Some e) (entry_is (entry cells row)))

      -- ---- a change of its cell

      module _ (later : List (Cell T)) (cell : Cell T) (size : length later ≡ length cells) (puts : PutsCell cells later row.place cell) (idle' : ChainTable) where
        changed : entries later index ≡ set (entries cells index) at (record { place = row.place; cell = cell })
        changed = entries_set cells later row.place cell puts index at row places_differ within (ap index_place (sym row_is))

        -- what is kept where number, uid and begin stay
        linked_changed : number_of (record { place = row.place; cell = cell }) ≡ number_of (entry cells row) → cell.operation.uid ≡ (cell_at cells row.place).operation.uid → BeganBefore (record { place = row.place; cell = cell })
            → ((uid : ℕ) → list_in idle' uid ≡ idle_places (set (entries cells index) at (record { place = row.place; cell = cell })) uid) → chains.IsSound idle' → places_count idle' ≡ places_count idle
            → IsLinked later index free counts idle' capacity
        linked_changed number uid began chain sound room = record {
          order = kept.order;
          named = ap (map number_of) changed ∙ keys_set number_of (entries cells index) at (entry cells row) (record { place = row.place; cell = cell }) entry_within (ap number_of (entry_is (entry cells row)) ∙ sym number) ∙ kept.named;
          apart = λ n. rw size (kept.apart n);
          spare = λ n some. ap (λ (c : Cell T). c.operation.value) (put_other cells later row.place cell puts n (λ (e : n ≡ row.place). omega (arith, some, not_free, ap (λ (m : ℕ). times m free) e))) ∙ kept.spare n some;
          rest = kept.rest ∙ sym size;
          cells_few = omega (arith, kept.cells_few, size);
          begun = rw changed (all_over BeganBefore (entries cells index) at (record { place = row.place; cell = cell }) began kept.begun);
          counts_are = λ other. kept.counts_are other ∙ sym (ap (count_by (is_entry_of other)) changed ∙ count_set (is_entry_of other) (entries cells index) at (entry cells row) (record { place = row.place; cell = cell }) entry_within (ap (λ (m : ℕ). m == other) (uid ∙ ap (λ (x : PlacedOperation T). x.cell.operation.uid) (sym (entry_is (entry cells row))))));
          all = kept.all;
          idle_are = λ other. chain other ∙ sym (ap (λ (l : List (PlacedOperation T)). idle_places l other) changed);
          idle_sound = sound;
          idle_room = room ∙ kept.idle_room;
        }

      -- what is read at its place of the index
      pub slice_is : slice_get (entries cells index) at ≡ Some (entry cells row)
      slice_is = slice_get-get_or (entries cells index) at (entry cells row) entry_within ∙ ap (λ (e : PlacedOperation T). Some e) (entry_is (entry cells row))

      pub read_at : (e : PlacedOperation T) → slice_get (entries cells index) at ≡ Some e → entry cells row ≡ e
      read_at e h = let both : ◌≡◌ {A = Option (PlacedOperation T)} (Some (entry cells row)) (Some e) = sym slice_is ∙ h in cc

      pub found_entry : find (λ e. number_of e == row.number) (entries cells index) ≡ Some (entry cells row)
      found_entry =
          let there : IsAt number_of (entries cells index) row.number at = record { within = entry_within; named = λ d. ap number_of (entry_is d) ∙ sym number_is } in
          found_at number_of (entries cells index) row.number at (entry cells row) numbers_differ there ∙ ap (λ (e : PlacedOperation T). Some e) (entry_is (entry cells row))

      began_here : BeganBefore (entry cells row)
      began_here = subst BeganBefore (entry_is (entry cells row)) (all_at BeganBefore (entries cells index) at (entry cells row) entry_within kept.begun)

      -- ---- its value is taken out

      module _ (later : List (Cell T)) (size : length later ≡ length cells) (puts : PutsCell cells later row.place (taken_cell (cell_at cells row.place))) where
        busy_now : PlacedOperation T
        busy_now = record { place = row.place; cell = taken_cell (cell_at cells row.place) }

        pub operations_taken : (n : ℕ) → row.number ≡ n → operations_in (entries later index) ≡ with_change n made_busy (operations_in (entries cells index))
        unfolding busy_now
        operations_taken n named =
            let f : PlacedOperation T → PlacedOperation T = λ e. record { place = e.place; cell = taken_cell e.cell } in
            ap operations_in (changed later (taken_cell (cell_at cells row.place)) size puts idle
            ∙ ap (set (entries cells index) at) (sym (ap f (entry_is (entry cells row))))
            ∙ set_is_change number_of n f (entries cells index) at (entry cells row) numbers_differ entry_within (ap number_of (entry_is (entry cells row)) ∙ sym number_is ∙ named))
            ∙ changed_operations n f made_busy (λ e. refl) (λ e. refl) (entries cells index)

        pub linked_taken : (idle' : ChainTable) → Unlinks idle idle' row.place → chains.IsSound idle' → IsLinked later index free counts idle' capacity
        linked_taken idle' unlinks sound = linked_changed later (taken_cell (cell_at cells row.place)) size puts idle' refl refl began_here
            (λ uid. unlinks.lists uid ∙ ap (without_place row.place) (kept.idle_are uid) ∙ sym (idle_taken (entries cells index) at (entry cells row) (record { place = row.place; cell = taken_cell (cell_at cells row.place) }) row.place uid entries_differ entry_within (ap place_of (entry_is (entry cells row))) refl))
            sound unlinks.places

        -- a busy one stays so
        module _ (busy : (cell_at cells row.place).operation.value ≡ None) where
          is_busy_entry : is_idle (operation_of (get_or (entries cells index) at (entry cells row))) ≡ false
          is_busy_entry = ap (λ (e : PlacedOperation T). is_idle (operation_of e)) (entry_is (entry cells row)) ∙ ap (λ (v : Option T). is_some v) busy

          pub linked_busy : IsLinked later index free counts idle capacity
          linked_busy = linked_changed later (taken_cell (cell_at cells row.place)) size puts idle refl refl began_here
              (λ uid. kept.idle_are uid ∙ sym (idle_busy (entries cells index) at (entry cells row) (record { place = row.place; cell = taken_cell (cell_at cells row.place) }) uid entry_within is_busy_entry refl)) kept.idle_sound refl

          pub operations_same : operations_in (entries later index) ≡ operations_in (entries cells index)
          operations_same = ap operations_in (changed later (taken_cell (cell_at cells row.place)) size puts idle
              ∙ ap (λ (v : Option T). set (entries cells index) at (record { place = row.place; cell = record { begun = (cell_at cells row.place).begun; operation = record (cell_at cells row.place).operation { value = v } } })) (sym busy)
              ∙ ap (set (entries cells index) at) (sym (entry_is (entry cells row))) ∙ set-get_or (entries cells index) at (entry cells row))

      -- an idle one is in a chain
      pub in_chain : is_idle (cell_at cells row.place).operation ≡ true → IsInOne idle row.place
      in_chain idles =
          let uid = (cell_at cells row.place).operation.uid in
          let passes : is_idle_entry uid (get_or (entries cells index) at (entry cells row)) ≡ true = ap (is_idle_entry uid) (entry_is (entry cells row)) ∙ rw (eq-eqb uid uid refl, idles) refl in
          let there : (place_of (get_or (entries cells index) at (entry cells row)) == row.place) ≡ true = eq-eqb _ _ (ap place_of (entry_is (entry cells row))) in (
            uid,
            ap (is_in row.place) (kept.idle_are uid) ∙ any_map place_of (λ p. p == row.place) (in_order stamp_of (filter (is_idle_entry uid) (entries cells index)))
                ∙ any_in_order stamp_of (λ e. place_of e == row.place) (filter (is_idle_entry uid) (entries cells index))
                ∙ any_kept (is_idle_entry uid) (λ e. place_of e == row.place) (entries cells index) at (entry cells row) entry_within passes there,
          )

      -- a busy one is in none
      pub in_no_chain : (cell_at cells row.place).operation.value ≡ None → IsInNone idle row.place
      in_no_chain busy uid =
          let left : is_idle (operation_of (get_or (entries cells index) at (entry cells row))) ≡ false = ap (λ (e : PlacedOperation T). is_idle (operation_of e)) (entry_is (entry cells row)) ∙ ap (λ (v : Option T). is_some v) busy in
          let places : map place_of (remove (entries cells index) at) ≡ remove (map place_of (entries cells index)) at = map_remove place_of (entries cells index) at in
          let gone : NoneIs row.place (map place_of (remove (entries cells index) at)) = subst (NoneIs row.place) (sym places)
          (none_left (map place_of (entries cells index)) at 0 row.place entries_differ (omega (arith, entry_within, length-map (entries cells index) place_of)) (map_at place_of (entries cells index) at (entry cells row) 0 entry_within ∙ ap place_of (entry_is (entry cells row)))) in
          subst (NoneIs row.place) (sym (kept.idle_are uid ∙ sym (idle_left (entries cells index) at (entry cells row) uid entry_within left))) (none_idle row.place uid (remove (entries cells index) at) gone)

      -- ---- its value comes back

      module _ (later : List (Cell T)) (stamp : ℕ) (value : T) (size : length later ≡ length cells) (puts : PutsCell cells later row.place (given_cell stamp value (cell_at cells row.place))) (busy : (cell_at cells row.place).operation.value ≡ None)
          (newest : All (λ o. o.stamp < stamp) (operations_in (entries cells index))) where
        before : AllByRecursion (λ e. stamp_of e < stamp) (entries cells index)
        before = all_entries (λ o. o.stamp < stamp) (entries cells index) newest

        pub operations_given : (n : ℕ) → row.number ≡ n → operations_in (entries later index) ≡ with_change n (given_back stamp value) (operations_in (entries cells index))
        operations_given n named =
            let f : PlacedOperation T → PlacedOperation T = λ e. record { place = e.place; cell = given_cell stamp value e.cell } in
            ap operations_in (changed later (given_cell stamp value (cell_at cells row.place)) size puts idle
            ∙ ap (set (entries cells index) at) (sym (ap f (entry_is (entry cells row))))
            ∙ set_is_change number_of n f (entries cells index) at (entry cells row) numbers_differ entry_within (ap number_of (entry_is (entry cells row)) ∙ sym number_is ∙ named))
            ∙ changed_operations n f (given_back stamp value) (λ e. refl) (λ e. refl) (entries cells index)

        pub linked_given : (idle' : ChainTable) → Pushes idle idle' (cell_at cells row.place).operation.uid row.place → chains.IsSound idle' → IsLinked later index free counts idle' capacity
        linked_given idle' pushes sound =
            let e' : PlacedOperation T = record { place = row.place; cell = given_cell stamp value (cell_at cells row.place) } in
            let own : ℕ = (cell_at cells row.place).operation.uid in
            let left : is_idle (operation_of (get_or (entries cells index) at (entry cells row))) ≡ false = ap (λ (e : PlacedOperation T). is_idle (operation_of e)) (entry_is (entry cells row)) ∙ ap (λ (v : Option T). is_some v) busy in
            let old : (cell_at cells row.place).operation.stamp < stamp = subst (λ (e : PlacedOperation T). stamp_of e < stamp) (entry_is (entry cells row)) (all_at (λ e. stamp_of e < stamp) (entries cells index) at (entry cells row) entry_within before) in
            let began : (cell_at cells row.place).begun ≤ stamp = (let first : (cell_at cells row.place).begun ≤ (cell_at cells row.place).operation.stamp = began_here in omega arith) in
            linked_changed later (given_cell stamp value (cell_at cells row.place)) size puts idle' refl refl began
            (λ uid. pushes.lists uid ∙ (λ i. cond (uid == own) (kept.idle_are uid i ++ row.place ∷ []) (kept.idle_are uid i)) ∙ sym (idle_given (entries cells index) at (entry cells row) e' uid entry_within left before refl))
            sound pushes.places

      -- ---- it is taken out

      module _ (later : List (Cell T)) (size : length later ≡ length cells) (puts : PutsCell cells later row.place (taken_cell (cell_at cells row.place))) where
        pub entries_less : entries later (remove index at) ≡ remove (entries cells index) at
        entries_less = entries_removed cells later row.place (taken_cell (cell_at cells row.place)) puts index at row places_differ within (ap index_place (sym row_is))

        count_less : (uid : ℕ) → count_by (is_entry_of uid) (remove (entries cells index) at) + cond (is_entry_of uid (entry cells row)) 1 0 ≡ count_by (is_entry_of uid) (entries cells index)
        count_less uid = omega (arith, sum_by-remove (λ x. cond {A = ℕ} (is_entry_of uid x) 1 0) (entries cells index) at (entry cells row) entry_within, ap (λ (e : PlacedOperation T). cond {A = ℕ} (is_entry_of uid e) 1 0) (entry_is (entry cells row)))

        linked_less : (counts' : CountTable) (idle' : ChainTable) → Lowers counts counts' (cell_at cells row.place).operation.uid → ((uid : ℕ) → list_in idle' uid ≡ idle_places (remove (entries cells index) at) uid) → chains.IsSound idle' → places_count idle' ≡ places_count idle
            → IsLinked later (remove index at) (free ++ row.place ∷ []) counts' idle' capacity
        linked_less counts' idle' lowers chain sound room =
            let own : ℕ = (cell_at cells row.place).operation.uid in
            let fewer = length-remove index at within in
            record {
              order = rising_removed index_number index at kept.order;
              named = ap (map number_of) entries_less ∙ map_remove number_of (entries cells index) at ∙ ap (λ (l : List ℕ). remove l at) kept.named ∙ sym (map_remove index_number index at);
              apart = λ n. rw (size, map_remove index_place index at) (omega (arith, kept.apart n, times_more n row.place free, sum_by-remove (λ k. cond {A = ℕ} (k == n) 1 0) (map index_place index) at 0 (omega (arith, within, length-map index index_place)), ap (λ (k : ℕ). cond {A = ℕ} (k == n) 1 0) place_is));
              spare = λ n some. elim (cases_Bool (n == row.place)) [
                | inl e ↦ ap (λ (c : Cell T). c.operation.value) (put_there cells later row.place (taken_cell (cell_at cells row.place)) puts n (eqb-true n row.place e))
                | inr e ↦ (let other : (row.place == n) ≡ false = ne_eqb row.place n (λ (q : row.place ≡ n). absurd (let t = eq-eqb n row.place (sym q) in cc)) in
                    ap (λ (c : Cell T). c.operation.value) (put_other cells later row.place (taken_cell (cell_at cells row.place)) puts n (λ (q : n ≡ row.place). absurd (let t = eq-eqb n row.place q in cc)))
                    ∙ kept.spare n (omega (arith, some, times_more n row.place free, none_if (row.place == n) other)))
              ];
              rest = omega (arith, kept.rest, size, fewer, length_push free row.place);
              cells_few = omega (arith, kept.cells_few, size);
              begun = rw entries_less (all_less BeganBefore (entries cells index) at kept.begun);
              counts_are = λ other. lowers.counts other ∙ lower other (count_in counts other) (kept.counts_are other) ∙ sym (ap (count_by (is_entry_of other)) entries_less);
              all = omega (arith, lowers.all, kept.all, fewer);
              idle_are = λ other. chain other ∙ sym (ap (λ (l : List (PlacedOperation T)). idle_places l other) entries_less);
              idle_sound = sound;
              idle_room = room ∙ kept.idle_room;
            } where
              lower : (other n : ℕ) → n ≡ count_by (is_entry_of other) (entries cells index) → cond (other == (cell_at cells row.place).operation.uid) (n - 1) n ≡ count_by (is_entry_of other) (remove (entries cells index) at)
              lower other n e = elim (cases_Bool (other == (cell_at cells row.place).operation.uid)) [
                | inl b ↦ rw b (omega (arith, e, count_less other, one_if ((cell_at cells row.place).operation.uid == other) (eq-eqb _ _ (sym (eqb-true other (cell_at cells row.place).operation.uid b)))))
                | inr b ↦ rw b (omega (arith, e, count_less other, none_if ((cell_at cells row.place).operation.uid == other) (ne_eqb _ _ (λ (q : (cell_at cells row.place).operation.uid ≡ other). absurd (let t = eq-eqb other (cell_at cells row.place).operation.uid (sym q) in cc)))))
              ]

        -- an idle one, and a busy one
        pub linked_closed : (counts' : CountTable) (idle' : ChainTable) → Lowers counts counts' (cell_at cells row.place).operation.uid → Unlinks idle idle' row.place → chains.IsSound idle' → IsLinked later (remove index at) (free ++ row.place ∷ []) counts' idle' capacity
        linked_closed counts' idle' lowers unlinks sound = linked_less counts' idle' lowers
            (λ uid. unlinks.lists uid ∙ ap (without_place row.place) (kept.idle_are uid) ∙ sym (idle_removed (entries cells index) at (entry cells row) row.place uid entries_differ entry_within (ap place_of (entry_is (entry cells row))))) sound unlinks.places

        pub linked_ended : (counts' : CountTable) → Lowers counts counts' (cell_at cells row.place).operation.uid → (cell_at cells row.place).operation.value ≡ None → IsLinked later (remove index at) (free ++ row.place ∷ []) counts' idle capacity
        linked_ended counts' lowers busy = linked_less counts' idle lowers
            (λ uid. kept.idle_are uid ∙ sym (idle_left (entries cells index) at (entry cells row) uid entry_within (ap (λ (e : PlacedOperation T). is_idle (operation_of e)) (entry_is (entry cells row)) ∙ ap (λ (v : Option T). is_some v) busy))) kept.idle_sound refl

      -- its uid has one
      pub is_counted : 0 < count_in counts (cell_at cells row.place).operation.uid
      is_counted =
          let own : ℕ = (cell_at cells row.place).operation.uid in
          omega (arith, kept.counts_are own, sum_by-remove (λ x. cond {A = ℕ} (is_entry_of own x) 1 0) (entries cells index) at (entry cells row) entry_within, ap (λ (e : PlacedOperation T). cond {A = ℕ} (is_entry_of own e) 1 0) (entry_is (entry cells row)), one_if (own == own) (eq-eqb own own refl))

      pub operations_less : (n : ℕ) → row.number ≡ n → operations_in (remove (entries cells index) at) ≡ without n (operations_in (entries cells index))
      operations_less n named =
          ap operations_in (remove_is_filter number_of n (entries cells index) at (entry cells row) numbers_differ entry_within (ap number_of (entry_is (entry cells row)) ∙ sym number_is ∙ named))
          ∙ fewer_operations (λ o. not (has_number n o)) (entries cells index)

    -- ---- one more begins

    module _ (later : List (Cell T)) (left : List ℕ) (place : ℕ) (operation : SlotOperation T) (at : ℕ) (lays : Lays cells free later left place (record { operation = operation; begun = operation.stamp }))
        (gap : IsGap index_number index operation.number at) (newest : All (λ o. o.stamp < operation.stamp) (operations_in (entries cells index))) (idles : is_idle operation ≡ true) where
      abbrev new_entry : PlacedOperation T
      new_entry = record { place = place; cell = record { operation = operation; begun = operation.stamp } }

      abbrev new_row : Numbered
      new_row = record { number = operation.number; place = place }

      unused : NoneIs place (map index_place index)
      unused = none_of_times place (map index_place index) (omega (arith, lays.apart place (times place (map index_place index)) (kept.apart place), one_if (place == place) (eq-eqb place place refl), once_at_most place (length later)))

      pub entries_more : entries later (insert index at (record { number = operation.number; place = place })) ≡ insert (entries cells index) at (record { place = place; cell = record { operation = operation; begun = operation.stamp } })
      entries_more = entries_inserted cells later place (record { operation = operation; begun = operation.stamp }) lays.puts index at new_row refl unused

      before_it : AllByRecursion (λ e. stamp_of e < operation.stamp) (entries cells index)
      before_it = all_entries (λ o. o.stamp < operation.stamp) (entries cells index) newest

      pub out_of_chains : IsInNone idle place
      out_of_chains uid = subst (NoneIs place) (sym (kept.idle_are uid)) (none_idle place uid (entries cells index) (subst (NoneIs place) (sym (places_are cells index)) unused))

      pub operations_begun : operations_in (entries later (insert index at (record { number = operation.number; place = place }))) ≡ operations_in (entries cells index) ++ operation ∷ []
      operations_begun =
          let put = insert (entries cells index) at new_entry in
          let sorted = order_inserted begun_of (λ _. true) new_entry refl (entries cells index) at (began_first operation.stamp (entries cells index) kept.begun before_it) in
          ap operations_in entries_more
          ∙ ap (λ (l : List (PlacedOperation T)). operations_in l) (sym (all_pass put))
          ∙ ap (map operation_of) (sorted ∙ ap (λ (l : List (PlacedOperation T)). in_order begun_of l ++ new_entry ∷ []) (all_pass (entries cells index)))
          ∙ map_push operation_of (in_order begun_of (entries cells index)) new_entry

      pub linked_begun : length index < capacity → (counts' : CountTable) (idle' : ChainTable) → Raises counts counts' operation.uid → Pushes idle idle' operation.uid place → chains.IsSound idle' → IsLinked later (insert index at (record { number = operation.number; place = place })) left counts' idle' capacity
      linked_begun room counts' idle' raises pushes sound =
          let more = length-insert index at new_row gap.within in
          record {
            order = rising_inserted index_number index at new_row gap kept.order;
            named = ap (map number_of) entries_more ∙ map_insert number_of (entries cells index) at new_entry ∙ ap (λ (l : List ℕ). insert l at operation.number) kept.named ∙ sym (map_insert index_number index at new_row);
            apart = λ n. rw (map_insert index_place index at new_row) (omega (arith, lays.apart n (times n (map index_place index)) (kept.apart n), sum_by-insert (λ k. cond {A = ℕ} (k == n) 1 0) (map index_place index) at place));
            spare = lays.spare;
            rest = omega (arith, kept.rest, lays.size, more);
            cells_few = lays.fits capacity kept.cells_few (λ e. omega (arith, kept.rest));
            begun = rw entries_more (all_put BeganBefore (entries cells index) at new_entry (omega arith) kept.begun);
            counts_are = λ other. raises.counts other ∙ higher other (count_in counts other) (kept.counts_are other) ∙ sym (ap (count_by (is_entry_of other)) entries_more);
            all = omega (arith, raises.all, kept.all, more);
            idle_are = λ other. pushes.lists other ∙ (λ i. cond (other == operation.uid) (kept.idle_are other i ++ place ∷ []) (kept.idle_are other i))
                ∙ sym (idle_begun (entries cells index) at new_entry other before_it idles) ∙ sym (ap (λ (l : List (PlacedOperation T)). idle_places l other) entries_more);
            idle_sound = sound;
            idle_room = pushes.places ∙ kept.idle_room;
          } where
            higher : (other n : ℕ) → n ≡ count_by (is_entry_of other) (entries cells index) → cond (other == operation.uid) (n + 1) n ≡ count_by (is_entry_of other) (insert (entries cells index) at new_entry)
            higher other n e = elim (cases_Bool (other == operation.uid)) [
              | inl b ↦ rw b (omega (arith, e, sum_by-insert (λ x. cond {A = ℕ} (is_entry_of other x) 1 0) (entries cells index) at new_entry, one_if (operation.uid == other) (eq-eqb operation.uid other (sym (eqb-true other operation.uid b)))))
              | inr b ↦ rw b (omega (arith, e, sum_by-insert (λ x. cond {A = ℕ} (is_entry_of other x) 1 0) (entries cells index) at new_entry, none_if (operation.uid == other) (ne_eqb operation.uid other (λ (q : operation.uid ≡ other). absurd (let t = eq-eqb other operation.uid (sym q) in cc)))))
            ]
