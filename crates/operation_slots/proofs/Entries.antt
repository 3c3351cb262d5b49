-- The operations in their places, and what writes of cells and of the index do to them.
use Rattle.std.proofs.Common.{◌≡◌, ◌≢◌, ◌<◌, ◌≤◌, ◌+◌, ◌==◌, nat_lt, ℕ, zero, suc, Bool, true, false, cond, List, [], ◌∷◌, ◌++◌, map, filter, length, get_or, find, count_by, All, option_map, refl, sym, ap, ◌∙◌, subst, arith, inl, inr}
use Rattle.std.proofs.Math.ListN.{set}
use Rattle.std.specs.List.{AllByRecursion, insert, remove, list_any}
use Rattle.std.proofs.lemmas.List.{length-map}
use Rattle.std.proofs.lemmas.List.Sums.{sum_by-append}
use Rattle.std.proofs.lemmas.List.Elements.{recursion_from_All, All-from_recursion}
use Rattle.std.proofs.lemmas.Bool.{cases_Bool, ltb-true, eq-eqb, ne_eqb}
use Rattle.operation_slots.specs.declared.operation.SlotOperation.{SlotOperation}
use Rattle.operation_slots.specs.declared.cells.Cell.{Cell}
use Rattle.operation_slots.specs.declared.index.Numbered.{Numbered}
use Rattle.slot_chain.specs.Linked.{NoneIs, AllDiffer}
use Rattle.operation_slots.specs.Table.{has_number}
use Rattle.operation_slots.specs.Sorted.{in_order}
use Rattle.operation_slots.specs.Boards.{PlacedOperation, PutsCell, cell_at, times, once_in, entry, entries, place_of, operation_of, number_of, begun_of, index_place, operations_in}
use Rattle.operation_slots.proofs.Sorting.{all_in_order, in_order_all, any_in_order, count_in_order, length_in_order, find_in_order}

-- ---- edits of lists

module _ {A B : Type 0} (f : A → B) where
  pub map_insert : (xs : List A) (i : ℕ) (x : A) → map f (insert xs i x) ≡ insert (map f xs) i (f x)
  map_insert xs zero x = refl
  map_insert [] (suc i) x = refl
  map_insert (y ∷ ys) (suc i) x = ap (λ (l : List B). f y ∷ l) (map_insert ys i x)

  pub map_remove : (xs : List A) (i : ℕ) → map f (remove xs i) ≡ remove (map f xs) i
  map_remove [] zero = refl
  map_remove [] (suc i) = refl
  map_remove (y ∷ ys) zero = refl
  map_remove (y ∷ ys) (suc i) = ap (λ (l : List B). f y ∷ l) (map_remove ys i)

  pub map_at : (xs : List A) (i : ℕ) (d : A) (e : B) → i < length xs → get_or (map f xs) i e ≡ f (get_or xs i d)
  map_at [] i d e l = absurd (omega arith)
  map_at (y ∷ ys) zero d e l = refl
  map_at (y ∷ ys) (suc i) d e l = map_at ys i d e (omega arith)

  pub all_mapped : (P : B → Type 0) (xs : List A) → AllByRecursion P (map f xs) → AllByRecursion (λ x. P (f x)) xs
  all_mapped P [] h = tt
  all_mapped P (y ∷ ys) h = (h.0, all_mapped P ys h.1)

  pub mapped_all : (P : B → Type 0) (xs : List A) → AllByRecursion (λ x. P (f x)) xs → AllByRecursion P (map f xs)
  mapped_all P [] h = tt
  mapped_all P (y ∷ ys) h = (h.0, mapped_all P ys h.1)

  pub find_map : (p : B → Bool) (xs : List A) → find p (map f xs) ≡ option_map f (find (λ x. p (f x)) xs)
  find_map p [] = refl
  find_map p (y ∷ ys) = elim (cases_Bool (p (f y))) [ inl e ↦ rw e refl | inr e ↦ rw e (find_map p ys) ]

  pub any_map : (p : B → Bool) (xs : List A) → list_any p (map f xs) ≡ list_any (λ x. p (f x)) xs
  any_map p [] = refl
  any_map p (y ∷ ys) = elim (cases_Bool (p (f y))) [ inl e ↦ rw e refl | inr e ↦ rw e (any_map p ys) ]

  pub filter_map_is : (p : B → Bool) (xs : List A) → filter p (map f xs) ≡ map f (filter (λ x. p (f x)) xs)
  filter_map_is p [] = refl
  filter_map_is p (y ∷ ys) = elim (cases_Bool (p (f y))) [ inl e ↦ rw e (ap (λ (l : List B). f y ∷ l) (filter_map_is p ys)) | inr e ↦ rw e (filter_map_is p ys) ]

  pub map_push : (xs : List A) (x : A) → map f (xs ++ x ∷ []) ≡ map f xs ++ f x ∷ []
  map_push [] x = refl
  map_push (y ∷ ys) x = ap (λ (l : List B). f y ∷ l) (map_push ys x)

module _ {A : Type 0} where
  pub count_cons : (p : A → Bool) (x : A) (xs : List A) → count_by p (x ∷ xs) ≡ cond (p x) 1 0 + count_by p xs
  count_cons p x xs = sum_by-append (λ y. cond (p y) 1 0) (x ∷ []) xs ∙ ap (λ (n : ℕ). n + count_by p xs) (alone (p x)) where
    alone : (b : Bool) → ◌≡◌ {A = ℕ} (0 + cond b 1 0) (cond b 1 0)
    alone true = refl
    alone false = refl

  pub all_pass : (xs : List A) → filter (λ _. true) xs ≡ xs
  all_pass [] = refl
  all_pass (x ∷ xs) = ap (λ (l : List A). x ∷ l) (all_pass xs)

  pub all_put : (P : A → Type 0) (xs : List A) (i : ℕ) (x : A) → P x → AllByRecursion P xs → AllByRecursion P (insert xs i x)
  all_put P xs zero x is h = (is, h)
  all_put P [] (suc i) x is h = (is, tt)
  all_put P (y ∷ ys) (suc i) x is h = (h.0, all_put P ys i x is h.1)

  pub all_less : (P : A → Type 0) (xs : List A) (i : ℕ) → AllByRecursion P xs → AllByRecursion P (remove xs i)
  all_less P [] zero h = tt
  all_less P [] (suc i) h = tt
  all_less P (y ∷ ys) zero h = h.1
  all_less P (y ∷ ys) (suc i) h = (h.0, all_less P ys i h.1)

  pub all_over : (P : A → Type 0) (xs : List A) (i : ℕ) (x : A) → P x → AllByRecursion P xs → AllByRecursion P (set xs i x)
  all_over P [] i x is h = tt
  all_over P (y ∷ ys) zero x is h = (is, h.1)
  all_over P (y ∷ ys) (suc i) x is h = (h.0, all_over P ys i x is h.1)

-- ---- numbers that stand once

pub one_if : (b : Bool) → b ≡ true → ◌≡◌ {A = ℕ} (cond b 1 0) 1
one_if b e = rw e refl

pub none_if : (b : Bool) → b ≡ false → ◌≡◌ {A = ℕ} (cond b 1 0) 0
none_if b e = rw e refl

pub none_of_times : (n : ℕ) (ks : List ℕ) → times n ks ≡ 0 → NoneIs n ks
none_of_times n [] h = tt
none_of_times n (k ∷ ks) h = elim (cases_Bool (k == n)) [
  | inl e ↦ absurd (omega (arith, h, count_cons (λ j. j == n) k ks, one_if (k == n) e))
  | inr e ↦ ((λ (q : k ≡ n). absurd (let t = eq-eqb k n q in cc)), none_of_times n ks (omega (arith, h, count_cons (λ j. j == n) k ks, none_if (k == n) e)))
]

pub times_at : (n : ℕ) (ks : List ℕ) (i d : ℕ) → i < length ks → get_or ks i d ≡ n → 0 < times n ks
times_at n [] i d l e = absurd (omega arith)
times_at n (k ∷ ks) zero d l e = omega (arith, count_cons (λ j. j == n) k ks, one_if (k == n) (eq-eqb k n e))
times_at n (k ∷ ks) (suc i) d l e = omega (arith, count_cons (λ j. j == n) k ks, times_at n ks i d (omega arith) e)

pub differ_of_times : (ks : List ℕ) → ((n : ℕ) → times n ks ≤ 1) → AllDiffer ks
differ_of_times [] h = tt
differ_of_times (k ∷ ks) h =
    (none_of_times k ks (omega (arith, h k, count_cons (λ j. j == k) k ks, one_if (k == k) (eq-eqb k k refl))), differ_of_times ks (λ n. omega (arith, h n, count_cons (λ j. j == n) k ks)))

pub once_at_most : (n size : ℕ) → once_in n size ≤ 1
once_at_most n size = elim (cases_Bool (nat_lt n size)) [ inl e ↦ rw e (omega arith) | inr e ↦ rw e (omega arith) ]

pub once_within : (n size : ℕ) → 0 < once_in n size → n < size
once_within n size h = elim (cases_Bool (nat_lt n size)) [ inl e ↦ ltb-true n size e | inr e ↦ absurd (let k = rw e at h in omega arith) ]

module _ {T : Type 0} where
  -- ---- what a write of one cell does

  pub put_there : (cells later : List (Cell T)) (place : ℕ) (cell : Cell T) → PutsCell cells later place cell → (n : ℕ) → n ≡ place → cell_at later n ≡ cell
  put_there cells later place cell puts n e = puts n ∙ rw (eq-eqb n place e) refl

  pub put_other : (cells later : List (Cell T)) (place : ℕ) (cell : Cell T) → PutsCell cells later place cell → (n : ℕ) → n ≢ place → cell_at later n ≡ cell_at cells n
  put_other cells later place cell puts n ne = puts n ∙ rw (ne_eqb n place ne) refl

  module _ (cells later : List (Cell T)) (place : ℕ) (cell : Cell T) (puts : PutsCell cells later place cell) where
    entry_stays : (row : Numbered) → row.place ≢ place → entry later row ≡ entry cells row
    entry_stays row ne = ap (λ (c : Cell T). record { place = row.place; cell = c }) (put_other cells later place cell puts row.place ne)

    entry_there : (row : Numbered) → row.place ≡ place → entry later row ≡ record { place = row.place; cell = cell }
    entry_there row e = ap (λ (c : Cell T). record { place = row.place; cell = c }) (put_there cells later place cell puts row.place e)

    pub entries_stay : (index : List Numbered) → NoneIs place (map index_place index) → entries later index ≡ entries cells index
    entries_stay [] none = refl
    entries_stay (k ∷ ks) none = (λ i. entry_stays k none.0 i ∷ entries_stay ks none.1 i)

    pub entries_inserted : (index : List Numbered) (i : ℕ) (row : Numbered) → row.place ≡ place → NoneIs place (map index_place index) → entries later (insert index i row) ≡ insert (entries cells index) i (record { place = row.place; cell = cell })
    entries_inserted index i row e none = map_insert (entry later) index i row ∙ (λ j. insert (entries_stay index none j) i (entry_there row e j))

    place_apart : (k : Numbered) (ks : List Numbered) (i : ℕ) (d : Numbered) → NoneIs k.place (map index_place ks) → i < length ks → index_place (get_or ks i d) ≡ place → k.place ≢ place
    place_apart k [] i d none l e = absurd (omega arith)
    place_apart k (j ∷ js) zero d none l e = λ (s : k.place ≡ place). none.0 (e ∙ sym s)
    place_apart k (j ∷ js) (suc i) d none l e = place_apart k js i d none.1 (omega arith) e

    pub entries_set : (index : List Numbered) (i : ℕ) (d : Numbered) → AllDiffer (map index_place index) → i < length index → index_place (get_or index i d) ≡ place → entries later index ≡ set (entries cells index) i (record { place = place; cell = cell })
    entries_set [] i d differ l e = absurd (omega arith)
    entries_set (k ∷ ks) zero d differ l e =
        let none : NoneIs place (map index_place ks) = subst (λ (n : ℕ). NoneIs n (map index_place ks)) e differ.0 in
        (λ j. (entry_there k e ∙ ap (λ (n : ℕ). record { place = n; cell = cell }) e) j ∷ entries_stay ks none j)
    entries_set (k ∷ ks) (suc i) d differ l e =
        (λ j. entry_stays k (place_apart k ks i d differ.0 (omega arith) e) j ∷ entries_set ks i d differ.1 (omega arith) e j)

    pub entries_removed : (index : List Numbered) (i : ℕ) (d : Numbered) → AllDiffer (map index_place index) → i < length index → index_place (get_or index i d) ≡ place → entries later (remove index i) ≡ remove (entries cells index) i
    entries_removed [] i d differ l e = absurd (omega arith)
    entries_removed (k ∷ ks) zero d differ l e = entries_stay ks (subst (λ (n : ℕ). NoneIs n (map index_place ks)) e differ.0)
    entries_removed (k ∷ ks) (suc i) d differ l e =
        (λ j. entry_stays k (place_apart k ks i d differ.0 (omega arith) e) j ∷ entries_removed ks i d differ.1 (omega arith) e j)

  pub places_are : (cells : List (Cell T)) (index : List Numbered) → map place_of (entries cells index) ≡ map index_place index
  places_are cells [] = refl
  places_are cells (k ∷ ks) = ap (λ (l : List ℕ). k.place ∷ l) (places_are cells ks)

  -- ---- what is known of the operations is known in their places

  pub all_entries : (P : SlotOperation T → Type 0) (es : List (PlacedOperation T)) → All P (operations_in es) → AllByRecursion (λ e. P (operation_of e)) es
  all_entries P es h = in_order_all begun_of (λ e. P (operation_of e)) es (all_mapped operation_of P (in_order begun_of es) (recursion_from_All P (operations_in es) h))

  pub all_operations : (P : SlotOperation T → Type 0) (es : List (PlacedOperation T)) → AllByRecursion (λ e. P (operation_of e)) es → All P (operations_in es)
  all_operations P es h = All-from_recursion P (operations_in es) (mapped_all operation_of P (in_order begun_of es) (all_in_order begun_of (λ e. P (operation_of e)) es h))

  pub found_operation : (n : ℕ) (es : List (PlacedOperation T)) → AllDiffer (map number_of es) → find (has_number n) (operations_in es) ≡ option_map operation_of (find (λ e. number_of e == n) es)
  found_operation n es differ = find_map operation_of (has_number n) (in_order begun_of es) ∙ ap (option_map operation_of) (find_in_order begun_of number_of n es differ)

  pub any_operation : (p : SlotOperation T → Bool) (es : List (PlacedOperation T)) → list_any p (operations_in es) ≡ list_any (λ e. p (operation_of e)) es
  any_operation p es = any_map operation_of p (in_order begun_of es) ∙ any_in_order begun_of (λ e. p (operation_of e)) es

  count_mapped : (p : SlotOperation T → Bool) (es : List (PlacedOperation T)) → count_by p (map operation_of es) ≡ count_by (λ e. p (operation_of e)) es
  count_mapped p [] = refl
  count_mapped p (e ∷ es) = let one = count_cons p (operation_of e) (map operation_of es) in let two = count_cons (λ x. p (operation_of x)) e es in let rest = count_mapped p es in omega (arith, one, two, rest)

  pub count_operations : (p : SlotOperation T → Bool) (es : List (PlacedOperation T)) → count_by p (operations_in es) ≡ count_by (λ e. p (operation_of e)) es
  count_operations p es = count_mapped p (in_order begun_of es) ∙ count_in_order begun_of (λ e. p (operation_of e)) es

  pub length_operations : (es : List (PlacedOperation T)) → length (operations_in es) ≡ length es
  length_operations es = length-map (in_order begun_of es) operation_of ∙ length_in_order begun_of es
