-- The first operation of a client, and what is left when it goes.
use Rattle.std.proofs.Common.{◌≡◌, ◌==◌, ℕ, Bool, true, not, List, [], ◌∷◌, map, filter, find, Some, None, refl, sym, ap, ◌∙◌, inl, inr}
use Rattle.std.specs.Prelude.{slice_get}
use Rattle.std.specs.List.{AllByRecursion}
use Rattle.std.proofs.lemmas.Bool.{cases_Bool, eqb-true, eq-eqb, ne_eqb}
use Rattle.slot_chain.specs.Linked.{NoneIs, AllDiffer}
use Rattle.live_tables.specs.declared.operations.OperationRow.{OperationRow}
use Rattle.live_tables.specs.Numbered.{row_number}
use Rattle.live_tables.specs.Operations.{has_row}
use Rattle.live_tables.proofs.Places.{only_one}

module _ (p : OperationRow → Bool) where
  pub record IsFirst (rows : List OperationRow) (n : ℕ) : Type 0 where
    pub row : OperationRow
    pub found : find (has_row n) rows ≡ Some row
    pub passes : p row ≡ true

  not_before : (n : ℕ) (r : OperationRow) (rows : List OperationRow) → NoneIs r.number (map row_number rows) → (f : IsFirst rows n) → r.number ≡ n → ⊥
  not_before n r [] none f e = absurd (let no = f.found in cc)
  not_before n r (k ∷ ks) none f e = elim (cases_Bool (k.number == n)) [
    | inl t ↦ none.0 (eqb-true k.number n t ∙ sym e)
    | inr t ↦ not_before n r ks none.1 (record { row = f.row; found = rw t at f.found; passes = f.passes }) e
  ]

  pub first_row : (rows : List OperationRow) (n : ℕ) → AllDiffer (map row_number rows) → slice_get (map row_number (filter p rows)) 0 ≡ Some n → IsFirst rows n
  first_row [] n differ e = absurd cc
  first_row (r ∷ rs) n differ e = elim (cases_Bool (p r)) [
    | inl t ↦ (let e' : Some r.number ≡ Some n = rw t at e in
        let same : r.number ≡ n = cc in
        record { row = r; found = rw (eq-eqb r.number n same) refl; passes = t })
    | inr t ↦ (let later = first_row rs n differ.1 (rw t at e) in
        record {
          row = later.row;
          found = rw (ne_eqb r.number n (λ (s : r.number ≡ n). not_before n r rs differ.0 later s)) later.found;
          passes = later.passes;
        })
  ]

  kept_on : (n : ℕ) (xs : List OperationRow) → AllByRecursion (λ r. r.number ≡ n → p r ≡ true) xs → filter (λ r. not (p r)) (filter (λ r. not (has_row n r)) xs) ≡ filter (λ r. not (p r)) xs
  kept_on n [] h = refl
  kept_on n (x ∷ xs) h = elim (cases_Bool (x.number == n)) [
    | inl t ↦ rw (t, h.0 (eqb-true x.number n t)) (kept_on n xs h.1)
    | inr t ↦ elim (cases_Bool (p x)) [
      | inl e ↦ rw (t, e) (kept_on n xs h.1)
      | inr e ↦ rw (t, e) (ap (λ (l : List OperationRow). x ∷ l) (kept_on n xs h.1))
    ]
  ]

  all_pass : (n : ℕ) (row : OperationRow) → p row ≡ true → (xs : List OperationRow) → AllByRecursion (λ r. r.number ≡ n → r ≡ row) xs → AllByRecursion (λ r. r.number ≡ n → p r ≡ true) xs
  all_pass n row passes [] h = tt
  all_pass n row passes (x ∷ xs) h = ((λ (s : x.number ≡ n). ap p (h.0 s) ∙ passes), all_pass n row passes xs h.1)

  -- the others stay
  pub kept_others : (rows : List OperationRow) (n : ℕ) → AllDiffer (map row_number rows) → IsFirst rows n → filter (λ r. not (p r)) (filter (λ r. not (has_row n r)) rows) ≡ filter (λ r. not (p r)) rows
  kept_others rows n differ f = kept_on n rows (all_pass n f.row f.passes rows (only_one row_number rows n f.row differ f.found))

  -- none of them is left
  pub none_first : (rows : List OperationRow) → slice_get (map row_number (filter p rows)) 0 ≡ None → filter (λ r. not (p r)) rows ≡ rows
  none_first [] e = refl
  none_first (r ∷ rs) e = elim (cases_Bool (p r)) [
    | inl t ↦ absurd (let e' : Some r.number ≡ None = rw t at e in cc)
    | inr t ↦ rw t (ap (λ (l : List OperationRow). r ∷ l) (none_first rs (rw t at e)))
  ]
