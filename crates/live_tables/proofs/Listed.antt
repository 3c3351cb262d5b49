-- Each row has its entry in the index: the places of the entries and the free ones are all that there are.
use Rattle.std.proofs.Common.{◌≡◌, ◌<◌, ◌==◌, ℕ, true, false, ltb, List, [], ◌∷◌, ◌++◌, map, length, find, Option, Some, None, is_some, refl, sym, ap, ◌∙◌, arith, inl, inr, length-append}
use Rattle.std.specs.List.{AllByRecursion}
use Rattle.std.proofs.lemmas.Bool.{cases_Bool, eqb-true, ltb-true, ltb-false}
use Rattle.std.proofs.lemmas.List.{get_or_past, length-map}
use Rattle.slot_chain.specs.Linked.{NoneIs, AllDiffer}
use Rattle.slot_chain.proofs.Numbers.{AllUnder, bounded}
use Rattle.slot_chain.proofs.Ordering.{none_named}
use Rattle.live_tables.specs.declared.operations.OperationRow.{OperationRow}
use Rattle.live_tables.specs.declared.placed.RowPlace.{RowPlace}
use Rattle.live_tables.specs.Numbered.{row_number}
use Rattle.live_tables.specs.Places.{AreListed, IsFree, IsLinked, IsPlaced, cell_at, entry_at, entry_of, place_number, row_or_blank}
use Rattle.live_tables.proofs.Places.{found_each, found_has, found_passes, index_differ}

none_both : (n : ℕ) (ks js : List ℕ) → NoneIs n ks → NoneIs n js → NoneIs n (ks ++ js)
none_both n [] js a b = b
none_both n (k ∷ ks) js a b = (a.0, none_both n ks js a.1 b)

abbrev place_in : RowPlace → ℕ
place_in entry = entry.place

module _ (places : List (Option OperationRow)) where
  -- a place with a row is one of the places
  within_taken : (p : ℕ) → is_some (cell_at places p) ≡ true → p < length places
  within_taken p there = elim (cases_Bool (ltb p (length places))) [
    | inl e ↦ ltb-true p (length places) e
    | inr e ↦ absurd (let past : cell_at places p ≡ None = get_or_past places p None (ltb-false p (length places) e) in
        let no : is_some (cell_at places p) ≡ false = ap is_some past in cc)
  ]

  -- it is none of the free ones, and an entry of another number has another place
  none_free : (p : ℕ) → is_some (cell_at places p) ≡ true → (free : List ℕ) → AllByRecursion (IsFree places) free → NoneIs p free
  none_free p there [] h = tt
  none_free p there (q ∷ qs) h = (
    (λ (s : q ≡ p). absurd (let no : is_some (cell_at places p) ≡ false = ap (λ (k : ℕ). is_some (cell_at places k)) (sym s) ∙ h.0.0 in cc)),
    none_free p there qs h.1,
  )

  none_placed : (e : RowPlace) (es : List RowPlace) → IsPlaced places e → NoneIs e.number (map place_number es) → AllByRecursion (IsPlaced places) es → NoneIs e.place (map place_in es)
  none_placed e [] own none h = tt
  none_placed e (f ∷ fs) own none h = (
    (λ (s : f.place ≡ e.place). none.0 (sym h.0.1 ∙ ap (λ (p : ℕ). row_number (row_or_blank (cell_at places p))) s ∙ own.1)),
    none_placed e fs own none.1 h.1,
  )

  module _ (free : List ℕ) (spare : AllByRecursion (IsFree places) free) (differ : AllDiffer free) where
    all_differ : (es : List RowPlace) → AllByRecursion (IsPlaced places) es → AllDiffer (map place_number es) → AllDiffer (map place_in es ++ free)
    all_differ [] h apart = differ
    all_differ (e ∷ es) h apart = (none_both e.place (map place_in es) free (none_placed e es h.0 apart.0 h.1) (none_free e.place h.0.0 free spare), all_differ es h.1 apart.1)

    free_under : (qs : List ℕ) → AllByRecursion (IsFree places) qs → AllUnder (length places) qs
    free_under [] h = tt
    free_under (q ∷ qs) h = (h.0.1, free_under qs h.1)

    all_under : (es : List RowPlace) → AllByRecursion (IsPlaced places) es → AllUnder (length places) (map place_in es ++ free)
    all_under [] h = free_under free spare
    all_under (e ∷ es) h = (within_taken e.place h.0.0, all_under es h.1)

  module _ (index : List RowPlace) (free : List ℕ) (linked : IsLinked places index free) where
    differ_here : AllDiffer (map place_number index)
    differ_here = index_differ places index linked.order linked.placed

    -- a place that is in no entry and has a row would be one more than there are
    unlisted : (p : ℕ) → is_some (cell_at places p) ≡ true → NoneIs p (map place_in index) → ⊥
    unlisted p there none =
        let more = bounded (length places) (p ∷ (map place_in index ++ free))
        (none_both p (map place_in index) free none (none_free p there free linked.spare), all_differ free linked.spare linked.differ index linked.placed differ_here)
        (within_taken p there, all_under free linked.spare linked.differ index linked.placed) in
        omega (arith, more, length-append (map place_in index) free, length-map index place_in, linked.rest)

    pub listed : AreListed places index
    listed place row is = by_entry (find (λ e. e.place == place) index) refl where
      by_entry : (found : Option RowPlace) → find (λ e. e.place == place) index ≡ found → entry_of index row.number ≡ Some (entry_at row.number place)
      by_entry None e = absurd (unlisted place (ap is_some is) (none_named place_in place index e))
      by_entry (Some entry) e =
          let here : entry.place ≡ place = eqb-true entry.place place (found_passes (λ k. k.place == place) index entry e) in
          let placed : IsPlaced places entry = found_has (IsPlaced places) (λ k. k.place == place) index entry linked.placed e in
          let cell : cell_at places entry.place ≡ Some row = ap (cell_at places) here ∙ is in
          let number : row.number ≡ entry.number = ap (λ (c : Option OperationRow). row_number (row_or_blank c)) (sym cell) ∙ placed.1 in
          let own : entry_of index entry.number ≡ Some entry = found_has (λ k. find (λ j. place_number j == place_number k) index ≡ Some k) (λ k. k.place == place) index entry (found_each place_number index differ_here) e in
          ap (entry_of index) number ∙ own ∙ (λ i. Some (record { number = sym number i; place = here i }))
