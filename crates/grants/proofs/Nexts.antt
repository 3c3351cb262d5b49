-- The first row behind a number, by a range of the map by number.
use Rattle.std.proofs.Common.{◌≡◌, ℕ, Bool, true, false, ◌==◌, ◌&&◌, List, [], ◌∷◌, Option, Some, None, refl, sym, ap, ◌∙◌, inl, inr}
use Rattle.std.specs.Prelude.{find, map, nat_lt}
use Rattle.std.specs.Ordering.{nat_cmp, is_lt}
use Rattle.std.specs.List.{filter}
use Rattle.std.specs.Map.{values_of}
use Rattle.std.specs.declared.ops.Bound.TheVariants.{Unbounded}
use Rattle.std.specs.BTreeMap.Range.{entries_between, range_contains}
use Rattle.std.proofs.lemmas.Bool.{cases_Bool}
use Rattle.grants.specs.declared.row.GrantRow.{GrantRow}
use Rattle.grants.specs.Rows.{is_behind, is_past}
use Rattle.grants.specs.Maps.{entries_of, start_of}
use Rattle.grants.proofs.Entries.{rows_back}

lt_test : (n k : ℕ) → is_lt (nat_cmp n k) ≡ nat_lt n k
lt_test n k = elim (cases_Bool (nat_lt n k)) [ inl below ↦ rw below refl | inr other ↦ rw other (elim (cases_Bool (n == k)) [ inl same ↦ rw same refl | inr apart ↦ rw apart refl ]) ]

pub behind_test : (past : Option ℕ) (n : ℕ) → range_contains nat_cmp (start_of past) Unbounded n ≡ is_behind past n
behind_test None n = refl
behind_test (Some past) n = ap (λ b. b && true) (lt_test past n) ∙ and_true (nat_lt past n)
  where
    and_true : (b : Bool) → (b && true) ≡ b
    and_true true = refl
    and_true false = refl

between_rows : (past : Option ℕ) (rows : List GrantRow) → entries_between nat_cmp (start_of past) Unbounded (entries_of rows) ≡ entries_of (filter (is_past past) rows)
between_rows past [] = refl
between_rows past (row ∷ rows) =
    rw (behind_test past row.grant) (elim (cases_Bool (is_behind past row.grant)) [ inl here ↦ rw here (ap (λ es. (row.grant, row) ∷ es) (between_rows past rows)) | inr other ↦ rw other (between_rows past rows) ])

pub find_first : {X : Type 0} (p : X → Bool) (xs : List X) (x : X) (rest : List X) → filter p xs ≡ x ∷ rest → find p xs ≡ Some x
find_first p [] x rest e = absurd cc
find_first {X} p (y ∷ xs) x rest e =
    elim (cases_Bool (p y)) [
      | inl here ↦ let whole : y ∷ filter p xs ≡ x ∷ rest = rw here at e in rw here (ap (λ (z : X). Some z) (heads y x (filter p xs) rest whole))
      | inr other ↦ let left : filter p xs ≡ x ∷ rest = rw other at e in rw other (find_first p xs x rest left)
    ]
  where
    heads : (a b : X) (more others : List X) → a ∷ more ≡ b ∷ others → a ≡ b
    heads a b more others e = cc

pub find_nothing : {X : Type 0} (p : X → Bool) (xs : List X) → filter p xs ≡ [] → find p xs ≡ None
find_nothing p [] e = refl
find_nothing {X} p (y ∷ xs) e =
    elim (cases_Bool (p y)) [
      | inl here ↦ let whole : ◌≡◌ {A = List X} (y ∷ filter p xs) [] = rw here at e in absurd cc
      | inr other ↦ let left : filter p xs ≡ [] = rw other at e in rw other (find_nothing p xs left)
    ]

pub first_behind : (past : Option ℕ) (entries rest : List (ℕ × GrantRow)) (n : ℕ) (row : GrantRow) → entries ≡ entries_of (values_of entries) → entries_between nat_cmp (start_of past) Unbounded entries ≡ (n, row) ∷ rest → find (is_past past) (values_of entries) ≡ Some row
first_behind past entries rest n row e first =
    find_first (is_past past) (values_of entries) row (values_of rest)
    (sym (rows_back (filter (is_past past) (values_of entries))) ∙ ap values_of (sym (between_rows past (values_of entries)) ∙ ap (entries_between nat_cmp (start_of past) Unbounded) (sym e) ∙ first))

pub none_behind : (past : Option ℕ) (entries : List (ℕ × GrantRow)) → entries ≡ entries_of (values_of entries) → entries_between nat_cmp (start_of past) Unbounded entries ≡ [] → find (is_past past) (values_of entries) ≡ None
none_behind past entries e none =
    find_nothing (is_past past) (values_of entries)
    (sym (rows_back (filter (is_past past) (values_of entries))) ∙ ap values_of (sym (between_rows past (values_of entries)) ∙ ap (entries_between nat_cmp (start_of past) Unbounded) (sym e) ∙ none))
