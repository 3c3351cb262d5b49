-- The first key behind a number, by a range of the map by number.
use Rattle.std.proofs.Common.{◌≡◌, ℕ, List, [], ◌∷◌, Option, Some, None, refl, sym, ap, ◌∙◌, inl, inr}
use Rattle.std.specs.Prelude.{find}
use Rattle.std.specs.Ordering.{nat_cmp}
use Rattle.std.specs.List.{filter}
use Rattle.std.specs.Map.{values_of}
use Rattle.std.specs.declared.ops.Bound.TheVariants.{Unbounded}
use Rattle.std.specs.BTreeMap.Range.{entries_between}
use Rattle.std.proofs.lemmas.Bool.{cases_Bool}
use Rattle.grants.specs.Maps.{start_of}
use Rattle.grants.specs.Rows.{is_behind}
use Rattle.grants.proofs.Nexts.{behind_test, find_first, find_nothing}
use Rattle.journal_records.specs.declared.record.KeyRecord.{KeyRecord}
use Rattle.key_maps.specs.Maps.{entries_of}
use Rattle.key_maps.specs.Rows.{is_past}
use Rattle.key_maps.proofs.Entries.{rows_back}

between_rows : (past : Option ℕ) (rows : List KeyRecord) → entries_between nat_cmp (start_of past) Unbounded (entries_of rows) ≡ entries_of (filter (is_past past) rows)
between_rows past [] = refl
between_rows past (key ∷ rows) =
    rw (behind_test past key.id) (elim (cases_Bool (is_behind past key.id)) [ inl here ↦ rw here (ap (λ es. (key.id, key) ∷ es) (between_rows past rows)) | inr other ↦ rw other (between_rows past rows) ])

pub first_behind : (past : Option ℕ) (entries rest : List (ℕ × KeyRecord)) (n : ℕ) (key : KeyRecord) → entries ≡ entries_of (values_of entries) → entries_between nat_cmp (start_of past) Unbounded entries ≡ (n, key) ∷ rest → find (is_past past) (values_of entries) ≡ Some key
first_behind past entries rest n key e first =
    find_first (is_past past) (values_of entries) key (values_of rest)
    (sym (rows_back (filter (is_past past) (values_of entries))) ∙ ap values_of (sym (between_rows past (values_of entries)) ∙ ap (entries_between nat_cmp (start_of past) Unbounded) (sym e) ∙ first))

pub none_behind : (past : Option ℕ) (entries : List (ℕ × KeyRecord)) → entries ≡ entries_of (values_of entries) → entries_between nat_cmp (start_of past) Unbounded entries ≡ [] → find (is_past past) (values_of entries) ≡ None
none_behind past entries e none =
    find_nothing (is_past past) (values_of entries)
    (sym (rows_back (filter (is_past past) (values_of entries))) ∙ ap values_of (sym (between_rows past (values_of entries)) ∙ ap (entries_between nat_cmp (start_of past) Unbounded) (sym e) ∙ none))
