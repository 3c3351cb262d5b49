-- The map by number as a list of keys.
use Rattle.std.proofs.Common.{◌≡◌, ℕ, false, not, ◌==◌, List, [], ◌∷◌, ◌++◌, Some, refl, sym, ap, ◌∙◌, inl, inr}
use Rattle.std.specs.Prelude.{find, map}
use Rattle.std.specs.Ordering.{nat_cmp}
use Rattle.std.specs.Cmp.{nat_cmp_is}
use Rattle.std.specs.declared.cmp.Ordering.TheVariants.{Greater}
use Rattle.std.specs.List.{AllByRecursion, filter}
use Rattle.std.specs.Map.{lookup, remove_entry, set_value, values_of}
use Rattle.std.specs.BTreeMap.{is_at, insert_entry}
use Rattle.std.proofs.lemmas.Bool.{cases_Bool}
use Rattle.std.proofs.lemmas.Option.{none-some, same_Some}
use Rattle.grants.proofs.Finding.{all_more}
use Rattle.journal_records.specs.declared.record.KeyRecord.{KeyRecord}
use Rattle.journal_records.specs.LastingPart.{has_id}
use Rattle.key_maps.specs.Rows.{AreRows, IsBefore}
use Rattle.key_maps.specs.Maps.{entries_of}
use Rattle.key_maps.proofs.NameOrder.{nat_test}
use Rattle.key_maps.proofs.KeyRows.{ChangesKey, changes_none, later_id, others_stay}

pub rows_back : (rows : List KeyRecord) → values_of (entries_of rows) ≡ rows
rows_back [] = refl
rows_back (key ∷ rows) = rw (rows_back rows) refl

pub lookup_rows : (id : ℕ) (rows : List KeyRecord) → lookup (is_at (nat_cmp id)) (entries_of rows) ≡ find (has_id id) rows
lookup_rows id [] = refl
lookup_rows id (key ∷ rows) = rw (nat_test id key.id, lookup_rows id rows) refl

pub insert_rows : (last : KeyRecord) (rows : List KeyRecord) → AllByRecursion (λ key. IsBefore key last) rows → insert_entry nat_cmp (entries_of rows) last.id last ≡ entries_of (rows ++ last ∷ [])
insert_rows last [] a = refl
insert_rows last (key ∷ rows) a = rw (sym (nat_cmp_is last.id key.id Greater a.0.0), insert_rows last rows a.1) refl

pub remove_rows : (id : ℕ) (rows : List KeyRecord) → AreRows rows → remove_entry (is_at (nat_cmp id)) (entries_of rows) ≡ entries_of (filter (λ key. not (has_id id key)) rows)
remove_rows id [] t = refl
remove_rows id (key ∷ rows) t =
    rw (nat_test id key.id) (elim (cases_Bool (key.id == id)) [
      | inl here ↦ rw (here, others_stay id key rows here t.1) refl
      | inr there ↦ rw there (ap (λ es. (key.id, key) ∷ es) (remove_rows id rows t.2))
    ])

pub set_rows : (id : ℕ) (f : KeyRecord → KeyRecord) → ChangesKey id f → (rows : List KeyRecord) (held : KeyRecord) → AreRows rows → find (has_id id) rows ≡ Some held
    → set_value (is_at (nat_cmp id)) (entries_of rows) (f held) ≡ entries_of (map f rows)
set_rows id f is [] held t e = absurd (none-some held e)
set_rows id f is (key ∷ rows) held t e =
    elim (cases_Bool (has_id id key)) [
      | inl here ↦
          let same : key ≡ held = same_Some key held (rw here at e) in
          let number : (f key).id ≡ key.id = ap (λ (k : KeyRecord). k.id) (is.names key) in
          let later : map f rows ≡ rows = changes_none id f is rows (all_more (IsBefore key) (λ later. has_id id later ≡ false) (λ later before. later_id id key later here before) rows t.1) in
          rw (← same, nat_test id key.id, here, number, later) refl
      | inr there ↦
          let found : find (has_id id) rows ≡ Some held = rw there at e in
          rw (nat_test id key.id, there, is.others key there) (ap (λ es. (key.id, key) ∷ es) (set_rows id f is rows held t.2 found))
    ]

-- a look-up by number in a map that has each key under its number
pub lookup_is : (id : ℕ) (entries : List (ℕ × KeyRecord)) → entries ≡ entries_of (values_of entries) → lookup (is_at (nat_cmp id)) entries ≡ find (has_id id) (values_of entries)
lookup_is id entries e = ap (λ es. lookup (is_at (nat_cmp id)) es) e ∙ lookup_rows id (values_of entries)
