-- How many bytes the rows of keys have, where one is put behind the others, where one ends, and where one changes in place.
use Rattle.std.proofs.Common.{◌≡◌, ℕ, ◌+◌, ◌-◌, ◌*◌, ◌<◌, ◌≤◌, ◌^◌, ◌&&◌, ◌==◌, not, List, [], ◌∷◌, ◌++◌, length, Bool, true, false, Some, refl, ap, arith, inl, inr}
use Rattle.std.specs.Prelude.{find, map, nat_le, nat_lt, is_some, IsSome}
use Rattle.std.specs.List.{AllByRecursion, filter, list_all}
use Rattle.std.proofs.lemmas.Bool.{and_parts, cases_Bool, eqb-true, leb-true, or_cases}
use Rattle.std.proofs.lemmas.Option.{none-some, same_Some}
use Rattle.grants.specs.declared.row.GrantRow.{GrantRow}
use Rattle.grants.specs.Rows as grant_rows
use Rattle.grants.proofs.Finding.{all_more}
use Rattle.tags.specs.Descriptor.{is_alias}
use Rattle.tags.specs.declared.limits.TheConstants.{ALIAS_BYTES}
use Rattle.journal_records.specs.declared.record.KeyRecord.{KeyRecord}
use Rattle.journal_records.specs.LastingPart.{Lasting, has_id}
use Rattle.journal_records.specs.Needs.{is_owner}
use Rattle.journal_records.specs.Effects.{with_blob, with_use}
use Rattle.journal_records.specs.Storable.{IsStorable, IsStorableKey, key_row_length, key_rows_length, snapshot_length}
use Rattle.std.specs.Str.{is_utf8}
use Rattle.lasting_table.specs.Parts.{parts_bytes, row_bytes}
use Rattle.key_maps.specs.Rows.{AreRows, IsBefore, NonePass}
use Rattle.key_maps.proofs.KeyRows.{blob_changes, changes_none, later_id}
use Rattle.key_maps.proofs.Tests.{below_test}
use Rattle.key_maps.proofs.Whole.{none_out}

pub bytes_push : (rows : List KeyRecord) (key : KeyRecord) → key_rows_length (rows ++ key ∷ []) ≡ key_rows_length rows + key_row_length key
bytes_push [] key = omega arith
bytes_push (first ∷ rows) key = omega (arith, bytes_push rows key)

pub bytes_filter : (p : KeyRecord → Bool) (rows : List KeyRecord) → key_rows_length (filter p rows) ≤ key_rows_length rows
bytes_filter p [] = omega arith
bytes_filter p (key ∷ rows) = elim (cases_Bool (p key)) [
  | inl stays ↦ rw stays (omega (arith, bytes_filter p rows))
  | inr gone ↦ rw gone (omega (arith, bytes_filter p rows))
]

-- the row of a key that is found is one of them
pub bytes_found : (p : KeyRecord → Bool) (rows : List KeyRecord) (key : KeyRecord) → find p rows ≡ Some key → key_row_length key ≤ key_rows_length rows
bytes_found p [] key e = absurd (none-some key e)
bytes_found p (first ∷ rows) key e = elim (cases_Bool (p first)) [
  | inl here ↦ let same : first ≡ key = same_Some first key (rw here at e) in omega (arith, ap key_row_length same)
  | inr there ↦ omega (arith, bytes_found p rows key (rw there at e))
]

-- the key of a number ends
pub bytes_end : (id : ℕ) (rows : List KeyRecord) → AreRows rows → key_rows_length (filter (λ key. not (has_id id key)) rows) + row_bytes (find (has_id id) rows) ≡ key_rows_length rows
bytes_end id [] t = refl
bytes_end id (key ∷ rows) t = elim (cases_Bool (has_id id key)) [
  | inl here ↦
      let none : NonePass (has_id id) rows = all_more (IsBefore key) (λ later. has_id id later ≡ false) (λ later before. later_id id key later here before) rows t.1 in
      rw (here, none_out (has_id id) rows none) (omega arith)
  | inr there ↦ rw there (omega (arith, bytes_end id rows t.2))
]

-- a use leaves the lengths
use_length : (id : ℕ) (key : KeyRecord) → key_row_length (with_use id key) ≡ key_row_length key
use_length id key = elim (cases_Bool (has_id id key)) [ inl here ↦ rw here refl | inr there ↦ rw there refl ]

pub bytes_use : (id : ℕ) (rows : List KeyRecord) → key_rows_length (map (with_use id) rows) ≡ key_rows_length rows
bytes_use id [] = refl
bytes_use id (key ∷ rows) = omega (arith, use_length id key, bytes_use id rows)

-- another blob and another list
bytes_upgraded_none : (id : ℕ) (blob list : List ℕ) (key : KeyRecord) (rows : List KeyRecord) → has_id id key ≡ true → AllByRecursion (IsBefore key) rows → map (with_blob id blob list) rows ≡ rows
bytes_upgraded_none id blob list key rows here a =
    changes_none id (with_blob id blob list) (blob_changes id blob list) rows
    (all_more (IsBefore key) (λ later. has_id id later ≡ false) (λ later before. later_id id key later here before) rows a)

pub bytes_upgraded : (id : ℕ) (blob list : List ℕ) (rows : List KeyRecord) → AreRows rows → IsSome (find (has_id id) rows)
    → key_rows_length (map (with_blob id blob list) rows) + parts_bytes (find (has_id id) rows) ≡ key_rows_length rows + (length blob + length list)
bytes_upgraded id blob list [] t some = absurd (cc)
bytes_upgraded id blob list (key ∷ rows) t some = elim (cases_Bool (has_id id key)) [
  | inl here ↦ rw (here, bytes_upgraded_none id blob list key rows here t.1) (omega arith)
  | inr there ↦
      let found : IsSome (find (has_id id) rows) = rw there at some in
      rw there (omega (arith, bytes_upgraded id blob list rows t.2 found))
]

-- the blob and the list of a key are part of its row
pub parts_found : (id : ℕ) (rows : List KeyRecord) → parts_bytes (find (has_id id) rows) ≤ key_rows_length rows
parts_found id [] = omega arith
parts_found id (key ∷ rows) = elim (cases_Bool (has_id id key)) [
  | inl here ↦ rw here (omega arith)
  | inr there ↦ rw there (omega (arith, parts_found id rows))
]

-- ---- what a store can hold is short

pub alias_long : (alias : List ℕ) → is_alias alias ≡ true → length alias ≤ ALIAS_BYTES
alias_long alias e =
    let some = and_parts (nat_le 1 (length alias)) (nat_le (length alias) ALIAS_BYTES && is_utf8 alias) e in
    leb-true (length alias) ALIAS_BYTES (and_parts (nat_le (length alias) ALIAS_BYTES) (is_utf8 alias) some.1).0

pub owner_small : (domain nspace : ℕ) → is_owner domain nspace ≡ true → domain < 256
owner_small domain nspace e = elim (or_cases (domain == 2) ((domain == 0) && nat_lt nspace (2 ^ 32)) e) [
  | inl space ↦ omega (arith, eqb-true domain 2 space)
  | inr app ↦ omega (arith, eqb-true domain 0 (and_parts (domain == 0) (nat_lt nspace (2 ^ 32)) app).0)
]

keys_short : (next : ℕ) (rows : List KeyRecord) → AllByRecursion (IsStorableKey next) rows → key_rows_length rows ≤ 10766 * length rows
keys_short next [] all = omega arith
keys_short next (key ∷ rows) all = omega (arith, alias_long key.alias all.0.alias, all.0.blob, all.0.list, keys_short next rows all.1)

pub snapshot_small : (part : Lasting) → IsStorable part → snapshot_length part < 2 ^ 64
snapshot_small part is = omega (arith, keys_short part.next_key part.keys is.keys, is.key_count, is.grant_count)

-- ---- numbers below one

pub grants_below : (number : ℕ) (rows : List GrantRow) → 1 ≤ number → list_all (λ row. nat_lt row.grant number) rows ≡ not (is_some (find (grant_rows.is_past (Some (number - 1))) rows))
grants_below number [] some = refl
grants_below number (row ∷ rows) some = elim (cases_Bool (nat_lt (number - 1) row.grant)) [
  | inl past ↦ rw (past, below_test number row.grant some, past) refl
  | inr below ↦ rw (below, below_test number row.grant some, below) (grants_below number rows some)
]
