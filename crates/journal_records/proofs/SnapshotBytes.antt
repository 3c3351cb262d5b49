-- The snapshot of what a store can hold is records, and how many bytes they have.
use Rattle.std.proofs.Common.{◌≡◌, ℕ, ◌+◌, ◌*◌, ◌<◌, ◌≤◌, ◌^◌, true, ◌==◌, ◌&&◌, List, [], ◌∷◌, ◌++◌, length, length-append, refl, sym, ap, ◌∙◌, arith, inl, inr, append_assoc}
use Rattle.std.specs.Prelude.{map, reverse, nat_le, nat_lt}
use Rattle.std.specs.List.{AllByRecursion}
use Rattle.std.proofs.lemmas.Bool.{and_parts, eqb-true, leb-true, or_cases}
use Rattle.std.specs.Str.{is_utf8}
use Rattle.byteorder.specs.Endian.{big_bytes}
use Rattle.byteorder.specs.Numbers.{length-bytes_high_first}
use Rattle.tags.specs.Descriptor.{is_alias}
use Rattle.tags.specs.declared.limits.TheConstants.{ALIAS_BYTES, NUMBERS_END}
use Rattle.grants.specs.declared.row.GrantRow.{GrantRow}
use Rattle.journal_records.specs.declared.record.HeldNumbers.{HeldNumbers}
use Rattle.journal_records.specs.declared.record.KeyRecord.{KeyRecord}
use Rattle.journal_records.specs.declared.record.Record.{Record}
use Rattle.journal_records.specs.declared.record.Record.TheVariants as records
use Rattle.journal_records.specs.LastingPart.{Lasting}
use Rattle.journal_records.specs.Needs.{is_owner}
use Rattle.journal_records.specs.Spelling.{IsRecord, counted, key_fields, key_of, grant_fields, numbers_of, record_body, record_closed, record_framed, record_tail, spelled}
use Rattle.journal_records.specs.Storable.{IsStorable, IsStorableGrant, IsStorableKey, area_kinds, held_grant, held_key, key_rows_length, snapshot, snapshot_length}
use Rattle.journal_records.proofs.Lists.{all_append, all_map, all_reverse, last_is}

-- ---- lengths

counted_long : (bytes rest : List ℕ) → length (counted bytes ++ rest) ≡ 4 + length bytes + length rest
counted_long bytes rest = omega (
  arith,
  length-append (counted bytes) rest,
  length-append (big_bytes 4 (length bytes)) bytes,
  length-bytes_high_first 4 (length bytes),
)

-- a key's fields up to its limit
pub key_long : (numbers : HeldNumbers) (alias blob list : List ℕ) → length (key_fields numbers alias blob list) ≡ 33 + length alias + length blob + length list
key_long numbers alias blob list =
    let limits : List ℕ = big_bytes 4 numbers.limit in
    let lists : List ℕ = counted list ++ limits in
    let blobs : List ℕ = counted blob ++ lists in
    let aliases : List ℕ = counted alias ++ blobs in
    omega (
      arith,
      length-append (big_bytes 8 numbers.id) (numbers.domain ∷ (big_bytes 8 numbers.nspace ++ aliases)),
      length-append (big_bytes 8 numbers.nspace) aliases,
      counted_long alias blobs,
      counted_long blob lists,
      counted_long list limits,
      length-bytes_high_first 8 numbers.id,
      length-bytes_high_first 8 numbers.nspace,
      length-bytes_high_first 4 numbers.limit,
    )

pub grant_long : (row : GrantRow) → length (grant_fields row) ≡ 24
grant_long row =
    let bits : List ℕ = big_bytes 4 row.bits in
    let uids : List ℕ = big_bytes 4 row.uid ++ bits in
    omega (
      arith,
      length-append (big_bytes 8 row.grant) (big_bytes 8 row.key ++ uids),
      length-append (big_bytes 8 row.key) uids,
      length-append (big_bytes 4 row.uid) bits,
      length-bytes_high_first 8 row.grant,
      length-bytes_high_first 8 row.key,
      length-bytes_high_first 4 row.uid,
      length-bytes_high_first 4 row.bits,
    )

pub held_long : (key : KeyRecord) → length (record_body (records.Held key)) ≡ 38 + length key.alias + length key.blob + length key.list
held_long key =
    let fields : List ℕ = key_fields (numbers_of key) key.alias key.blob key.list in
    omega (arith, length-append fields (big_bytes 4 key.left), key_long (numbers_of key) key.alias key.blob key.list, length-bytes_high_first 4 key.left)

pub next_long : (key grant : ℕ) → length (record_body (records.Next key grant)) ≡ 17
next_long key grant = omega (arith, length-append (big_bytes 8 key) (big_bytes 8 grant), length-bytes_high_first 8 key, length-bytes_high_first 8 grant)

pub held_grant_long : (row : GrantRow) → length (record_body (records.HeldGrant row)) ≡ 25
held_grant_long row = omega (arith, grant_long row)

-- a record has its gate and its length before its body
pub framed_long : (it : Record) → length (record_framed it) ≡ 5 + length (record_body it)
unfolding record_tail
framed_long it = omega (arith, length-append (big_bytes 4 (length (record_body it))) (record_body it), length-bytes_high_first 4 (length (record_body it)))

-- and a closing byte behind it
pub closed_long : (it : Record) → length (record_closed it) ≡ 6 + length (record_body it)
closed_long it = omega (arith, framed_long it, length-append (record_tail it) (0 ∷ []))

-- a key's row, from its parts in turn
pub key_closed : (numbers : HeldNumbers) (alias blob list : List ℕ) (size : ℕ) (head fields left closed : List ℕ) → head ≡ 75 ∷ big_bytes 4 size
    → fields ≡ head ++ 9 ∷ key_fields numbers alias blob list → left ≡ fields ++ big_bytes 4 numbers.left → closed ≡ left ++ 0 ∷ []
    → size ≡ 38 + length alias + length blob + length list → closed ≡ record_closed (records.Held (key_of numbers alias blob list))
unfolding record_tail
key_closed numbers alias blob list size head fields left closed begins then behind ends is =
    let f : List ℕ = key_fields numbers alias blob list in
    let l : List ℕ = big_bytes 4 numbers.left in
    let h : List ℕ = big_bytes 4 size in
    let long : size ≡ length (record_body (records.Held (key_of numbers alias blob list))) = is ∙ sym (held_long (key_of numbers alias blob list)) in
    ends
    ∙ ap (λ (t : List ℕ). t ++ 0 ∷ []) (behind ∙ ap (λ (t : List ℕ). t ++ l) (then ∙ ap (λ (t : List ℕ). t ++ 9 ∷ f) begins))
    ∙ ap (λ (t : List ℕ). 75 ∷ (t ++ 0 ∷ [])) (append_assoc h (9 ∷ f) l)
    ∙ ap (λ (n : ℕ). 75 ∷ ((big_bytes 4 n ++ (9 ∷ (f ++ l))) ++ 0 ∷ [])) long

-- how many bytes records have, the oldest first
abbrev total : List Record → ℕ
total [] = 0
total (it ∷ later) = length (record_framed it) + total later

total_append : (first second : List Record) → total (first ++ second) ≡ total first + total second
total_append [] second = omega arith
total_append (it ∷ first) second = omega (arith, total_append first second)

total_reverse : (all : List Record) → total (reverse all) ≡ total all
total_reverse [] = refl
total_reverse (it ∷ later) = ap total (last_is it later) ∙ omega (arith, total_append (reverse later) (it ∷ []), total_reverse later)

spelled_total : (past : List Record) → length (spelled past) ≡ total past
spelled_total [] = refl
spelled_total (it ∷ past) = omega (arith, length-append (spelled past) (record_framed it), spelled_total past)

keys_total : (keys : List KeyRecord) → total (map held_key keys) ≡ key_rows_length keys
keys_total [] = refl
keys_total (key ∷ keys) = omega (arith, framed_long (records.Held key), held_long key, keys_total keys)

grants_total : (rows : List GrantRow) → total (map held_grant rows) ≡ 30 * length rows
grants_total [] = refl
grants_total (row ∷ rows) = omega (arith, framed_long (records.HeldGrant row), grant_long row, grants_total rows)

pub snapshot_total : (part : Lasting) → length (spelled (reverse (snapshot part))) ≡ snapshot_length part
snapshot_total part =
    spelled_total (reverse (snapshot part)) ∙ total_reverse (snapshot part)
    ∙ omega (
      arith,
      total_append (map held_key part.keys) (map held_grant part.grants),
      framed_long (records.Next part.next_key part.next_grant),
      next_long part.next_key part.next_grant,
      keys_total part.keys,
      grants_total part.grants,
    )

-- ---- records

alias_long : (alias : List ℕ) → is_alias alias ≡ true → length alias ≤ ALIAS_BYTES
alias_long alias e =
    let some = and_parts (nat_le 1 (length alias)) (nat_le (length alias) ALIAS_BYTES && is_utf8 alias) e in
    leb-true (length alias) ALIAS_BYTES (and_parts (nat_le (length alias) ALIAS_BYTES) (is_utf8 alias) some.1).0

owner_small : (domain nspace : ℕ) → is_owner domain nspace ≡ true → domain < 2 ^ 8
owner_small domain nspace e = elim (or_cases (domain == 2) ((domain == 0) && nat_lt nspace (2 ^ 32)) e) [
  | inl space ↦ omega (arith, eqb-true domain 2 space)
  | inr app ↦ omega (arith, eqb-true domain 0 (and_parts (domain == 0) (nat_lt nspace (2 ^ 32)) app).0)
]

key_is_record : (next : ℕ) → next ≤ NUMBERS_END → (key : KeyRecord) → IsStorableKey next key → IsRecord area_kinds (records.Held key)
key_is_record next end key is =
    let alias : length key.alias ≤ ALIAS_BYTES = alias_long key.alias is.alias in (
      (
        omega (arith, is.numbered.1, end),
        owner_small key.domain key.nspace is.owner,
        is.nspace,
        omega (arith, alias),
        omega (arith, is.blob),
        omega (arith, is.list),
        is.limit,
        omega (arith, is.uses.0, is.limit),
      ),
      omega (arith, held_long key, alias, is.blob, is.list),
      omega arith,
    )

grant_is_record : (next : ℕ) (keys : List KeyRecord) → next ≤ NUMBERS_END → (row : GrantRow) → IsStorableGrant next keys row → IsRecord area_kinds (records.HeldGrant row)
grant_is_record next keys end row is = ((omega (arith, is.numbered.1, end), is.fields.0, is.fields.1, is.fields.2), omega (arith, grant_long row), omega arith)

pub snapshot_records : (part : Lasting) → IsStorable part → AllByRecursion (IsRecord area_kinds) (reverse (snapshot part))
snapshot_records part is = all_reverse (IsRecord area_kinds) (snapshot part) (
  (
    (omega (arith, is.next_key.1), omega (arith, is.next_grant.1)),
    omega (arith, next_long part.next_key part.next_grant),
    omega arith,
  ),
  all_append (IsRecord area_kinds) (map held_key part.keys) (map held_grant part.grants)
      (all_map (IsStorableKey part.next_key) (IsRecord area_kinds) held_key (key_is_record part.next_key is.next_key.1) part.keys is.keys)
      (all_map (IsStorableGrant part.next_grant part.keys) (IsRecord area_kinds) held_grant (grant_is_record part.next_grant part.keys is.next_grant.1) part.grants is.grants),
)
