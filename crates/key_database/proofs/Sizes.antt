-- How many bytes the record of a change has, where its need is met.
use Rattle.std.proofs.Common.{◌≡◌, ℕ, ◌+◌, ◌≤◌, true, ◌&&◌, ◌==◌, List, [], ◌∷◌, ◌++◌, length, arith, length-append}
use Rattle.std.specs.Prelude.{nat_le}
use Rattle.std.specs.Str.{is_utf8}
use Rattle.byteorder.specs.Endian.{big_bytes}
use Rattle.byteorder.specs.Numbers.{length-bytes_high_first}
use Rattle.tags.specs.Descriptor.{is_alias}
use Rattle.std.proofs.lemmas.Bool.{and_parts, leb-true}
use Rattle.journal_records.specs.declared.change.Change.{Change}
use Rattle.journal_records.specs.declared.change.Change.TheVariants.{Create, Delete, Use, Grant, Ungrant, Clear, Removed, Upgrade}
use Rattle.journal_records.specs.LastingPart.{Lasting, some_has_id}
use Rattle.journal_records.specs.Needs.{is_met, is_number_left, is_owner, has_place_for}
use Rattle.journal_records.specs.Spelling.{counted, body_of, record_tail, closed_of}
use Rattle.tags.specs.declared.limits.TheConstants.{ALIAS_BYTES, BLOB_BYTES, KEPT_LIST_BYTES, RECORD_BYTES}

length_counted : (bytes : List ℕ) → length (counted bytes) ≡ 4 + length bytes
length_counted bytes = omega (arith, length-append (big_bytes 4 (length bytes)) bytes, length-bytes_high_first 4 (length bytes))

sum_of : (id domain nspace limit : ℕ) (alias blob list : List ℕ) → length (body_of (Create id domain nspace alias blob list limit)) ≡ 34 + length alias + length blob + length list
sum_of id domain nspace limit alias blob list =
    omega (
      arith,
      length-bytes_high_first 8 id,
      length-bytes_high_first 8 nspace,
      length-bytes_high_first 4 limit,
      length_counted alias,
      length_counted blob,
      length_counted list,
      length-append (big_bytes 8 id) (domain ∷ (big_bytes 8 nspace ++ (counted alias ++ (counted blob ++ (counted list ++ big_bytes 4 limit))))),
      length-append (big_bytes 8 nspace) (counted alias ++ (counted blob ++ (counted list ++ big_bytes 4 limit))),
      length-append (counted alias) (counted blob ++ (counted list ++ big_bytes 4 limit)),
      length-append (counted blob) (counted list ++ big_bytes 4 limit),
      length-append (counted list) (big_bytes 4 limit),
    )

pub small_body : (part : Lasting) (change : Change) → is_met part change ≡ true → length (body_of change) ≤ 10757
small_body part (Create id domain nspace alias blob list limit) met =
    let first = and_parts ((id == part.next_key) && is_number_left id) (is_owner domain nspace && (is_alias alias && (nat_le (length blob) BLOB_BYTES && (nat_le (length list) KEPT_LIST_BYTES && has_place_for domain nspace alias part)))) met in
    let second = and_parts (is_owner domain nspace) (is_alias alias && (nat_le (length blob) BLOB_BYTES && (nat_le (length list) KEPT_LIST_BYTES && has_place_for domain nspace alias part))) first.1 in
    let third = and_parts (is_alias alias) (nat_le (length blob) BLOB_BYTES && (nat_le (length list) KEPT_LIST_BYTES && has_place_for domain nspace alias part)) second.1 in
    let fourth = and_parts (nat_le (length blob) BLOB_BYTES) (nat_le (length list) KEPT_LIST_BYTES && has_place_for domain nspace alias part) third.1 in
    let fifth = and_parts (nat_le (length list) KEPT_LIST_BYTES) (has_place_for domain nspace alias part) fourth.1 in
    let name = and_parts (nat_le 1 (length alias)) (nat_le (length alias) ALIAS_BYTES && is_utf8 alias) third.0 in
    let long = and_parts (nat_le (length alias) ALIAS_BYTES) (is_utf8 alias) name.1 in
    omega (arith, sum_of id domain nspace limit alias blob list, leb-true (length alias) ALIAS_BYTES long.0, leb-true (length blob) BLOB_BYTES fourth.0, leb-true (length list) KEPT_LIST_BYTES fifth.0)
small_body part (Delete id) met = omega (arith, length-bytes_high_first 8 id)
small_body part (Use id) met = omega (arith, length-bytes_high_first 8 id)
small_body part (Grant row) met =
    omega (
      arith,
      length-bytes_high_first 8 row.grant,
      length-bytes_high_first 8 row.key,
      length-bytes_high_first 4 row.uid,
      length-bytes_high_first 4 row.bits,
      length-append (big_bytes 8 row.grant) (big_bytes 8 row.key ++ (big_bytes 4 row.uid ++ big_bytes 4 row.bits)),
      length-append (big_bytes 8 row.key) (big_bytes 4 row.uid ++ big_bytes 4 row.bits),
      length-append (big_bytes 4 row.uid) (big_bytes 4 row.bits),
    )
small_body part (Ungrant grant) met = omega (arith, length-bytes_high_first 8 grant)
small_body part (Clear domain nspace) met = omega (arith, length-bytes_high_first 8 nspace)
small_body part (Removed user) met = omega (arith, length-bytes_high_first 4 user)
small_body part (Upgrade id blob list) met =
    let small = nat_le (length blob) BLOB_BYTES in
    let short = nat_le (length list) KEPT_LIST_BYTES in
    let sizes = and_parts small short (and_parts (some_has_id id part.keys) (small && short) met).1 in
    omega (
      arith,
      length-bytes_high_first 8 id,
      length_counted blob,
      length_counted list,
      length-append (big_bytes 8 id) (counted blob ++ counted list),
      length-append (counted blob) (counted list),
      leb-true (length blob) BLOB_BYTES sizes.0,
      leb-true (length list) KEPT_LIST_BYTES sizes.1,
    )

pub small_record : (part : Lasting) (change : Change) → is_met part change ≡ true → length (closed_of change) ≤ RECORD_BYTES
unfolding record_tail
small_record part change met = omega (arith, small_body part change met, length_counted (body_of change), length-append (counted (body_of change)) (0 ∷ []))
