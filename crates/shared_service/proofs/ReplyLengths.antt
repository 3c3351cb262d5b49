-- How long the frames of replies are.
use Rattle.std.proofs.Common.{◌≡◌, ℕ, suc, ◌+◌, ◌*◌, ◌≤◌, ◌<◌, List, [], ◌∷◌, ◌++◌, length, flat_map, Option, Some, None, refl, arith, length-append, zero}
use Rattle.std.proofs.Math.Bridge.{le_prop}
use Rattle.std.proofs.Props.{props}
use Rattle.std.specs.Prelude.{All}
use Rattle.byteorder.specs.Endian.{big_bytes}
use Rattle.tags.specs.declared.rule.RuleTable.{RuleTable}
use Rattle.tags.specs.declared.rule.RuleTable.TheVariants.{K, B, S, A, L}
use Rattle.tags.specs.Rule.{letter_of}
use Rattle.rule_model.specs.declared.event.Act.{Act}
use Rattle.rule_model.specs.declared.event.Act.TheVariants.{GenerateKey, ImportKey, UpgradeKey, ImportWrappedKey, CreateOperation, GetKeyEntry, ListEntriesBatched, Leave}
use Rattle.rule_model.specs.declared.field_sizes.FieldSizes.{FieldSizes}
use Rattle.rule_model.specs.declared.reply.Fields.{Fields}
use Rattle.rule_model.specs.declared.reply.Reply.{Reply}
use Rattle.rule_model.specs.declared.reply.Reply.TheVariants.{Done, Broken, Stopped}
use Rattle.rule_model.specs.ReplyRooms.{FieldsFit, Fits, IsListingWithin, IsWithin, sizes_of}
use Rattle.wire_frames.specs.Replies.{begins_of, bytes_field, calls_of, code_bytes, entries_field, entry_of, facts_of, long_field, numbers_of, reply_body, rule_bytes, short_field, texts_of}
use Rattle.wire_frames.specs.Spelling.{counted}
use Rattle.tags.specs.Code.{code_number}

eight : (x : ℕ) → length (big_bytes 8 x) ≡ 8
eight x = refl

four : (x : ℕ) → length (big_bytes 4 x) ≡ 4
four x = refl

long_few : (number : ℕ) (o : Option ℕ) → length (long_field number o) ≤ 9
long_few number None = omega arith
long_few number (Some x) = omega (arith, eight x)

short_few : (number : ℕ) (o : Option ℕ) → length (short_field number o) ≤ 5
short_few number None = omega arith
short_few number (Some x) = omega (arith, four x)

bytes_few : (number most : ℕ) (o : Option (List ℕ)) → IsWithin most o → length (bytes_field number o) ≤ 5 + most
bytes_few number most None within = omega arith
bytes_few number most (Some bytes) within = omega (arith, length-append (big_bytes 4 (length bytes)) bytes, four (length bytes), within)

all_first : {X : Type 0} (P : X → Type 0) (x : X) (xs : List X) → All P (x ∷ xs) → P x
all_first P x xs all = all zero x (omega arith)

all_rest : {X : Type 0} (P : X → Type 0) (x : X) (xs : List X) → All P (x ∷ xs) → All P xs
all_rest P x xs all k d lt = all (suc k) d (omega arith)

entries_few : (entries : List (List ℕ × ℕ)) → All (λ (entry : List ℕ × ℕ). length entry.0 ≤ 256) entries → length (flat_map entry_of entries) ≤ 268 * length entries
entries_few [] all = omega arith
entries_few (e ∷ entries) all =
    let rest = entries_few entries (all_rest (λ (entry : List ℕ × ℕ). length entry.0 ≤ 256) e entries all) in
    let first = all_first (λ (entry : List ℕ × ℕ). length entry.0 ≤ 256) e entries all in
    omega (arith, length-append (entry_of e) (flat_map entry_of entries), length-append (counted e.0) (big_bytes 8 e.1), length-append (big_bytes 4 (length e.0)) e.0, four (length e.0), eight e.1)

listing_few : (number most : ℕ) (o : Option (List (List ℕ × ℕ))) → most ≤ 256 → IsListingWithin most o → length (entries_field number o) ≤ 68613
listing_few number most None few within = omega arith
listing_few number most (Some entries) few within =
    let long = within.0 in
    let all = entries_few entries within.1 in
    omega (arith, length-append (big_bytes 4 (length entries)) (flat_map entry_of entries), four (length entries))

-- the sizes of a reply are small
pub record AreSmall (sizes : FieldSizes) : Type 0 where
  pub alias : sizes.alias ≤ 1048656
  pub nonce : sizes.nonce ≤ 1048656
  pub out : sizes.out ≤ 1048656
  pub blob : sizes.blob ≤ 1048656
  pub list : sizes.list ≤ 1048656
  pub entries : sizes.entries ≤ 256

pub small_sizes : (act : Act) (out : ℕ) → out ≤ 1048656 → AreSmall (sizes_of act out)
small_sizes (GenerateKey key params) out few = record { alias = omega arith; nonce = omega arith; out = omega arith; blob = omega arith; list = omega arith; entries = omega arith }
small_sizes (ImportKey key params format material) out few = record { alias = omega arith; nonce = omega arith; out = omega arith; blob = omega arith; list = omega arith; entries = omega arith }
small_sizes (UpgradeKey key params) out few = record { alias = omega arith; nonce = omega arith; out = omega arith; blob = omega arith; list = omega arith; entries = omega arith }
small_sizes (ImportWrappedKey key params wrapping wrapped unwrapping) out few = record { alias = omega arith; nonce = omega arith; out = omega arith; blob = omega arith; list = omega arith; entries = omega arith }
small_sizes (CreateOperation key params forced) out few = record { alias = omega arith; nonce = omega arith; out = omega arith; blob = omega arith; list = omega arith; entries = omega arith }
small_sizes (GetKeyEntry key) out few = record { alias = omega arith; nonce = omega arith; out = omega arith; blob = omega arith; list = omega arith; entries = omega arith }
small_sizes (ListEntriesBatched domain nspace past) out few = record { alias = omega arith; nonce = omega arith; out = omega arith; blob = omega arith; list = omega arith; entries = omega arith }
small_sizes (Leave ticket) out few = record { alias = omega arith; nonce = omega arith; out = few; blob = omega arith; list = omega arith; entries = omega arith }
small_sizes _ out few = record { alias = omega arith; nonce = omega arith; out = omega arith; blob = omega arith; list = omega arith; entries = omega arith }

fields_few : (sizes : FieldSizes) (fields : Fields) → AreSmall sizes → FieldsFit sizes fields → length (numbers_of fields ++ texts_of fields) ≤ 6000000
fields_few sizes fields small fit =
    let a = small.alias in
    let b = small.nonce in
    let c = small.out in
    let d = small.blob in
    let e = small.list in
    let begins : length (begins_of fields) ≤ 36 = omega (
      arith,
      length-append (long_field 1 fields.client) (long_field 2 fields.key ++ (long_field 3 fields.op ++ long_field 4 fields.challenge)),
      length-append (long_field 2 fields.key) (long_field 3 fields.op ++ long_field 4 fields.challenge),
      length-append (long_field 3 fields.op) (long_field 4 fields.challenge),
      long_few 1 fields.client,
      long_few 2 fields.key,
      long_few 3 fields.op,
      long_few 4 fields.challenge,
    ) in
    let calls : length (calls_of fields) ≤ 36 = omega (
      arith,
      length-append (long_field 5 fields.ticket) (long_field 6 fields.pruned ++ (long_field 7 fields.grant ++ long_field 8 fields.count)),
      length-append (long_field 6 fields.pruned) (long_field 7 fields.grant ++ long_field 8 fields.count),
      length-append (long_field 7 fields.grant) (long_field 8 fields.count),
      long_few 5 fields.ticket,
      long_few 6 fields.pruned,
      long_few 7 fields.grant,
      long_few 8 fields.count,
    ) in
    let facts : length (facts_of fields) ≤ 19 = omega (
      arith,
      length-append (short_field 9 fields.uses) (short_field 10 fields.domain ++ long_field 11 fields.nspace),
      length-append (short_field 10 fields.domain) (long_field 11 fields.nspace),
      short_few 9 fields.uses,
      short_few 10 fields.domain,
      long_few 11 fields.nspace,
    ) in
    let numbers : length (numbers_of fields) ≤ 91 = omega (arith, length-append (begins_of fields) (calls_of fields ++ facts_of fields), length-append (calls_of fields) (facts_of fields)) in
    let alias = bytes_few 12 sizes.alias fields.alias fit.alias in
    let nonce = bytes_few 13 sizes.nonce fields.nonce fit.nonce in
    let out = bytes_few 14 sizes.out fields.out fit.out in
    let blob = bytes_few 15 sizes.blob fields.blob fit.blob in
    let list = bytes_few 16 sizes.list fields.list fit.list in
    let entries = listing_few 17 sizes.entries fields.entries small.entries fit.entries in
    let texts : length (texts_of fields) ≤ 5400000 = omega (
      arith,
      length-append (bytes_field 12 fields.alias) (bytes_field 13 fields.nonce ++ (bytes_field 14 fields.out ++ (bytes_field 15 fields.blob ++ (bytes_field 16 fields.list ++ entries_field 17 fields.entries)))),
      length-append (bytes_field 13 fields.nonce) (bytes_field 14 fields.out ++ (bytes_field 15 fields.blob ++ (bytes_field 16 fields.list ++ entries_field 17 fields.entries))),
      length-append (bytes_field 14 fields.out) (bytes_field 15 fields.blob ++ (bytes_field 16 fields.list ++ entries_field 17 fields.entries)),
      length-append (bytes_field 15 fields.blob) (bytes_field 16 fields.list ++ entries_field 17 fields.entries),
      length-append (bytes_field 16 fields.list) (entries_field 17 fields.entries),
    ) in
    omega (arith, length-append (numbers_of fields) (texts_of fields))

letter_few : (table : RuleTable) → length (letter_of table) ≡ 1
letter_few K = refl
letter_few B = refl
letter_few S = refl
letter_few A = refl
letter_few L = refl

pub body_few : (sizes : FieldSizes) (reply : Reply) → AreSmall sizes → Fits sizes reply → length (reply_body reply) < 4294967296
unfolding reply_body
body_few sizes (Done fields) small fit = let few = fields_few sizes fields small fit in omega arith
body_few sizes (Broken rule code) small fit = omega (arith, length-append (code_bytes code) (rule_bytes rule), length-append (letter_of rule.table) (rule.number ∷ []), letter_few rule.table, four (Rattle.std.specs.Int.cast_unsigned Rattle.std.specs.Int.w32 (code_number code)))
body_few sizes (Stopped code) small fit = omega (arith, length-append (code_bytes code) (0 ∷ 0 ∷ []), four (Rattle.std.specs.Int.cast_unsigned Rattle.std.specs.Int.w32 (code_number code)))

-- that a reply fits is a proposition
within_prop : (most : ℕ) (o : Option (List ℕ)) → IsProp (IsWithin most o)
within_prop most None = hlevel props
within_prop most (Some bytes) = le_prop

listing_prop : (most : ℕ) (o : Option (List (List ℕ × ℕ))) → IsProp (IsListingWithin most o)
listing_prop most None = hlevel props
listing_prop most (Some entries) = hlevel props

pub fits_prop : (sizes : FieldSizes) (reply : Reply) → IsProp (Fits sizes reply)
fits_prop sizes (Done fields) =
    hlevel (props, within_prop sizes.alias fields.alias, within_prop sizes.nonce fields.nonce, within_prop sizes.out fields.out, within_prop sizes.blob fields.blob, within_prop sizes.list fields.list, listing_prop sizes.entries fields.entries)
fits_prop sizes (Broken rule code) = hlevel props
fits_prop sizes (Stopped code) = hlevel props
