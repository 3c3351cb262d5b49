-- The list that a line spells is of bytes.
use Rattle.std.proofs.Common.{◌≡◌, ◌<◌, ◌^◌, ◌/◌, ℕ, zero, suc, List, [], ◌∷◌, ◌++◌, length, nat_lt, Bool, true, false, Option, Some, None, codes, subst, arith}
use Rattle.std.proofs.lemmas.Nat.{mod_below}
use Rattle.std.proofs.lemmas.Option.{cond_some}
use Rattle.std.specs.Int.{byte_at}
use Rattle.std.specs.List.{AllByRecursion, flat_map}
use Rattle.hex.specs.Hex.{IsBytes}
use Rattle.byteorder.specs.Endian.{big_bytes}
use Rattle.serde_json.specs.Data.{Data, Items, no_items, item}
use Rattle.serde_json.specs.Find.{get, as_str, as_bool, as_array}
use Rattle.tags.specs.Tag.{type_of, tag_named, number_of}
use Rattle.tags.specs.declared.param.Param.{Param}
use Rattle.tags.specs.declared.param.ParamValue.{ParamValue}
use Rattle.tags.specs.declared.param.ParamValue.TheVariants.{Number, Flag, Raw}
use Rattle.tags.specs.declared.tag.TagType.{TagType}
use Rattle.tags.specs.declared.tag.TagType.TheVariants as types
use Rattle.tag_lists.specs.Order.{shape_of}
use Rattle.tag_lists.specs.Spelling.{spelled_value, spelled, spelling}
use Rattle.tag_lists.specs.declared.shape.Shape.{Shape}
use Rattle.tag_lists.specs.declared.shape.Shape.TheVariants as shapes
use Rattle.line_members.specs.Members.{◌>>=◌, hex_of, u32_of, u64_of, two_of, each_of}
use Rattle.line_members.proofs.Finds.{both_found, some_is, hex_found, hex_text_found}
use Rattle.script_lines.specs.Params.{short_bytes, flag_of, value_of, param_of, params_in, list_of_params, text_or_pairs, list_of, list_at, params_of}

-- ---- bytes

none : IsBytes []
none i = omega arith

one_more : (x : ℕ) (xs : List ℕ) → x < 256 → IsBytes xs → IsBytes (x ∷ xs)
one_more x xs h k zero = h
one_more x xs h k (suc i) = k i

both : (xs ys : List ℕ) → IsBytes xs → IsBytes ys → IsBytes (xs ++ ys)
both [] ys h k = k
both (x ∷ xs) ys h k = one_more x (xs ++ ys) (h zero) (both xs ys (λ i. h (suc i)) k)

a_byte : (k n : ℕ) → byte_at k n < 256
a_byte zero n = mod_below n 256 (omega arith)
a_byte (suc k) n = mod_below (n / 256 ^ suc k) 256 (omega arith)

of_number : (k n : ℕ) → IsBytes (big_bytes k n)
of_number zero n = none
of_number (suc k) n = one_more (byte_at k n) _ (a_byte k n) (of_number k n)

abbrev pub AreBytes : ParamValue → Type 0
AreBytes (Number n) = Unit {0}
AreBytes Flag = Unit {0}
AreBytes (Raw bytes) = IsBytes bytes

of_value : (shape : Shape) (value : ParamValue) → AreBytes value → IsBytes (spelled_value shape value)
of_value shapes.Short (Number n) h = of_number 4 n
of_value shapes.Short Flag h = none
of_value shapes.Short (Raw bytes) h = none
of_value shapes.Long (Number n) h = of_number 8 n
of_value shapes.Long Flag h = none
of_value shapes.Long (Raw bytes) h = none
of_value shapes.Truth (Number n) h = none
of_value shapes.Truth Flag h = one_more 1 [] (omega arith) none
of_value shapes.Truth (Raw bytes) h = none
of_value shapes.Sized (Number n) h = none
of_value shapes.Sized Flag h = none
of_value shapes.Sized (Raw bytes) h = both (big_bytes 2 (length bytes)) bytes (of_number 2 (length bytes)) h

of_params : (ps : List Param) → AllByRecursion (λ p. AreBytes p.value) ps → IsBytes (flat_map spelled ps)
of_params [] h = none
of_params (p ∷ ps) h =
    both (spelled p) (flat_map spelled ps) (both (big_bytes 4 (number_of p.tag)) _ (of_number 4 (number_of p.tag)) (of_value (shape_of (type_of p.tag)) p.value h.0)) (of_params ps h.1)

of_spelling : (ps : List Param) → AllByRecursion (λ p. AreBytes p.value) ps → IsBytes (spelling ps)
of_spelling ps h = both (big_bytes 2 (length ps)) (flat_map spelled ps) (of_number 2 (length ps)) (of_params ps h)

-- ---- what is found

numbered : (o : Option ℕ) (v : ParamValue) → (o >>= λ n. Some (Number n)) ≡ Some v → AreBytes v
numbered None v h = absurd cc
numbered (Some n) v h = subst AreBytes (some_is (Number n) v h) tt

flagged : (o : Option Bool) (v : ParamValue) → (o >>= flag_of) ≡ Some v → AreBytes v
flagged None v h = absurd cc
flagged (Some true) v h = subst AreBytes (some_is Flag v h) tt
flagged (Some false) v h = absurd cc

raw : (value : Data) (v : ParamValue) → (hex_of value >>= short_bytes) ≡ Some v → AreBytes v
raw value v h =
    let bytes = both_found (hex_of value) short_bytes v h in
    let short = cond_some (nat_lt (length bytes.0) (2 ^ 16)) (Raw bytes.0) v bytes.2 in
    subst AreBytes short.1 (hex_found value bytes.0 bytes.1)

value_found : (kind : TagType) (value : Data) (v : ParamValue) → value_of kind value ≡ Some v → AreBytes v
value_found types.Enum value v h = numbered (u32_of value) v h
value_found types.EnumRep value v h = numbered (u32_of value) v h
value_found types.Uint value v h = numbered (u32_of value) v h
value_found types.UintRep value v h = numbered (u32_of value) v h
value_found types.Ulong value v h = numbered (u64_of value) v h
value_found types.Date value v h = numbered (u64_of value) v h
value_found types.Bool value v h = flagged (as_bool value) v h
value_found types.Bignum value v h = absurd cc
value_found types.Bytes value v h = raw value v h
value_found types.UlongRep value v h = numbered (u64_of value) v h

param_found : (pair : Data) (p : Param) → param_of pair ≡ Some p → AreBytes p.value
param_found pair p h =
    let parts = both_found (two_of pair) _ p h in
    let name = both_found (as_str parts.0.0) _ p parts.2 in
    let tag = both_found (tag_named name.0) _ p name.2 in
    let value = both_found (value_of (type_of tag.0) parts.0.1) _ p tag.2 in
    subst (λ it. AreBytes it.value) (some_is (record { tag = tag.0; value = value.0 }) p value.2) (value_found (type_of tag.0) parts.0.1 value.0 value.1)

pairs_found : (pairs : Items) (ps : List Param) → params_in pairs ≡ Some ps → AllByRecursion (λ p. AreBytes p.value) ps
pairs_found no_items ps h = subst (AllByRecursion (λ p. AreBytes p.value)) (some_is [] ps h) tt
pairs_found (item pair pairs) ps h =
    let first = both_found (param_of pair) _ ps h in
    let rest = both_found (each_of param_of pairs) _ ps first.2 in
    subst (AllByRecursion (λ p. AreBytes p.value)) (some_is (first.0 ∷ rest.0) ps rest.2) (param_found pair first.0 first.1, pairs_found pairs rest.0 rest.1)

text_or_pairs_found : (text : Option (List ℕ)) (pairs : Option Items) (bytes : List ℕ) → text_or_pairs text pairs ≡ Some bytes → IsBytes bytes
text_or_pairs_found (Some text) pairs bytes h = hex_text_found text bytes h
text_or_pairs_found None pairs bytes h =
    let items = both_found pairs _ bytes h in
    let params = both_found (params_in items.0) list_of_params bytes items.2 in
    let few = cond_some (nat_lt (length params.0) (2 ^ 16)) (spelling params.0) bytes params.2 in
    subst IsBytes few.1 (of_spelling params.0 (pairs_found items.0 params.0 params.1))

list_found : (o : Option Data) (bytes : List ℕ) → list_of o ≡ Some bytes → IsBytes bytes
list_found None bytes h = subst IsBytes (some_is (spelling []) bytes h) (of_spelling [] tt)
list_found (Some value) bytes h = text_or_pairs_found (as_str value) (as_array value) bytes h

pub list_at_found : (name : List ℕ) (members : Data) (bytes : List ℕ) → list_at name members ≡ Some bytes → IsBytes bytes
list_at_found name members bytes h = list_found (get name members) bytes h

pub params_found : (members : Data) (bytes : List ℕ) → params_of members ≡ Some bytes → IsBytes bytes
params_found members bytes h = list_at_found (codes "params") members bytes h
