-- The parameters of a script line, and the encoded list that they spell.
use Rattle.std.specs.Prelude.{ℕ, ◌^◌, nat_lt, List, [], codes, length, Bool, true, false, if◌then◌else◌, Option, Some, None}
use Rattle.tags.specs.Tag.{type_of, tag_named}
use Rattle.tags.specs.declared.param.Param.{Param}
use Rattle.tags.specs.declared.param.ParamValue.{ParamValue}
use Rattle.tags.specs.declared.param.ParamValue.TheVariants.{Number, Flag, Raw}
use Rattle.tags.specs.declared.tag.TagType.{TagType}
use Rattle.tags.specs.declared.tag.TagType.TheVariants as types
use Rattle.tag_lists.specs.Spelling.{spelling}
use Rattle.serde_json.specs.Data.{Data, Items}
use Rattle.serde_json.specs.Find.{get, as_str, as_bool, as_array}
use Rattle.line_members.specs.Members.{◌>>=◌, u32_of, u64_of, bytes_of_hex, hex_of, two_of, each_of}

-- at most 65,535 bytes
abbrev pub short_bytes : List ℕ → Option ParamValue
short_bytes bytes = if nat_lt (length bytes) (2 ^ 16) then Some (Raw bytes) else None

-- a flag is only ever true
abbrev pub flag_of : Bool → Option ParamValue
flag_of true = Some Flag
flag_of false = None

-- the value of a tag of a type: a number of 32 or 64 bits, true, or hex text
abbrev pub value_of : TagType → Data → Option ParamValue
value_of types.Enum value = u32_of value >>= λ n. Some (Number n)
value_of types.EnumRep value = u32_of value >>= λ n. Some (Number n)
value_of types.Uint value = u32_of value >>= λ n. Some (Number n)
value_of types.UintRep value = u32_of value >>= λ n. Some (Number n)
value_of types.Ulong value = u64_of value >>= λ n. Some (Number n)
value_of types.Date value = u64_of value >>= λ n. Some (Number n)
value_of types.Bool value = as_bool value >>= flag_of
value_of types.Bignum value = None
value_of types.Bytes value = hex_of value >>= short_bytes
value_of types.UlongRep value = u64_of value >>= λ n. Some (Number n)

-- a pair of a tag's name and a value
abbrev pub param_of : Data → Option Param
param_of pair = do
  both ← two_of pair
  name ← as_str both.0
  tag ← tag_named name
  value ← value_of (type_of tag) both.1
  Some (record { tag = tag; value = value })

-- the pairs, in the order given
abbrev pub params_in : Items → Option (List Param)
params_in pairs = each_of param_of pairs

-- the list that they spell, of at most 65,535
abbrev pub list_of_params : List Param → Option (List ℕ)
list_of_params params = if nat_lt (length params) (2 ^ 16) then Some (spelling params) else None

-- hex text of an encoded list, taken as it is; else an array of pairs
abbrev pub text_or_pairs : Option (List ℕ) → Option Items → Option (List ℕ)
text_or_pairs (Some text) pairs = bytes_of_hex text
text_or_pairs None pairs = pairs >>= λ items. params_in items >>= list_of_params

abbrev pub list_of : Option Data → Option (List ℕ)
list_of None = Some (spelling [])
list_of (Some value) = text_or_pairs (as_str value) (as_array value)

-- the encoded list of a member; the empty list where it is absent
abbrev pub list_at : List ℕ → Data → Option (List ℕ)
list_at name members = list_of (get name members)

abbrev pub params_of : Data → Option (List ℕ)
params_of members = list_at (codes "params") members
