-- The JSON values that are written for the fields of a line, and the compact text of an object of them.
use Rattle.std.specs.Prelude.{ℕ, ℤ, List, [], ◌∷◌, ◌++◌, codes, map, if◌then◌else◌, Option, Some, None}
use Rattle.std.specs.Str.{is_utf8}
use Rattle.std.specs.Str.Lossy.{utf8_lossy}
use Rattle.hex.specs.Hex.{encode_lower}
use Rattle.serde_json.specs.Data.{Data, number, string, array, object, unsigned, item, no_items, Members, no_members, put}
use Rattle.serde_json.specs.Find.{of_integer}
use Rattle.serde_json.specs.View.{items_of}
use Rattle.serde_json.specs.Written.{compact_text}

-- ---- values

abbrev pub number_data : ℕ → Data
number_data n = number (unsigned n)

abbrev pub signed_data : ℤ → Data
signed_data z = number (of_integer z)

-- bytes as lower-case hex
abbrev pub hex_data : List ℕ → Data
hex_data bytes = string (encode_lower bytes)

-- text as it is; bytes that are no UTF-8 as the replacement character U+FFFD
abbrev pub text_data : List ℕ → Data
text_data text = string (utf8_lossy text)

-- an alias as its text, or where it is no UTF-8 as an object with its hex
abbrev pub alias_data : List ℕ → Data
alias_data alias = if is_utf8 alias then string alias else object (put (codes "hex") (hex_data alias) no_members)

-- an entry of a listing: the alias and the key's id
abbrev pub entry_data : List ℕ × ℕ → Data
entry_data entry = array (item (text_data entry.0) (item (number_data entry.1) no_items))

abbrev pub entries_data : List (List ℕ × ℕ) → Data
entries_data entries = array (items_of (map entry_data entries))

-- ---- members

-- the members, with this one where there is such a field
abbrev pub with_field : {A : Type 0} → (A → Data) → List ℕ → Option A → Members → Members
with_field written name None members = members
with_field written name (Some x) members = put name (written x) members

-- the compact text of an object, and LF
abbrev pub object_line : Members → List ℕ
object_line members = compact_text (object members) ++ 10 ∷ []
