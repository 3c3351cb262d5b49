-- The JSON value of a line (RFC 8259), and the members of an object by their names and their kinds.
use Rattle.std.specs.Prelude.{ℕ, ◌^◌, ◌==◌, nat_lt, List, [], ◌∷◌, codes, length, if◌then◌else◌, Option, Some, None, is_some, Result, Ok, Err}
use Rattle.std.specs.Str.{is_utf8}
use Rattle.hex.specs.Hex.{decode_of}
use Rattle.hex.specs.declared.error.FromHexError.{FromHexError}
use Rattle.serde_json.specs.Data.{Data, Items, no_items, item}
use Rattle.serde_json.specs.Find.{get, at, as_number, as_u64, as_str}
use Rattle.serde_json.specs.Read.{read}
use Rattle.line_members.specs.declared.alias_form.AliasForm.{AliasForm}
use Rattle.line_members.specs.declared.alias_form.AliasForm.TheVariants.{Text, TextOrHex}

-- what the first finds is handed to the second
infixl 10 ◌>>=◌
abbrev pub ◌>>=◌ : {A B : Type 0} → Option A → (A → Option B) → Option B
None >>= f = None
Some x >>= f = f x

-- the JSON value of a line: UTF-8 that is a JSON text
abbrev pub parsed : List ℕ → Option Data
parsed line = if is_utf8 line then read line else None

-- ---- kinds

-- a whole number of at most 64 bits
abbrev pub u64_of : Data → Option ℕ
u64_of value = as_number value >>= as_u64

-- a whole number of at most 32 bits
abbrev pub u32_of : Data → Option ℕ
u32_of value = u64_of value >>= λ n. if nat_lt n (2 ^ 32) then Some n else None

abbrev pub ok_of : {T : Type 0} → Result T FromHexError → Option T
ok_of (Ok x) = Some x
ok_of (Err e) = None

-- the bytes that a hex text spells, in either case of its digits
abbrev pub bytes_of_hex : List ℕ → Option (List ℕ)
bytes_of_hex text = ok_of (decode_of text)

abbrev pub hex_of : Data → Option (List ℕ)
hex_of value = as_str value >>= bytes_of_hex

-- hex of 32 bytes
abbrev pub hex_32_of : Data → Option (List ℕ)
hex_32_of value = hex_of value >>= λ bytes. if length bytes == 32 then Some bytes else None

-- an array of exactly two
abbrev pub two_of : Data → Option (Data × Data)
two_of value = if is_some (at 2 value) then None else (at 0 value >>= λ first. at 1 value >>= λ second. Some (first, second))

-- the items of an array, each of a kind
abbrev pub each_of : {A : Type 0} → (Data → Option A) → Items → Option (List A)
each_of kind no_items = Some []
each_of kind (item value items) = kind value >>= λ first. each_of kind items >>= λ rest. Some (first ∷ rest)

-- ---- members

-- a member that has to be there
abbrev pub needed : {A : Type 0} → (Data → Option A) → List ℕ → Data → Option A
needed kind name members = get name members >>= kind

-- a member of a kind, or what stands for an absent one
abbrev pub kind_or : {A : Type 0} → A → (Data → Option A) → Option Data → Option A
kind_or default kind None = Some default
kind_or default kind (Some value) = kind value

-- a member that may be absent, and then has a value all the same
abbrev pub defaulted : {A : Type 0} → A → (Data → Option A) → List ℕ → Data → Option A
defaulted default kind name members = kind_or default kind (get name members)

abbrev pub present : {A : Type 0} → (Data → Option A) → Data → Option (Option A)
present kind value = kind value >>= λ x. Some (Some x)

-- a member that may be absent
abbrev pub optional : {A : Type 0} → (Data → Option A) → List ℕ → Data → Option (Option A)
optional kind name members = kind_or None (present kind) (get name members)

-- ---- aliases

-- the bytes of an object with hex, where the line may have one
abbrev pub hex_object_of : AliasForm → Data → Option (List ℕ)
hex_object_of Text value = None
hex_object_of TextOrHex value = needed hex_of (codes "hex") value

abbrev pub text_or : Option (List ℕ) → Option (List ℕ) → Option (List ℕ)
text_or (Some text) other = Some text
text_or None other = other

-- a text, whose bytes are UTF-8, as those of each text of a JSON value are
abbrev pub text_of : Data → Option (List ℕ)
text_of value = as_str value >>= λ text. if is_utf8 text then Some text else None

-- an alias: a text, or in a trace also an object with its hex
abbrev pub alias_of : AliasForm → Data → Option (List ℕ)
alias_of form value = text_or (text_of value) (hex_object_of form value)
