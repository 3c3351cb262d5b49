-- What the bytes of policy.json spell, as JSON (RFC 8259). Numbers are read as those of scripts are.
use Rattle.std.specs.Prelude.{ℕ, ◌^◌, nat_le, nat_lt, List, [], ◌∷◌, length, Option, Some, None, if◌then◌else◌, is_some}
use Rattle.std.specs.Str.{is_utf8}
use Rattle.serde_json.specs.Data.{Data, Items, no_items, item}
use Rattle.serde_json.specs.Find.{at, as_array, as_number, as_u64}
use Rattle.serde_json.specs.Read.{read}
use Rattle.tags.specs.declared.policy.PolicyRow.{PolicyRow}
use Rattle.tags.specs.declared.limits.TheConstants.{POLICY_ROWS}

-- what the first finds is handed to the second
infixl 10 ◌>>=◌
abbrev pub ◌>>=◌ : {A B : Type 0} → Option A → (A → Option B) → Option B
None >>= f = None
Some x >>= f = f x

-- a whole number of at most 64 bits
abbrev pub u64_of : Data → Option ℕ
u64_of value = as_number value >>= as_u64

-- a whole number of at most 32 bits
abbrev pub u32_of : Data → Option ℕ
u32_of value = u64_of value >>= λ n. if nat_lt n (2 ^ 32) then Some n else None

-- an array of exactly three: a uid, a namespace and permission bits
abbrev pub row_of : Data → Option PolicyRow
row_of row =
    if is_some (at 3 row) then None else
    (at 0 row >>= u32_of >>= λ uid. at 1 row >>= u64_of >>= λ nspace. at 2 row >>= u32_of >>= λ bits.
    Some (record { uid = uid; nspace = nspace; bits = bits }))

-- the rows, in the order given
abbrev pub rows_in : Items → Option (List PolicyRow)
rows_in no_items = Some []
rows_in (item row rows) = row_of row >>= λ first. rows_in rows >>= λ rest. Some (first ∷ rest)

-- no more of them than the most
abbrev pub few : List PolicyRow → Option (List PolicyRow)
few rows = if nat_le (length rows) POLICY_ROWS then Some rows else None

-- the JSON value of a text: UTF-8 that is a JSON text
abbrev pub parsed : List ℕ → Option Data
parsed bytes = if is_utf8 bytes then read bytes else None

-- the rows of the policy
abbrev pub policy_in : List ℕ → Option (List PolicyRow)
policy_in bytes = parsed bytes >>= as_array >>= rows_in >>= few
