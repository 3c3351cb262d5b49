-- Rows of grants, as lists.
use Rattle.std.specs.Prelude.{◌≡◌, ◌<◌, ℕ, nat_lt, Option, None, Some, Bool, true, false, ◌==◌, ◌&&◌, List, [], ◌∷◌, if◌then◌else◌, ⊤}
use Rattle.std.specs.List.{AllByRecursion}
use Rattle.grants.specs.declared.row.GrantRow.{GrantRow}

-- whether a row has this number
abbrev pub is_numbered : ℕ → GrantRow → Bool
is_numbered number row = row.grant == number

-- whether a row shares this key with this uid
abbrev pub is_for : ℕ → ℕ → GrantRow → Bool
is_for key uid row = (row.key == key) && (row.uid == uid)

-- whether a row shares this key
abbrev pub is_of : ℕ → GrantRow → Bool
is_of key row = row.key == key

-- the row with these bits, where it shares this key with this uid
abbrev pub with_bits : ℕ → ℕ → ℕ → GrantRow → GrantRow
with_bits key uid bits row = if is_for key uid row then record row { bits = bits } else row

-- whether a number stands behind another; each stands behind none
abbrev pub is_behind : Option ℕ → ℕ → Bool
is_behind None number = true
is_behind (Some past) number = nat_lt past number

-- whether a row's number does
abbrev pub is_past : Option ℕ → GrantRow → Bool
is_past past row = is_behind past row.grant

-- the later row has a greater number, and another key or uid
abbrev pub IsBefore : GrantRow → GrantRow → Type 0
IsBefore row later = (row.grant < later.grant) × (is_for row.key row.uid later ≡ false)

-- the numbers rise, and no two rows have one key and uid
abbrev pub IsTable : List GrantRow → Type 0
IsTable [] = ⊤
IsTable (row ∷ rows) = AllByRecursion (IsBefore row) rows × IsTable rows

-- no row shares this key
abbrev pub NoneOf : ℕ → List GrantRow → Type 0
NoneOf key rows = AllByRecursion (λ row. is_of key row ≡ false) rows
