-- The table of grants as its callers see it: what a look-up finds, and what a change is.
use Rattle.std.specs.Prelude.{◌≡◌, ◌<◌, ◌≤◌, ℕ, Bool, not, List, [], ◌∷◌, ◌++◌, map, find, filter, length, Option, None, Some, IsSome, IsSomeAnd, if◌then◌else◌}
use Rattle.grants.specs.declared.row.GrantRow.{GrantRow}
use Rattle.grants.specs.Rows.{IsTable, is_past, is_numbered, is_for, is_of, with_bits, NoneOf}

-- the rows in the order of their numbers, and for how many more there is room
pub record Table : Type 0 where
  pub rows : List GrantRow
  pub spare : ℕ

-- the grant of a number
abbrev pub numbered : Table → ℕ → Option GrantRow
numbered table number = find (is_numbered number) table.rows

-- the grant of a key to a uid
abbrev pub shared : Table → ℕ → ℕ → Option GrantRow
shared table key uid = find (is_for key uid) table.rows

-- the grant of the least number greater than past
abbrev pub next_after : Table → Option ℕ → Option GrantRow
next_after table past = find (is_past past) table.rows

-- how many grants there are
abbrev pub grant_count : Table → ℕ
grant_count table = length table.rows

-- the numbers rise, and no two grants have one key and uid
abbrev pub IsOrderly : Table → Type 0
IsOrderly table = IsTable table.rows

abbrev pub IsEmpty : Table → Type 0
IsEmpty table = table.rows ≡ []

-- there is room for one more grant
abbrev pub HasRoom : Table → Type 0
HasRoom table = 0 < table.spare

-- the row's key is not shared with its uid yet
abbrev pub IsNew : Table → GrantRow → Type 0
IsNew table row = shared table row.key row.uid ≡ None

-- the row's key is shared with its uid
abbrev pub IsHeld : Table → GrantRow → Type 0
IsHeld table row = IsSome (shared table row.key row.uid)

-- no grant has this number, or a greater one
abbrev pub AreBelow : Table → ℕ → Type 0
AreBelow table number = (other : ℕ) → number ≤ other → numbered table other ≡ None

-- the row's number is greater than each number held
abbrev pub IsNext : Table → GrantRow → Type 0
IsNext table row = AreBelow table row.grant

-- a row that would be added has a number less than this one
abbrev pub IsAddedBelow : Table → GrantRow → ℕ → Type 0
IsAddedBelow table row number = IsNew table row → row.grant < number

-- a row shares this key with this uid, and is the one that its number finds
pub record IsHolderRow (table : Table) (key uid : ℕ) (row : GrantRow) : Type 0 where
  pub of_key : row.key ≡ key
  pub to_uid : row.uid ≡ uid
  pub same : numbered table row.grant ≡ Some row

-- the look-up found a grant of this key
abbrev pub FindsOf : ℕ → Option GrantRow → Type 0
FindsOf key found = IsSomeAnd found (λ row. row.key ≡ key)

-- the same grants
abbrev pub SameGrants : Table → Table → Type 0
SameGrants old new = new.rows ≡ old.rows

-- room for at least as many more
abbrev pub KeepsRoom : Table → Table → Type 0
KeepsRoom old new = old.spare ≤ new.spare

-- one grant more, behind the others
abbrev pub AddsGrant : Table → Table → GrantRow → Type 0
AddsGrant old new row = new.rows ≡ old.rows ++ row ∷ []

-- the grant of the row's key to its uid has the row's bits, and stays otherwise
abbrev pub SetsBits : Table → Table → GrantRow → Type 0
SetsBits old new row = new.rows ≡ map (with_bits row.key row.uid row.bits) old.rows

-- the grant of a number is out
abbrev pub DropsGrant : Table → Table → ℕ → Type 0
DropsGrant old new number = new.rows ≡ filter (λ row. not (is_numbered number row)) old.rows

-- each grant of a key is out
abbrev pub DropsKey : Table → Table → ℕ → Type 0
DropsKey old new key = new.rows ≡ filter (λ row. not (is_of key row)) old.rows

-- a row that is granted, or the one that was found and takes its bits
abbrev pub granted_of : Option GrantRow → GrantRow → GrantRow
granted_of None row = row
granted_of (Some held) row = record held { bits = row.bits }

-- the grant that stands once a row was granted
abbrev pub granted : Table → GrantRow → GrantRow
granted table row = granted_of (shared table row.key row.uid) row

-- what the look-up by number finds then
abbrev pub numbered_after : Table → GrantRow → ℕ → Option GrantRow
numbered_after table row number =
    if is_numbered number (granted table row) then Some (granted table row) else numbered table number

-- what the look-up by key and uid finds then
abbrev pub shared_after : Table → GrantRow → ℕ → ℕ → Option GrantRow
shared_after table row key uid = if is_for key uid row then Some (granted table row) else shared table key uid

-- what was found, unless it passes the test
abbrev pub unless : (GrantRow → Bool) → Option GrantRow → Option GrantRow
unless test None = None
unless test (Some row) = if test row then None else Some row

-- no grant shares this key
abbrev pub HasNone : Table → ℕ → Type 0
HasNone table key = NoneOf key table.rows
