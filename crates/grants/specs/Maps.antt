-- The two maps hold the same rows.
use Rattle.std.specs.Prelude.{◌≡◌, ℕ, List, Option, None, Some, map, find}
use Rattle.std.specs.declared.cmp.Ordering.{Ordering}
use Rattle.std.specs.declared.ops.Bound.{Bound}
use Rattle.std.specs.declared.ops.Bound.TheVariants.{Excluded, Unbounded}
use Rattle.std.specs.Ordering.{nat_cmp, ordering_then}
use Rattle.std.specs.BTreeMap.{get, values}
use Rattle.grants.specs.declared.row.GrantRow.{GrantRow}
use Rattle.grants.specs.declared.maps.GrantMaps.TheInside.{Inside}
use Rattle.grants.specs.Rows.{IsTable, is_for}

-- the order of pairs of a key and a uid
abbrev pub holder_cmp : ℕ × ℕ → ℕ × ℕ → Ordering
holder_cmp a b = ordering_then (nat_cmp a.0 b.0) (nat_cmp a.1 b.1)

-- each row under its number
abbrev pub entries_of : List GrantRow → List (ℕ × GrantRow)
entries_of rows = map (λ (row : GrantRow). (row.grant, row)) rows

-- the first map has each row under its number, and the second finds the same rows by key and uid
pub record IsIndexed (maps : Inside) : Type 0 where
  pub numbered : maps.by_number.entries ≡ entries_of (values maps.by_number)
  pub held : (key uid : ℕ) → get holder_cmp maps.by_holder (key, uid) ≡ find (is_for key uid) (values maps.by_number)
  pub orderly : IsTable (values maps.by_number)

-- where the numbers greater than past begin
abbrev pub start_of : Option ℕ → Bound ℕ
start_of None = Unbounded
start_of (Some past) = Excluded past
