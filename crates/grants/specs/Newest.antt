-- The rows of the maps, and behind them the newest row, where there is one.
use Rattle.std.specs.Prelude.{ℕ, List, [], ◌∷◌, Option, None, Some}
use Rattle.grants.specs.declared.row.GrantRow.{GrantRow}

abbrev pub listed : Option GrantRow → List GrantRow
listed None = []
listed (Some row) = row ∷ []

-- how many more rows may become the newest
abbrev pub places : Option GrantRow → ℕ
places None = 1
places (Some row) = 0
