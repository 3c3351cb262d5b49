-- The table of keys as its callers see it: the rows of the maps, and behind them the newest row, where there is one.
use Rattle.std.specs.Prelude.{◌<◌, ◌≤◌, ℕ, List, [], ◌∷◌, Option, None, Some}
use Rattle.journal_records.specs.declared.record.KeyRecord.{KeyRecord}

-- the keys in the order of their numbers, and for how many more there is room
pub record Table : Type 0 where
  pub rows : List KeyRecord
  pub spare : ℕ

abbrev pub listed : Option KeyRecord → List KeyRecord
listed None = []
listed (Some key) = key ∷ []

-- how many more keys may become the newest
abbrev pub places : Option KeyRecord → ℕ
places None = 1
places (Some key) = 0

-- there is room for one more key
abbrev pub HasRoom : Table → Type 0
HasRoom table = 0 < table.spare

-- room for at least as many more
abbrev pub KeepsRoom : Table → Table → Type 0
KeepsRoom old new = old.spare ≤ new.spare
