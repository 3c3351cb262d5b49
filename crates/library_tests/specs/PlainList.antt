-- A plain list of uids with their places, the newest last, against chains.
use Rattle.std.specs.Prelude.{◌≡◌, ◌==◌, ℕ, Bool, List, map, filter}
use Rattle.std.specs.List.{list_any}
use Rattle.slot_chain.specs.Table.{ChainTable, list_in}

abbrev pub place_of : ℕ × ℕ → ℕ
place_of row = row.1

abbrev pub is_of : ℕ → ℕ × ℕ → Bool
is_of uid row = row.0 == uid

abbrev pub is_at : ℕ → ℕ × ℕ → Bool
is_at place row = row.1 == place

-- a place is in the list
abbrev pub holds : ℕ → List (ℕ × ℕ) → Bool
holds place rows = list_any (is_at place) rows

-- the places of a uid
abbrev pub places_of : ℕ → List (ℕ × ℕ) → List ℕ
places_of uid rows = map place_of (filter (is_of uid) rows)

-- each uid has its places in its chain, in their order
abbrev pub Agrees : ChainTable → List (ℕ × ℕ) → Type 0
Agrees chains rows = (uid : ℕ) → list_in chains uid ≡ places_of uid rows
