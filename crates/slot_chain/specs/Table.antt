-- What contracts see: a list of places for each uid.
use Rattle.std.specs.Prelude.{◌≡◌, ◌<◌, ◌==◌, ◌++◌, ℕ, Bool, true, false, not, List, [], ◌∷◌, map, filter, find, length, count_by, Option, Some, None, if◌then◌else◌}
use Rattle.std.specs.List.{list_any}
use Rattle.slot_chain.specs.declared.heads.Head.{Head}
use Rattle.slot_chain.specs.Linked.{NoneIs, AllDiffer, places_of}

-- the list of a uid
pub record Row : Type 0 where
  pub uid : ℕ
  pub places : List ℕ

pub record ChainTable : Type 0 where
  -- how many places there are
  pub places : ℕ
  -- the lists that have a place, in an order of which nothing is said
  pub rows : List Row

abbrev pub is_of : ℕ → Row → Bool
is_of uid row = row.uid == uid

abbrev pub places_in : Option Row → List ℕ
places_in None = []
places_in (Some row) = row.places

-- the places of a uid, the oldest last use first
abbrev pub list_in : ChainTable → ℕ → List ℕ
list_in chains uid = places_in (find (is_of uid) chains.rows)

abbrev pub places_count : ChainTable → ℕ
places_count chains = chains.places

abbrev pub uid_in : Row → ℕ
uid_in row = row.uid

-- the uids whose list is not empty
abbrev pub owners_of : ChainTable → List ℕ
owners_of chains = map uid_in chains.rows

abbrev pub row_of : List ℕ → Head → Row
row_of after head = record { uid = head.uid; places = places_of after head }

abbrev pub seen : List ℕ → List Head → ChainTable
seen after heads = record { places = length after; rows = map (row_of after) heads }

-- so many places, and no list has one
pub record IsEmpty (chains : ChainTable) (count : ℕ) : Type 0 where
  pub places : places_count chains ≡ count
  pub lists : (uid : ℕ) → list_in chains uid ≡ []
  pub owners : owners_of chains ≡ []

abbrev pub is_in : ℕ → List ℕ → Bool
is_in place places = list_any (λ p. p == place) places

abbrev pub has_place : List ℕ → Bool
has_place [] = false
has_place (p ∷ ps) = true

-- ---- what always holds

pub record IsSound (chains : ChainTable) : Type 0 where
  -- no place stands twice in a list, or in two
  pub differ : (uid : ℕ) → AllDiffer (list_in chains uid)
  pub apart : (place one other : ℕ) → is_in place (list_in chains one) ≡ true → is_in place (list_in chains other) ≡ true → one ≡ other
  -- each is below the count of places
  pub within : (uid place : ℕ) → is_in place (list_in chains uid) ≡ true → place < places_count chains
  -- a uid stands once among the owners where its list is not empty, and else not
  pub owners : (uid : ℕ) → count_by (λ owner. owner == uid) (owners_of chains) ≡ (if has_place (list_in chains uid) then 1 else 0)

-- ---- what a call needs, and what it makes of the lists

-- a place is in no list
abbrev pub IsInNone : ChainTable → ℕ → Type 0
IsInNone chains place = (uid : ℕ) → NoneIs place (list_in chains uid)

-- a place is in the list of some uid
abbrev pub IsInOne : ChainTable → ℕ → Type 0
IsInOne chains place = (uid : ℕ) × (is_in place (list_in chains uid) ≡ true)

-- the place comes behind the others of this uid; all other lists are as they were
pub record Pushes (old new : ChainTable) (uid place : ℕ) : Type 0 where
  pub places : places_count new ≡ places_count old
  pub lists : (other : ℕ) → list_in new other ≡ (if other == uid then list_in old other ++ place ∷ [] else list_in old other)

abbrev pub without : ℕ → List ℕ → List ℕ
without place places = filter (λ p. not (p == place)) places

-- the place is in no list; all lists are else as they were
pub record Unlinks (old new : ChainTable) (place : ℕ) : Type 0 where
  pub places : places_count new ≡ places_count old
  pub lists : (uid : ℕ) → list_in new uid ≡ without place (list_in old uid)
