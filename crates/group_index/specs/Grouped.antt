-- Numbers in groups: what a look-up finds, and what a change is.
use Rattle.std.specs.Prelude.{◌≡◌, ◌<◌, ◌≤◌, ◌+◌, ◌*◌, ◌^◌, ◌==◌, ℕ, Bool, not, List, [], ◌∷◌, ◌++◌, length, map, filter, if◌then◌else◌}
use Rattle.std.specs.List.{AllByRecursion, list_any}
use Rattle.slot_chain.specs.Ordered.{IsOrdered}
use Rattle.group_index.specs.declared.index.Grouped.{Grouped}

-- the pairs as they are seen
pub record GroupTable : Type 0 where
  -- in the order of group and number
  pub pairs : List Grouped
  -- for how many of them there is memory
  pub room : ℕ

abbrev pub seen : List Grouped → ℕ → GroupTable
seen pairs room = record { pairs = pairs; room = room }

-- by which the pairs are in order
abbrev pub rank : Grouped → ℕ
rank pair = pair.group * 2 ^ 64 + pair.number

-- a number is one of 64 bits, so that the order is that of the groups first
abbrev pub IsSmall : Grouped → Type 0
IsSmall pair = pair.number < 2 ^ 64

-- what is kept of the pairs
pub record IsKept (pairs : List Grouped) : Type 0 where
  pub order : IsOrdered rank pairs
  pub small : AllByRecursion IsSmall pairs

abbrev pub number_of : Grouped → ℕ
number_of pair = pair.number

abbrev pub is_in : ℕ → Grouped → Bool
is_in group pair = pair.group == group

abbrev pub numbers_among : List Grouped → ℕ → List ℕ
numbers_among pairs group = map number_of (filter (is_in group) pairs)

-- the numbers of a group, which rise
abbrev pub numbers_in : GroupTable → ℕ → List ℕ
numbers_in index group = numbers_among index.pairs group

-- how many numbers there are in all groups
abbrev pub count_in : GroupTable → ℕ
count_in index = length index.pairs

-- for how many there is room
abbrev pub room_in : GroupTable → ℕ
room_in index = index.room

-- numbers without one of them
abbrev pub without : ℕ → List ℕ → List ℕ
without number = filter (λ other. not (other == number))

-- a group has a number
abbrev pub has : GroupTable → ℕ → ℕ → Bool
has index group number = list_any (λ other. other == number) (numbers_in index group)

pub record IsEmpty (index : GroupTable) : Type 0 where
  pub numbers : (group : ℕ) → numbers_in index group ≡ []
  pub count : count_in index ≡ 0

-- a number comes behind those of its group, and the other groups are as they were
pub record Adds (group number : ℕ) (old new : GroupTable) : Type 0 where
  pub numbers : (other : ℕ) → numbers_in new other ≡ (if group == other then numbers_in old other ++ number ∷ [] else numbers_in old other)
  pub count : count_in new ≡ count_in old + 1
  pub room : room_in old ≤ room_in new

-- a number is gone from its group, where it was there, and the other groups are as they were
pub record Drops (group number : ℕ) (old new : GroupTable) : Type 0 where
  pub numbers : (other : ℕ) → numbers_in new other ≡ (if group == other then without number (numbers_in old other) else numbers_in old other)
  pub count : count_in new + (if has old group number then 1 else 0) ≡ count_in old
  pub room : room_in old ≤ room_in new
