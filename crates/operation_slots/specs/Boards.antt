-- How the operations are kept, and how that is seen.
use Rattle.std.specs.Prelude.{◌≡◌, ◌<◌, ◌≤◌, ◌+◌, ◌-◌, ◌^◌, ◌==◌, nat_lt, ℕ, Bool, List, length, map, filter, get_or, count_by, None, if◌then◌else◌, vec_capacity}
use Rattle.std.specs.List.{AllByRecursion}
use Rattle.slot_chain.specs.Ordered.{IsOrdered}
use Rattle.slot_chain.specs.Table.{ChainTable, list_in, owners_of, places_count}
use Rattle.slot_chain.specs.Table as chains
use Rattle.operation_slots.specs.declared.operation.SlotOperation.{SlotOperation}
use Rattle.operation_slots.specs.declared.board.SlotBoard.{SlotBoard}
use Rattle.operation_slots.specs.declared.cells.Cell.{Cell}
use Rattle.operation_slots.specs.declared.index.Numbered.{Numbered}
use Rattle.operation_slots.specs.Counted.{CountTable, count_in, total, room_in}
use Rattle.operation_slots.specs.Sorted.{in_order}
use Rattle.slot_chain.specs.Linked.{AllDiffer}
use Rattle.operation_slots.specs.Table.{SlotTable, numbers_of, stamps_of, is_idle_of, is_of, made_busy, given_back}

abbrev pub index_number : Numbered → ℕ
index_number row = row.number

abbrev pub index_place : Numbered → ℕ
index_place row = row.place

-- how many times a number stands there
abbrev pub times : ℕ → List ℕ → ℕ
times n = count_by (λ k. k == n)

-- a place that there is may stand once
abbrev pub once_in : ℕ → ℕ → ℕ
once_in n size = if nat_lt n size then 1 else 0

-- there is memory for as many operations as there are slots
pub record HasMemory (capacity cells index free : ℕ) (counts : CountTable) : Type 0 where
  pub for_cells : capacity ≤ cells
  pub for_index : capacity ≤ index
  pub for_free : capacity ≤ free
  pub for_counts : capacity ≤ room_in counts

-- an operation in its place
pub record PlacedOperation (T : Type 0) : Type 0 where
  pub place : ℕ
  pub cell : Cell T

module _ {T : Type 0} where
  -- ---- places

  -- what there is past the last place
  abbrev pub blank : Cell T
  blank = record { operation = record { number = 0; uid = 0; client = 0; stamp = 0; value = None }; begun = 0 }

  abbrev pub cell_at : List (Cell T) → ℕ → Cell T
  cell_at cells place = get_or cells place blank

  -- one cell was written
  abbrev pub PutsCell : List (Cell T) → List (Cell T) → ℕ → Cell T → Type 0
  PutsCell old new place cell = (other : ℕ) → cell_at new other ≡ (if other == place then cell else cell_at old other)

  abbrev pub taken_cell : Cell T → Cell T
  taken_cell cell = record cell { operation = made_busy cell.operation }

  abbrev pub given_cell : ℕ → T → Cell T → Cell T
  given_cell stamp value cell = record cell { operation = given_back stamp value cell.operation }

  -- a cell came into a place that was free, or into a new one where none was
  pub record Lays (cells : List (Cell T)) (free : List ℕ) (later : List (Cell T)) (left : List ℕ) (place : ℕ) (cell : Cell T) : Type 0 where
    pub puts : PutsCell cells later place cell
    pub within : place < length later
    pub size : length later + length free ≡ length cells + length left + 1
    pub fits : (most : ℕ) → length cells ≤ most → (length free ≡ 0 → length cells < most) → length later ≤ most
    pub apart : (n others : ℕ) → times n free + others ≤ once_in n (length cells) → times n left + (others + (if place == n then 1 else 0)) ≤ once_in n (length later)
    pub spare : (n : ℕ) → 0 < times n left → (cell_at later n).operation.value ≡ None

  -- ---- the operations in their places

  abbrev pub entry : List (Cell T) → Numbered → PlacedOperation T
  entry cells row = record { place = row.place; cell = cell_at cells row.place }

  -- in the order of their numbers
  abbrev pub entries : List (Cell T) → List Numbered → List (PlacedOperation T)
  entries cells index = map (entry cells) index

  abbrev pub place_of : PlacedOperation T → ℕ
  place_of e = e.place

  abbrev pub operation_of : PlacedOperation T → SlotOperation T
  operation_of e = e.cell.operation

  abbrev pub number_of : PlacedOperation T → ℕ
  number_of e = e.cell.operation.number

  abbrev pub stamp_of : PlacedOperation T → ℕ
  stamp_of e = e.cell.operation.stamp

  abbrev pub begun_of : PlacedOperation T → ℕ
  begun_of e = e.cell.begun

  abbrev pub is_idle_entry : ℕ → PlacedOperation T → Bool
  is_idle_entry uid e = is_idle_of uid e.cell.operation

  abbrev pub is_entry_of : ℕ → PlacedOperation T → Bool
  is_entry_of uid e = is_of uid e.cell.operation

  -- the operations, in the order in which they began
  abbrev pub operations_in : List (PlacedOperation T) → List (SlotOperation T)
  operations_in es = map operation_of (in_order begun_of es)

  -- the places of the idle operations of a uid, in the order of their stamps
  abbrev pub idle_places : List (PlacedOperation T) → ℕ → List ℕ
  idle_places es uid = map place_of (in_order stamp_of (filter (is_idle_entry uid) es))

  abbrev pub BeganBefore : PlacedOperation T → Type 0
  BeganBefore e = begun_of e ≤ stamp_of e

  -- what is kept of the list that contracts see
  pub record IsHeld (operations : List (SlotOperation T)) (capacity : ℕ) : Type 0 where
    pub numbers : AllDiffer (numbers_of operations)
    pub stamps : AllDiffer (stamps_of operations)
    pub some : 0 < capacity
    pub few : capacity < 2 ^ 32 - 1
    pub within : length operations ≤ capacity

  -- the index, the free places, the counts and the chains are those of the operations in their places
  pub record IsLinked (cells : List (Cell T)) (index : List Numbered) (free : List ℕ) (counts : CountTable) (idle : ChainTable) (capacity : ℕ) : Type 0 where
    pub order : IsOrdered index_number index
    pub named : map number_of (entries cells index) ≡ map index_number index
    pub apart : (n : ℕ) → times n free + times n (map index_place index) ≤ once_in n (length cells)
    pub spare : (n : ℕ) → 0 < times n free → (cell_at cells n).operation.value ≡ None
    pub rest : length free + length index ≡ length cells
    pub cells_few : length cells ≤ capacity
    pub begun : AllByRecursion BeganBefore (entries cells index)
    pub counts_are : (uid : ℕ) → count_in counts uid ≡ count_by (is_entry_of uid) (entries cells index)
    pub all : total counts ≡ length index
    pub idle_are : (uid : ℕ) → list_in idle uid ≡ idle_places (entries cells index) uid
    pub idle_sound : chains.IsSound idle
    pub idle_room : places_count idle ≡ capacity

  abbrev pub entries_of : SlotBoard T → List (PlacedOperation T)
  entries_of board = entries board.cells.items board.index.items

  abbrev pub operations_on : SlotBoard T → List (SlotOperation T)
  operations_on board = operations_in (entries_of board)

  pub record IsKept (board : SlotBoard T) : Type 0 where
    pub held : IsHeld (operations_on board) board.capacity
    pub linked : IsLinked board.cells.items board.index.items board.free.items board.counts board.idle board.capacity
    pub memory : HasMemory board.capacity (vec_capacity board.cells) (vec_capacity board.index) (vec_capacity board.free) board.counts

  abbrev pub seen : SlotBoard T → SlotTable T
  seen board = record { operations = operations_on board; capacity = board.capacity; owners = owners_of board.idle }
