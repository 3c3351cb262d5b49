-- The numbers of the open operations, which are given one after another.
use Rattle.std.specs.Prelude.{ℕ, List, [], ◌∷◌, ◌++◌, map}
use Rattle.slot_chain.specs.Ordered.{IsRising, IsRising-prop}
use Rattle.live_tables.specs.declared.operations.OperationRow.{OperationRow}

abbrev pub row_number : OperationRow → ℕ
row_number row = row.number

-- the numbers rise, and the next one is greater than all
abbrev pub AreNumbered : List OperationRow → ℕ → Type 0
AreNumbered rows next = IsRising (map row_number rows ++ next ∷ [])

-- there is one proof of it, so that a table can keep it
pub AreNumbered-prop : (rows : List OperationRow) (next : ℕ) → IsProp (AreNumbered rows next)
AreNumbered-prop rows next = IsRising-prop (map row_number rows ++ next ∷ [])
