-- What a read of a cell gives, and what the answers of `take` and of a look-up say.
use Rattle.std.proofs.Common.{◌≡◌, ◌<◌, ℕ, true, false, not, List, length, get_or, Option, Some, None, is_some, OnSome, IfNone, refl, ap, ◌∙◌}
use Rattle.std.proofs.lemmas.List.{get_or_default}
use Rattle.operation_slots.specs.declared.cells.Cell.{Cell}
use Rattle.operation_slots.specs.declared.index.Numbered.{Numbered}
use Rattle.slot_chain.specs.Ordered.{IsAt}
use Rattle.operation_slots.specs.Boards.{cell_at, blank, index_number}

module _ {T : Type 0} where
  pub none_of_busy : (v : Option T) → not (is_some v) ≡ true → v ≡ None
  none_of_busy None e = refl
  none_of_busy (Some v) e = absurd cc

  pub cell_read : (cells : List (Cell T)) (place : ℕ) (cell : Cell T) → place < length cells → cell ≡ get_or cells place cell → cell ≡ cell_at cells place
  cell_read cells place cell within is = is ∙ get_or_default cells place cell blank within

pub named_at : (index : List Numbered) (n at : ℕ) (row : Numbered) → IsAt index_number index n at → row ≡ get_or index at row → row.number ≡ n
named_at index n at row here is = ap index_number is ∙ here.named row

module _ {A : Type 0} where
  pub on_some : {P : Type 0} (r : Option A) → P → OnSome r P
  on_some None p = tt
  on_some (Some v) p = p

  -- what is there is not None
  pub if_none : (P : Type 0) (r : Option A) → is_some r ≡ true → IfNone r P
  if_none P None e = absurd cc
  if_none P (Some v) e = tt

  pub none_of_false : (v : Option A) → is_some v ≡ false → v ≡ None
  none_of_false None e = refl
  none_of_false (Some v) e = absurd cc
