use Rattle.std.proofs.Common.{◌≡◌, ℕ, ◌≤◌, not, length}
use Rattle.std.specs.Prelude.{IfSome, IfNone, IsSomeAnd}
use Rattle.std.specs.List.{filter}
use Rattle.grants.specs.Rows.{is_of}
use Rattle.grants.specs.Table.{Table, numbered, IsOrderly, HasNone}
use Rattle.grants.proofs.table.Grants.end_key.Given as goal

-- what is left once the key's grants are out is what was left at first
pub record Ending (key : ℕ) (old new : Table) : Type 0 where
  pub out : filter (λ row. not (is_of key row)) new.rows ≡ filter (λ row. not (is_of key row)) old.rows
  pub kept : old.spare ≤ new.spare
  pub was : IsOrderly old
  pub orderly : IsOrderly new

abbrev pub invariant-rows : goal.invariant-rows
invariant-rows l = record {
  ending : Ending l.key l.fn.self l.self;
  found : IfSome l.next (λ number. IsSomeAnd (numbered l.self number) (λ row. row.key ≡ l.key));
  none : IfNone l.next (HasNone l.self l.key);
}

abbrev pub decreases-rows : goal.decreases-rows
decreases-rows l = length l.self.rows
