use Rattle.std.proofs.Common.{◌≡◌, not, filter, length}
use Rattle.live_tables.specs.Operations.{is_row_of, most_operations, operations_given, rows_in}
use Rattle.live_tables.proofs.operations.Operations.close_of.Given as goal

abbrev pub invariant-operations : goal.invariant-operations
invariant-operations l = record {
  rows : filter (λ row. not (is_row_of l.client row)) (rows_in l.self) ≡ filter (λ row. not (is_row_of l.client row)) (rows_in l.fn.self);
  given : operations_given l.self ≡ operations_given l.fn.self;
  most : most_operations l.self ≡ most_operations l.fn.self;
}

abbrev pub decreases-operations : goal.decreases-operations
decreases-operations l = length (rows_in l.self)
