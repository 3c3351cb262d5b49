use Rattle.std.proofs.Common.{List, not, filter, map, is_some, sym, ap, ◌∙◌}
use Rattle.slot_chain.proofs.Ordering.{rising_differ}
use Rattle.live_tables.specs.declared.operations.OperationRow.{OperationRow}
use Rattle.live_tables.specs.Numbered.{row_number}
use Rattle.live_tables.specs.Operations.{is_row_of, rows_in}
use Rattle.live_tables.proofs.First.{first_row, kept_others, none_first}
use Rattle.live_tables.proofs.RowTable.{ordered}
use Rattle.live_tables.proofs.operations.Operations.close_of.Goals as goal

pub operations-smaller : goal.operations-smaller
operations-smaller c =
    let differ = rising_differ (map row_number (rows_in c.operations.self)) (ordered (rows_in c.operations.self) _ c.operations.self.order) in
    let first = first_row (is_row_of c.args.client) (rows_in c.operations.self) c.in-Some.number differ (sym c.first_of.ensures ∙ c.in-Some.is) in
    c.close.ensures.fewer (ap is_some first.found)

pub operations-preserved : goal.operations-preserved
operations-preserved c =
    let differ = rising_differ (map row_number (rows_in c.operations.self)) (ordered (rows_in c.operations.self) _ c.operations.self.order) in
    let first = first_row (is_row_of c.args.client) (rows_in c.operations.self) c.in-Some.number differ (sym c.first_of.ensures ∙ c.in-Some.is) in
    record {
      rows = ap (λ (rows : List OperationRow). filter (λ row. not (is_row_of c.args.client row)) rows) c.close.ensures.closes.rows
          ∙ kept_others (is_row_of c.args.client) (rows_in c.operations.self) c.in-Some.number differ first ∙ c.operations.invariant.rows;
      given = c.close.ensures.closes.given ∙ c.operations.invariant.given;
      most = c.close.ensures.closes.most ∙ c.operations.invariant.most;
    }

pub returns : goal.returns
returns c = record {
  rows = sym (none_first (is_row_of c.args.client) (rows_in c.operations.self) (sym c.first_of.ensures ∙ c.in_default.is)) ∙ c.operations.invariant.rows;
  given = c.operations.invariant.given;
  most = c.operations.invariant.most;
}
