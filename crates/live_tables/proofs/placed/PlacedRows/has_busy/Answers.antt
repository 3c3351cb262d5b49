use Rattle.std.proofs.Common.{◌≡◌, List, false, find, map, sym, ap, ◌∙◌, subst}
use Rattle.std.specs.List.{list_any}
use Rattle.std.specs.Option.{option_map_or}
use Rattle.slot_chain.specs.Linked.{AllDiffer}
use Rattle.group_index.specs.Grouped.{number_of}
use Rattle.live_tables.specs.declared.operations.OperationRow.{OperationRow}
use Rattle.live_tables.specs.Numbered.{row_number}
use Rattle.live_tables.specs.Operations.{has_row}
use Rattle.live_tables.specs.Places.{IsIndexOf, client_group, is_in_group, rows_on}
use Rattle.live_tables.proofs.Places.{any_mapped, rows_differ}
use Rattle.live_tables.proofs.Groups.{busy_is}
use Rattle.live_tables.proofs.placed.PlacedRows.has_busy.Goals as goal

pub returns : goal.returns
returns c =
    let kept = c.self.invariant in
    let rows_are : rows_on c.self.inside.places.items c.self.inside.index.items ≡ c.args.self.now.rows = ap (λ t. t.rows) c.self.view_is in
    let indexed = subst (IsIndexOf client_group c.self.inside.clients) rows_are kept.clients_are in
    let differ = subst (λ (rs : List OperationRow). AllDiffer (map row_number rs)) rows_are (rows_differ c.self.inside.places.items c.self.inside.index.items kept.linked.order kept.linked.placed) in
    c.any_busy.ensures
    ∙ sym (any_mapped number_of (λ n. option_map_or (λ (row : OperationRow). row.busy) (find (has_row n) c.args.self.now.rows) false) c.of.result.now)
    ∙ ap (list_any (λ n. option_map_or (λ (row : OperationRow). row.busy) (find (has_row n) c.args.self.now.rows) false)) (c.of.ensures ∙ indexed.numbers c.args.client)
    ∙ busy_is c.args.self.now.rows (is_in_group client_group c.args.client) differ
