use Rattle.std.proofs.Common.{◌≡◌, ap, ◌∙◌, subst}
use Rattle.live_tables.specs.Places.{IsIndexOf, client_group, rows_on}
use Rattle.live_tables.proofs.placed.PlacedRows.numbers_of.Goals as goal

pub returns : goal.returns
returns c =
    let rows_are : rows_on c.self.inside.places.items c.self.inside.index.items ≡ c.args.self.now.rows = ap (λ t. t.rows) c.self.view_is in
    let indexed = subst (IsIndexOf client_group c.self.inside.clients) rows_are c.self.invariant.clients_are in
    c.of.ensures ∙ indexed.numbers c.args.client
