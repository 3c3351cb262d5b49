use Rattle.std.proofs.Common.{◌<◌, subst, sym}
use Rattle.std.specs.List.{AllByRecursion}
use Rattle.live_tables.proofs.RowTable.{all_below, numbered_more}
use Rattle.live_tables.proofs.operations.Operations.open.Goals as goal

pub open-requires-clause-last : goal.open-requires-clause-last
open-requires-clause-last c =
    subst (λ n. AllByRecursion (λ row. row.number < n) c.args.self.now.rows.rows) (sym c.requires.number) (all_below c.args.self.now.rows.rows _ c.args.self.now.order)

pub invariant_of-self : goal.invariant_of-self
invariant_of-self c = record { order = rw c.open.ensures.rows (numbered_more c.args.self.now.rows.rows c.args.operation _ c.requires.number c.args.self.now.order) }
