use Rattle.live_tables.proofs.RowTable.{numbered_changed}
use Rattle.live_tables.proofs.operations.Operations.change.Goals as goal

pub invariant_of-self : goal.invariant_of-self
invariant_of-self c = record { order = rw c.change.ensures.rows (numbered_changed c.args.number c.args.change c.args.self.now.rows.rows _ c.args.self.now.order) }
