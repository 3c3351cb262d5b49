use Rattle.live_tables.proofs.RowTable.{numbered_shown}
use Rattle.live_tables.proofs.operations.Operations.show.Goals as goal

pub invariant_of-self : goal.invariant_of-self
invariant_of-self c = record { order = rw c.show.ensures.rows (numbered_shown c.args.token.now c.args.self.now.rows.rows _ c.args.self.now.order) }
