use Rattle.std.proofs.Common.{refl}
use Rattle.live_tables.proofs.RowTable.{numbered_fewer}
use Rattle.live_tables.proofs.operations.Operations.close.Goals as goal

pub invariant_of-self : goal.invariant_of-self
invariant_of-self c = record { order = rw c.close.ensures.rows (numbered_fewer _ c.args.self.now.rows.rows _ c.args.self.now.order) }

pub returns-clause-closes : goal.returns-clause-closes
returns-clause-closes c = record { rows = c.close.ensures.rows; given = refl; most = c.close.ensures.most }

pub returns-clause-room : goal.returns-clause-room
returns-clause-room c = c.close.ensures.room

pub returns-clause-fewer : goal.returns-clause-fewer
returns-clause-fewer c = c.close.ensures.fewer
