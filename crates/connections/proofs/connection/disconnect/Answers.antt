use Rattle.std.proofs.Common.{refl}
use Rattle.connections.proofs.connection.disconnect.Goals as goal

pub returns-then-not-joined-clause-closes : goal.returns-then-not-joined-clause-closes
returns-then-not-joined-clause-closes g c = rw c.if-not-joined.true refl
