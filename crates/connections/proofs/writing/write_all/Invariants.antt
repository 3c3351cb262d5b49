use Rattle.std.proofs.Common.{length}
use Rattle.connections.proofs.Written.{Written}
use Rattle.connections.proofs.writing.write_all.Given as goal

abbrev pub invariant-pieces : goal.invariant-pieces
invariant-pieces g l = record { written : Written g.L.Link l.fn.link l.link l.fn.bytes l.rest }

abbrev pub decreases-pieces : goal.decreases-pieces
decreases-pieces g l = length l.rest
