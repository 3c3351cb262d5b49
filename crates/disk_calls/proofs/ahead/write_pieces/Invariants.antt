use Rattle.std.proofs.Common.{length}
use Rattle.disk_calls.proofs.Underway.{IsUnderway}
use Rattle.disk_calls.proofs.ahead.write_pieces.Given as goal

abbrev pub invariant-pieces : goal.invariant-pieces
invariant-pieces g l = IsUnderway g.D.Disk l.fn.disk l.disk l.at l.place l.bytes l.rest

abbrev pub decreases-pieces : goal.decreases-pieces
decreases-pieces g l = length l.rest
