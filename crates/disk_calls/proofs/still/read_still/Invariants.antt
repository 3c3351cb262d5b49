use Rattle.std.proofs.Common.{length, ◌-◌}
use Rattle.disk_calls.proofs.Filling.{IsFilling}
use Rattle.disk_calls.proofs.still.read_still.Given as goal

abbrev pub invariant-pieces : goal.invariant-pieces
invariant-pieces g l = IsFilling g.D.Disk l.fn.disk l.disk l.at l.done l.out

abbrev pub decreases-pieces : goal.decreases-pieces
decreases-pieces g l = length l.out - l.done
