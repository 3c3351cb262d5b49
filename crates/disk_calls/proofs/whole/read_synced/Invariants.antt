use Rattle.std.proofs.Common.{◌-◌, vec_len}
use Rattle.disk_calls.specs.WholeReads.{IsReading}
use Rattle.disk_calls.proofs.whole.read_synced.Given as goal

abbrev pub invariant-pieces : goal.invariant-pieces
invariant-pieces g l = IsReading g.D.Disk l.fn.disk l.disk l.length l.bytes.items

abbrev pub decreases-pieces : goal.decreases-pieces
decreases-pieces g l = l.length - vec_len l.bytes
