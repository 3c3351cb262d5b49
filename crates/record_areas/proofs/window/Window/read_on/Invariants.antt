-- How far a reading has come.
use Rattle.std.proofs.Common.{◌-◌, length}
use Rattle.record_areas.proofs.Seeing.{IsReadingOn}
use Rattle.record_areas.proofs.window.Window.read_on.Given as goal

abbrev pub invariant-pieces : goal.invariant-pieces
invariant-pieces g l = IsReadingOn g.D.Disk l.fn.disk l.disk l.fn.self l.self

abbrev pub decreases-pieces : goal.decreases-pieces
decreases-pieces g l = l.count - length l.self.bytes.items
