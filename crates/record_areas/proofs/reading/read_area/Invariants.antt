-- How far a reading has come.
use Rattle.std.proofs.Common.{◌-◌}
use Rattle.record_areas.specs.Readings.{place_of}
use Rattle.record_areas.proofs.Walks.{IsWalked}
use Rattle.record_areas.proofs.reading.read_area.Given as goal

abbrev pub invariant-records : goal.invariant-records
invariant-records g l = IsWalked g.D.Disk l.fn.disk l.disk l.start l.limit l.kinds l.at l.reading l.all

abbrev pub decreases-records : goal.decreases-records
decreases-records g l = l.limit - place_of l.reading
