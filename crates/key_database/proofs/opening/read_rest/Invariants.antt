-- How far the rest was read.
use Rattle.std.proofs.Common.{◌-◌}
use Rattle.record_areas.specs.Readings.{limit_of, place_of}
use Rattle.key_database.proofs.Replayed.{IsRest}
use Rattle.key_database.proofs.opening.read_rest.Given as goal

abbrev pub invariant-rest : goal.invariant-rest
invariant-rest g l = IsRest g.D.Disk l.fn.disk l.disk l.fn.reading l.reading

abbrev pub decreases-rest : goal.decreases-rest
decreases-rest g l = limit_of l.reading - place_of l.reading
