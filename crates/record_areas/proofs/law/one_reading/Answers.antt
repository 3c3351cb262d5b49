-- Bytes are read in one way.
use Rattle.record_areas.proofs.Unique.{not_broken, one_place, same_records}
use Rattle.record_areas.proofs.law.one_reading.Goals as goal

pub returns-clause-records : goal.returns-clause-records
returns-clause-records c = same_records

pub returns-clause-sound : goal.returns-clause-sound
returns-clause-sound c = not_broken

pub returns-clause-place : goal.returns-clause-place
returns-clause-place c = one_place
