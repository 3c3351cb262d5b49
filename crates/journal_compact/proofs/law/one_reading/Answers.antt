-- Bytes stand for one thing.
use Rattle.journal_records.specs.Storable.{area_kinds}
use Rattle.journal_compact.proofs.Single.{not_unmarked, one_frame, one_past, one_place, one_unmarked, sound}
use Rattle.journal_compact.proofs.law.one_reading.Goals as goal

pub returns-clause-frame : goal.returns-clause-frame
returns-clause-frame c = one_frame

pub returns-clause-marked : goal.returns-clause-marked
returns-clause-marked c = not_unmarked

pub returns-clause-unmarked : goal.returns-clause-unmarked
returns-clause-unmarked c = one_unmarked

pub returns-clause-records : goal.returns-clause-records
returns-clause-records c = one_past (λ start limit kinds past later image first second. c.one_reading.ensures.records start limit area_kinds past later image first second)

pub returns-clause-sound : goal.returns-clause-sound
returns-clause-sound c = sound (λ start limit kinds past offset image records. c.one_reading.ensures.sound start limit area_kinds past offset image records)

pub returns-clause-place : goal.returns-clause-place
returns-clause-place c = one_place c.one_reading.ensures.place
