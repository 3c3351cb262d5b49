-- Bytes stand for one thing.
use Rattle.use_journal.proofs.Unique.{not_corrupted, one_place}
use Rattle.use_journal.proofs.law.one_reading.Goals as goal
use Rattle.tags.specs.declared.limits.TheConstants.{JOURNAL_BYTES}

pub returns-clause-changes : goal.returns-clause-changes
returns-clause-changes c = λ past later image first second journal other. c.one_reading.ensures.records 8 JOURNAL_BYTES 7 past later image first second journal.records other.records

pub returns-clause-sound : goal.returns-clause-sound
returns-clause-sound c = not_corrupted c.one_reading.ensures.sound

pub returns-clause-place : goal.returns-clause-place
returns-clause-place c = one_place c.one_reading.ensures.place
