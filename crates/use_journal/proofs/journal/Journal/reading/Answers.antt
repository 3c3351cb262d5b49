-- It is over the records of a journal.
use Rattle.use_journal.proofs.journal.Journal.reading.Goals as goal

pub returns-clause-over : goal.returns-clause-over
returns-clause-over c = c.at.ensures.over
