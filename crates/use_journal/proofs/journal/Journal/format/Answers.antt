-- What was written is an empty journal.
use Rattle.use_journal.proofs.Marked.{written}
use Rattle.use_journal.proofs.journal.Journal.format.Goals as goal

pub returns-clause-formatted : goal.returns-clause-formatted
returns-clause-formatted g c = λ image left.
    let from = c.in-Ok.ensures.written image left in
    written from.0 image from.2
