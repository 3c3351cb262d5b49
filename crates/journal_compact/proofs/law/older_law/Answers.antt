-- The header stays, and so do the records.
use Rattle.journal_compact.proofs.Olders.{older_of}
use Rattle.journal_compact.proofs.law.older_law.Goals as goal

pub returns : goal.returns
returns c = older_of
