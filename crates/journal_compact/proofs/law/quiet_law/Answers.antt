-- The marks stay, and so do the records.
use Rattle.journal_compact.proofs.Single.{quiet}
use Rattle.journal_compact.proofs.law.quiet_law.Goals as goal

pub returns : goal.returns
returns c = quiet
