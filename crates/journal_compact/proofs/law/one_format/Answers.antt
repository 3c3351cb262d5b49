-- Bytes are of one format.
use Rattle.journal_compact.proofs.OneFormat.{journal_version, not_no_store, one_no_store, one_store_frame}
use Rattle.journal_compact.proofs.law.one_format.Goals as goal

pub returns-clause-frame : goal.returns-clause-frame
returns-clause-frame c = one_store_frame

pub returns-clause-marked : goal.returns-clause-marked
returns-clause-marked c = not_no_store

pub returns-clause-unmarked : goal.returns-clause-unmarked
returns-clause-unmarked c = one_no_store

pub returns-clause-older : goal.returns-clause-older
returns-clause-older c = journal_version
