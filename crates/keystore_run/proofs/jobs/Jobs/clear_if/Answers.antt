use Rattle.std.proofs.Common.{rules}
use Rattle.keystore_run.proofs.jobs.Jobs.clear_if.Goals as goal

pub returns-else-all : goal.returns-else-all
returns-else-all c = search rules
