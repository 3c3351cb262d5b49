use Rattle.std.proofs.Common.{rules}
use Rattle.keystore_process.specs.Processes.{AsTraced}
use Rattle.keystore_process.proofs.serving.outcome.Goals as goal

pub returns : goal.returns
returns g c = AsTraced (search rules) (search rules) c.trace-status.ensures
