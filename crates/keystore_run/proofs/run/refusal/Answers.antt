use Rattle.std.proofs.Common.{refl}
use Rattle.keystore_run.proofs.run.refusal.Goals as goal

pub returns-in-Memory : goal.returns-in-Memory
returns-in-Memory c = rw c.in-Memory.is refl
