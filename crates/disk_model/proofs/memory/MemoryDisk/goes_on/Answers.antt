-- A call that is to fail changes nothing but the count of faults.
use Rattle.std.proofs.Common.{refl}
use Rattle.disk_model.proofs.memory.MemoryDisk.goes_on.Goals as goal

pub returns-then-next_fails-clause-pages : goal.returns-then-next_fails-clause-pages
returns-then-next_fails-clause-pages c = refl

pub returns-then-next_fails-clause-size : goal.returns-then-next_fails-clause-size
returns-then-next_fails-clause-size c = refl

pub returns-then-next_fails-clause-calls : goal.returns-then-next_fails-clause-calls
returns-then-next_fails-clause-calls c = refl
