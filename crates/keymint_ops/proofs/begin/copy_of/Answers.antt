use Rattle.std.proofs.Common.{Some, ap}
use Rattle.keymint_ops.proofs.begin.copy_of.Goals as goal

pub returns-in_ok-copy_of-in-Some : goal.returns-in_ok-copy_of-in-Some
returns-in_ok-copy_of-in-Some c = rw c.in-Some.is (ap Some c.in_ok-copy_of-in-Some.ensures)
