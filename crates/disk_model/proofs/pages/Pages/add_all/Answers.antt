-- Each page took at most one place.
use Rattle.std.proofs.Common.{arith}
use Rattle.disk_model.proofs.pages.Pages.add_all.Goals as goal

pub returns-clause-room : goal.returns-clause-room
returns-clause-room c = omega (arith, c.numbers.invariant.2, c.numbers-test.false)
