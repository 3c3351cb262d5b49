use Rattle.std.proofs.Common.{arith}
use Rattle.store_tests.proofs.Rebinding.{storable}
use Rattle.store_tests.proofs.rebound.storable_after.Goals as goal

pub returns : goal.returns
returns c = storable c.args.times (omega (arith, c.ranges.times))
