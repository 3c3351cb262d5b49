use Rattle.std.proofs.Common.{◌+◌, ◌*◌, ◌/◌, ◌%◌}
use Rattle.ghash.specs.Lanes.{byte_in}
use Rattle.ghash.proofs.Gather.{Filled}
use Rattle.ghash.proofs.wide.woven.Given as goal

abbrev pub invariant-pairs : goal.invariant-pairs
invariant-pairs l = Filled l.y (2 * l.i) (λ p k. byte_in l.x ((k % 2) * 8 + p / 2) ((p % 2) * 8 + k / 2))
