use Rattle.std.proofs.Common.{◌+◌}
use Rattle.ghash.specs.Lanes.{byte_in}
use Rattle.ghash.proofs.Gather.{Filled}
use Rattle.ghash.proofs.wide.loaded.Given as goal

abbrev pub invariant-blocks-2 : goal.invariant-blocks-2
invariant-blocks-2 l = Filled l.x l.i (λ p k. byte_in l.blocks (l.at + p) k)
