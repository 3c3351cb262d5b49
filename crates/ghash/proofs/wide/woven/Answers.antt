use Rattle.std.proofs.Common.{arith}
use Rattle.ghash.proofs.Gather.{none_filled}
use Rattle.ghash.proofs.Weave.{weave, two_filled}
use Rattle.ghash.proofs.wide.woven.Goals as goal

pub pairs-init : goal.pairs-init
pairs-init c = none_filled (weave c.args.x)

pub pairs-preserved : goal.pairs-preserved
pairs-preserved c = two_filled c.args.x c.pairs.y c.pairs.i c.requires (omega arith) c.pairs.invariant
