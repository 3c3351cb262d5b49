use Rattle.std.proofs.Common.{arith}
use Rattle.ghash.proofs.Gather.{multiplied_none, multiplied_more, multiplied_all}
use Rattle.ghash.proofs.wide.products.Goals as goal

pub bytes-init : goal.bytes-init
bytes-init c = multiplied_none c.args.high.now c.args.low.now c.args.x.now

pub bytes-preserved : goal.bytes-preserved
bytes-preserved c =
    multiplied_more c.args.high.now c.args.low.now c.args.x.now c.bytes.acc c.one_more-more.result c.bytes.p (omega arith) c.requires.x c.bytes.invariant
    c.one_more-more.ensures.grid c.one_more-more.ensures.lanes

pub returns-clause-lanes : goal.returns-clause-lanes
returns-clause-lanes c = multiplied_all c.args.high.now c.args.low.now c.args.x.now c.bytes.acc c.bytes.p (omega arith) c.bytes.invariant
