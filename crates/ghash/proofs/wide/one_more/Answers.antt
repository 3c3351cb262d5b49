use Rattle.std.proofs.Common.{arith}
use Rattle.ghash.proofs.Gather.{none_filled, after, one_more_lane}
use Rattle.ghash.proofs.wide.one_more.Goals as goal

pub rows-init : goal.rows-init
rows-init c = none_filled (after c.args.high.now c.args.low.now c.args.acc.now c.args.bytes)

pub returns-clause-lanes : goal.returns-clause-lanes
returns-clause-lanes c = λ y l high low h.
    one_more_lane c.args.high.now c.args.low.now c.args.acc.now c.rows.out c.args.bytes y l c.rows.p high low c.requires.acc c.requires.bytes c.rows.invariant (omega arith) h
