use Rattle.std.proofs.Common.{arith}
use Rattle.ghash.proofs.BlockLemmas.{none_valued, one_valued, valued_lane}
use Rattle.ghash.proofs.chains.grid_of.Goals as goal

pub values-init : goal.values-init
values-init c = none_valued c.args.values.now

pub values-preserved : goal.values-preserved
values-preserved c =
    one_valued c.values.rows c.values.l c.row_of_value.result c.args.values.now c.values.invariant (omega arith) c.row_of_value.ensures.row c.row_of_value.ensures.value

pub returns-clause-lanes : goal.returns-clause-lanes
returns-clause-lanes c = valued_lane c.values.rows c.turned.result c.args.values.now c.values.l c.values.invariant (omega arith) c.turned.ensures.places
