use Rattle.std.proofs.Common.{arith}
use Rattle.std.specs.Int.RustNames.{bit_xor}
use Rattle.ghash.specs.Lanes.{byte_in}
use Rattle.ghash.proofs.Gather.{none_filled}
use Rattle.ghash.proofs.BlockLemmas.{added_lane}
use Rattle.ghash.proofs.chains.added.Goals as goal

pub rows-init : goal.rows-init
rows-init c = none_filled (λ p k. bit_xor (byte_in c.args.a.now p k) (byte_in c.args.b.now p k))

pub returns-clause-lanes : goal.returns-clause-lanes
returns-clause-lanes c = added_lane c.args.a.now c.args.b.now c.rows.out c.rows.p c.rows.invariant (omega arith)
