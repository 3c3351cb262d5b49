use Rattle.std.proofs.Common.{◌≡◌}
use Rattle.ghash.specs.Chains.{folded_from}
use Rattle.ghash.specs.Lanes.{lane_of}
use Rattle.ghash.proofs.chains.end_of.Given as goal

abbrev pub invariant-lanes : goal.invariant-lanes
invariant-lanes l = l.total ≡ folded_from l.subkey 0 (lane_of l.last) l.l
