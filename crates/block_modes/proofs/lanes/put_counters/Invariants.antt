use Rattle.std.proofs.Common.{◌≡◌, ◌++◌, drop}
use Rattle.std.specs.Int.{w128, to_be_bytes}
use Rattle.block_modes.specs.Steps.{counter_blocks, counter_after}
use Rattle.block_modes.proofs.lanes.put_counters.Given as goal

abbrev pub invariant-each : goal.invariant-each
invariant-each l = record {
  blocks : l.out ≡ counter_blocks l.i l.fn.first ++ drop l.i l.fn.out;
  spells : l.block ≡ to_be_bytes w128 l.number;
  next : l.block ≡ counter_after l.i l.fn.first;
}
