use Rattle.std.proofs.Common.{◌≡◌, ◌++◌, drop}
use Rattle.whole_outputs.specs.Streams.{next_of, raised, counters}
use Rattle.whole_outputs.proofs.key_stream.put_counters.Given as goal

abbrev pub invariant-each : goal.invariant-each
invariant-each l = record {
  blocks : l.out ≡ counters (next_of l.counting) l.i l.fn.first ++ drop l.i l.fn.out;
  next : l.block ≡ raised (next_of l.counting) l.i l.fn.first;
}
