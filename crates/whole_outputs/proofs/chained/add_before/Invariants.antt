use Rattle.std.proofs.Common.{◌≡◌, ◌++◌, take, drop}
use Rattle.std.specs.Simd.Lanes.{zip2}
use Rattle.block_modes.specs.Texts.{xor_bytes}
use Rattle.block_modes.specs.Steps.{before_each, before_next}
use Rattle.whole_outputs.proofs.chained.add_before.Given as goal

abbrev pub invariant-each : goal.invariant-each
invariant-each l = record {
  made : l.made ≡ zip2 xor_bytes (take l.i l.fn.made) (before_each l.fn.before (take l.i l.texts)) ++ drop l.i l.fn.made;
  last : l.last ≡ before_next l.fn.before (take l.i l.texts);
}
