use Rattle.std.proofs.Common.{◌≡◌, ◌++◌, take, drop}
use Rattle.std.specs.Simd.Lanes.{zip2}
use Rattle.block_modes.specs.Texts.{xor_bytes}
use Rattle.block_modes.proofs.lanes.add_texts.Given as goal

abbrev pub invariant-each : goal.invariant-each
invariant-each l = l.keys ≡ zip2 xor_bytes (take l.i l.texts) (take l.i l.fn.keys) ++ drop l.i l.fn.keys
