use Rattle.std.proofs.Common.{◌≡◌, ◌++◌, take, drop, map, bit_xor}
use Rattle.hmac_core.proofs.keyed.masked.Given as goal

abbrev pub invariant-bytes : goal.invariant-bytes
invariant-bytes l = l.bytes ≡ map (λ b. bit_xor b l.fn.mask) (take l.i l.fn.block) ++ drop l.i l.fn.block
