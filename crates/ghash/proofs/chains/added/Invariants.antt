use Rattle.std.specs.Int.RustNames.{bit_xor}
use Rattle.ghash.specs.Lanes.{byte_in}
use Rattle.ghash.proofs.Gather.{Filled}
use Rattle.ghash.proofs.chains.added.Given as goal

abbrev pub invariant-rows : goal.invariant-rows
invariant-rows l = Filled l.out l.p (λ p k. bit_xor (byte_in l.a p k) (byte_in l.b p k))
