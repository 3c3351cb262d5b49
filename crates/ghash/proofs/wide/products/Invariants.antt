-- After p bytes the lanes are the products of the last p bytes.
use Rattle.ghash.proofs.Gather.{Multiplied}
use Rattle.ghash.proofs.wide.products.Given as goal

abbrev pub invariant-bytes : goal.invariant-bytes
invariant-bytes l = Multiplied l.high l.low l.x l.p l.acc
