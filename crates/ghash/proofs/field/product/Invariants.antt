-- After i bits the sum is Z i and the other factor is V i.
use Rattle.std.proofs.Common.{◌≡◌}
use Rattle.ghash.specs.Field.{shifted, sum_of}
use Rattle.ghash.proofs.field.product.Given as goal

abbrev pub invariant-bits : goal.invariant-bits
invariant-bits l = record {
  sum : l.sum ≡ sum_of l.x l.y l.i;
  shifted : l.shifted ≡ shifted l.y l.i;
}
