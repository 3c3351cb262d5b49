-- After i times four bits the sum is the product with the last ones of x.
use Rattle.std.proofs.Common.{◌≡◌, ℕ, ◌*◌, ◌/◌, ◌^◌}
use Rattle.ghash.specs.Field.{product}
use Rattle.ghash.specs.Tables.{IsProducts}
use Rattle.ghash.proofs.TableLemmas.{last_bits}
use Rattle.ghash.proofs.table.product_by.Given as goal

abbrev pub invariant-halves : goal.invariant-halves
invariant-halves l = record {
  rest : l.rest ≡ l.x / 2 ^ (4 * l._i);
  sum : (y : ℕ) → IsProducts l.table y → l.sum ≡ product (last_bits l.x l._i) y;
}
