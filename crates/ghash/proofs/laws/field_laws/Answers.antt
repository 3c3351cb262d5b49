-- The lemmas on the definitions.
use Rattle.ghash.proofs.Algebra.{product_left, product_right, product_power, shifted-xor, shifted-add}
use Rattle.ghash.proofs.laws.field_laws.Goals as goal

pub returns : goal.returns
returns c = record {
  left = product_left;
  right = product_right;
  power = product_power;
  shifted_sum = shifted-xor;
  shifted_twice = shifted-add;
}
