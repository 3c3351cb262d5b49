-- Tables of products with one element.
use Rattle.std.specs.Prelude.{◌≡◌, ℕ, ◌*◌, ◌^◌, ◌<◌, List, slice_index_or}
use Rattle.ghash.specs.Field.{product}

-- entry n is the product of y with the element whose first four bits are n
pub record IsProducts (table : List ℕ) (y : ℕ) : Type 0 where
  pub small : y < 2 ^ 128
  pub entries : (n : ℕ) → n < 16 → slice_index_or table n 0 ≡ product (n * 2 ^ 124) y
