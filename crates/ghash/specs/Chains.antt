-- Products with one element again and again.
use Rattle.std.specs.Prelude.{◌≡◌, ℕ, zero, suc, Option, Some}
use Rattle.std.specs.Int.RustNames.{bit_xor}
use Rattle.ghash.specs.Field.{product}

-- n products with h, from v on
unfoldable pub repeated : ℕ → ℕ → ℕ → ℕ
repeated h zero v = v
repeated h (suc n) v = product (repeated h n v) h

-- the hash from y on of the elements w 0 .. w (n - 1)
unfoldable pub folded_from : ℕ → ℕ → (ℕ → ℕ) → ℕ → ℕ
folded_from h y w zero = y
folded_from h y w (suc n) = product (bit_xor (folded_from h y w n) (w n)) h

-- the power 16 of h, where one is there
pub record IsRaised (power : Option ℕ) (h : ℕ) : Type 0 where
  pub is : (p : ℕ) → power ≡ Some p → p ≡ repeated h 15 h
