-- Two lists of bytes, summed byte by byte.
use Rattle.std.proofs.Common.{◌≡◌, ℕ, zero, suc, List, [], ◌∷◌, take, refl, ap}
use Rattle.std.specs.Int.Bits.{bit_xor}
use Rattle.block_modes.specs.Texts.{xor_bytes}

pub take-xor_bytes : (n : ℕ) (xs ys : List ℕ) → take n (xor_bytes xs ys) ≡ xor_bytes (take n xs) ys
take-xor_bytes zero xs ys = refl
take-xor_bytes (suc n) [] ys = refl
take-xor_bytes (suc n) (x ∷ xs) [] = refl
take-xor_bytes (suc n) (x ∷ xs) (y ∷ ys) = ap (λ zs. bit_xor x y ∷ zs) (take-xor_bytes n xs ys)
