-- A value with the number of a step is eight bytes, and with the same number once more it is the value again.
use Rattle.std.proofs.Common.{◌≡◌, ◌<◌, ◌^◌, ℕ, zero, suc, List, length, refl, ap, ◌∙◌, arith}
use Rattle.std.specs.Int.{w64, to_be_bytes, from_be_bytes}
use Rattle.std.specs.Int.Bits.{bit_xor, xor_assoc, xor_self, xor_zero_r}
use Rattle.std.proofs.lemmas.Nat.{be_bytes_8, from_be_bytes-to_be_bytes_8, mod_below, xor_lt}
use Rattle.aes_core.specs.Block.{IsBytes}
use Rattle.key_wrap.specs.Wrapping.{numbered}

xor_twice : (a t : ℕ) → bit_xor (bit_xor a t) t ≡ a
xor_twice a t = xor_assoc a t t ∙ ap (bit_xor a) (xor_self t) ∙ xor_zero_r a

-- eight bytes spell a number of 64 bits
number_small : (value : List ℕ) → IsBytes value → from_be_bytes w64 value < 2 ^ 64
number_small value h = omega (arith, h 0, h 1, h 2, h 3, h 4, h 5, h 6, h 7)

pub numbered-twice : (t : ℕ) (value : List ℕ) → t < 2 ^ 64 → length value ≡ 8 → IsBytes value → numbered t (numbered t value) ≡ value
unfolding numbered
numbered-twice t value small whole bytes =
    ap (λ n. to_be_bytes w64 (bit_xor n t)) (from_be_bytes-to_be_bytes_8 (bit_xor (from_be_bytes w64 value) t) (xor_lt 64 (from_be_bytes w64 value) t (number_small value bytes) small))
    ∙ ap (to_be_bytes w64) (xor_twice (from_be_bytes w64 value) t)
    ∙ be_bytes_8 value (from_be_bytes w64 value) whole bytes refl

pub numbered-length : (t : ℕ) (value : List ℕ) → length (numbered t value) ≡ 8
unfolding numbered
numbered-length t value = refl

-- what a number is spelled as in eight bytes
spelled_bytes : (n : ℕ) → IsBytes (to_be_bytes w64 n)
spelled_bytes n zero = mod_below _ 256 (omega arith)
spelled_bytes n (suc zero) = mod_below _ 256 (omega arith)
spelled_bytes n (suc (suc zero)) = mod_below _ 256 (omega arith)
spelled_bytes n (suc (suc (suc zero))) = mod_below _ 256 (omega arith)
spelled_bytes n (suc (suc (suc (suc zero)))) = mod_below _ 256 (omega arith)
spelled_bytes n (suc (suc (suc (suc (suc zero))))) = mod_below _ 256 (omega arith)
spelled_bytes n (suc (suc (suc (suc (suc (suc zero)))))) = mod_below _ 256 (omega arith)
spelled_bytes n (suc (suc (suc (suc (suc (suc (suc zero))))))) = mod_below _ 256 (omega arith)
spelled_bytes n (suc (suc (suc (suc (suc (suc (suc (suc i)))))))) = omega arith

pub numbered-bytes : (t : ℕ) (value : List ℕ) → IsBytes (numbered t value)
unfolding numbered
numbered-bytes t value = spelled_bytes (bit_xor (from_be_bytes w64 value) t)
