-- Steps that MixColumns is made of, on blocks.
use Rattle.std.specs.Prelude.{ℕ, ◌+◌, ◌%◌, List, [], ◌∷◌}
use Rattle.aes_core.specs.Field.{x_times}
use Rattle.aes_core.specs.State.{byte_at, state_of}
use Rattle.aes_wide.specs.Circuit.{Gate}
use Rattle.aes_wide.specs.Circuit.Gate.{Xor}

-- each column turned up by some rows
unfoldable pub turned : ℕ → List ℕ → List ℕ
turned n s = state_of (λ r c. byte_at s ((r + n) % 4) c)

-- each byte's product with x
unfoldable pub doubled : List ℕ → List ℕ
doubled s = state_of (λ r c. x_times (byte_at s r c))

-- the constant of the S-box in each byte
unfoldable pub constant : List ℕ
constant = state_of (λ r c. 0x63)

-- the product with x on the bits of a byte
unfoldable pub double_gates : List Gate
double_gates = Xor 0 7 ∷ Xor 2 7 ∷ Xor 3 7 ∷ []

unfoldable pub double_outs : List ℕ
double_outs = 7 ∷ 8 ∷ 1 ∷ 9 ∷ 10 ∷ 4 ∷ 5 ∷ 6 ∷ []
