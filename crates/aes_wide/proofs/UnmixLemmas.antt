-- InvMixColumns on blocks, by MixColumns.
use Rattle.std.proofs.Common.{◌≡◌, ℕ, ◌+◌, ◌*◌, ◌%◌, ◌<◌, List, refl, ◌∙◌, ap}
use Rattle.std.specs.Int.Bits.{bit_xor}
use Rattle.std.proofs.lemmas.Nat.{xor_comm}
use Rattle.aes_core.specs.Block.{IsBytes}
use Rattle.aes_core.specs.Field.{x_times}
use Rattle.aes_core.specs.State.{byte_at, state_of, mixed, mix_columns, unmixed, inv_mix_columns, add_round_key}
use Rattle.aes_core.proofs.MixLemmas.{unmixed_by_mixed}
use Rattle.aes_wide.specs.Steps.{turned, doubled}
use Rattle.aes_wide.proofs.StepLemmas.{same_states}

abbrev pub four : ℕ → ℕ → ℕ
four a c = x_times (x_times (bit_xor a c))

pub unmixed_byte_is : (a b c d : ℕ) → a < 256 → b < 256 → c < 256 → d < 256 →
    mixed (bit_xor a (four a c)) (bit_xor b (four b d)) (bit_xor c (four c a)) (bit_xor d (four d b)) ≡ unmixed a b c d
unmixed_byte_is a b c d la lb lc ld =
    ap (λ t. mixed (bit_xor a (four a c)) (bit_xor b (four b d)) (bit_xor c (x_times (x_times t))) (bit_xor d (four d b))) (xor_comm c a)
    ∙ ap (λ t. mixed (bit_xor a (four a c)) (bit_xor b (four b d)) (bit_xor c (four a c)) (bit_xor d (x_times (x_times t)))) (xor_comm d b)
    ∙ unmixed_by_mixed a b c d (four a c) (four b d) la lb lc ld refl refl

pub unmixed_block : (s : List ℕ) → IsBytes s → mix_columns (add_round_key s (doubled (doubled (add_round_key s (turned 2 s))))) ≡ inv_mix_columns s
unfolding add_round_key doubled turned mix_columns inv_mix_columns state_of
unmixed_block s h =
    let a = λ (r c : ℕ). byte_at s r c in
    let b = λ (r c : ℕ). byte_at s ((r + 1) % 4) c in
    let d = λ (r c : ℕ). byte_at s ((r + 2) % 4) c in
    let e = λ (r c : ℕ). byte_at s ((r + 3) % 4) c in
    same_states
    (λ r c. mixed (bit_xor (a r c) (four (a r c) (d r c))) (bit_xor (b r c) (four (b r c) (e r c))) (bit_xor (d r c) (four (d r c) (a r c))) (bit_xor (e r c) (four (e r c) (b r c))))
    (λ r c. unmixed (a r c) (b r c) (d r c) (e r c))
    (λ r c. unmixed_byte_is (a r c) (b r c) (d r c) (e r c) (h (r + 4 * c)) (h ((r + 1) % 4 + 4 * c)) (h ((r + 2) % 4 + 4 * c)) (h ((r + 3) % 4 + 4 * c)))
