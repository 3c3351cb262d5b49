-- The constant of the S-box changes places with the other steps, so that it can be added to the round keys once and for all.
use Rattle.std.proofs.Common.{◌≡◌, ℕ, zero, suc, ◌+◌, ◌*◌, ◌%◌, ◌<◌, List, [], ◌∷◌, refl, sym, ◌∙◌, ap, arith}
use Rattle.std.specs.Int.Bits.{bit_xor, xor_assoc}
use Rattle.aes_core.specs.Block.{IsBytes}
use Rattle.aes_core.specs.Field.{x_times}
use Rattle.aes_core.specs.Expansion.{round_key}
use Rattle.aes_core.specs.State.{byte_at, state_of, mixed, mix_columns, unmixed, inv_mix_columns, inv_shift_rows, add_round_key}
use Rattle.aes_core.specs.Laws.FieldLaws.{sum_byte, x_times_byte}
use Rattle.aes_core.specs.Laws.XorSums.{same_sums}
use Rattle.aes_core.specs.Laws.XorSums.Sum.{Term, Both}
use Rattle.aes_wide.specs.Steps.{constant}
use Rattle.aes_wide.specs.RoundKeyPlanes.{held_key}
use Rattle.aes_wide.proofs.StepLemmas.{same_states, mixed_byte_is}
use Rattle.aes_wide.proofs.UnmixLemmas.{four, unmixed_byte_is}

-- ---- sums

-- a key with the constant is added to a state without it
pub sum_moved : (s k : List ℕ) → add_round_key s (add_round_key k constant) ≡ add_round_key (add_round_key s constant) k
unfolding add_round_key constant state_of
sum_moved s k =
    same_states
    (λ r c. bit_xor (byte_at s r c) (bit_xor (byte_at k r c) 0x63))
    (λ r c. bit_xor (bit_xor (byte_at s r c) 0x63) (byte_at k r c))
    (λ r c. same_sums (byte_at s r c ∷ byte_at k r c ∷ 0x63 ∷ []) (Both (Term 0) (Both (Term 1) (Term 2))) (Both (Both (Term 0) (Term 2)) (Term 1)) refl)

-- and taken out again
pub sum_cleared : (s k : List ℕ) → add_round_key (add_round_key s (add_round_key k constant)) constant ≡ add_round_key s k
unfolding add_round_key constant state_of
sum_cleared s k =
    same_states
    (λ r c. bit_xor (bit_xor (byte_at s r c) (bit_xor (byte_at k r c) 0x63)) 0x63)
    (λ r c. bit_xor (byte_at s r c) (byte_at k r c))
    (λ r c. same_sums (byte_at s r c ∷ byte_at k r c ∷ 0x63 ∷ []) (Both (Both (Term 0) (Both (Term 1) (Term 2))) (Term 2)) (Both (Term 0) (Term 1)) refl)

pub unshift_moved : (s : List ℕ) → inv_shift_rows (add_round_key s constant) ≡ add_round_key (inv_shift_rows s) constant
unfolding add_round_key constant inv_shift_rows state_of
unshift_moved s = refl

-- ---- MixColumns and its inverse

both_moved : (a b : ℕ) → bit_xor (bit_xor a 0x63) (bit_xor b 0x63) ≡ bit_xor a b
both_moved a b = same_sums (a ∷ b ∷ 0x63 ∷ []) (Both (Both (Term 0) (Term 2)) (Both (Term 1) (Term 2))) (Both (Term 0) (Term 1)) refl

three_moved : (b c d : ℕ) → bit_xor (bit_xor b 0x63) (bit_xor (bit_xor c 0x63) (bit_xor d 0x63)) ≡ bit_xor (bit_xor b (bit_xor c d)) 0x63
three_moved b c d =
    same_sums (b ∷ c ∷ d ∷ 0x63 ∷ [])
    (Both (Both (Term 0) (Term 3)) (Both (Both (Term 1) (Term 3)) (Both (Term 2) (Term 3))))
    (Both (Both (Term 0) (Both (Term 1) (Term 2))) (Term 3))
    refl

moved_byte : (a : ℕ) → a < 256 → bit_xor a 0x63 < 256
moved_byte a la = sum_byte a 0x63 la (omega arith)

mixed_moved : (a b c d : ℕ) → a < 256 → b < 256 → mixed (bit_xor a 0x63) (bit_xor b 0x63) (bit_xor c 0x63) (bit_xor d 0x63) ≡ bit_xor (mixed a b c d) 0x63
mixed_moved a b c d la lb =
    sym (mixed_byte_is (bit_xor a 0x63) (bit_xor b 0x63) (bit_xor c 0x63) (bit_xor d 0x63) (moved_byte a la) (moved_byte b lb))
    ∙ ap (λ t. bit_xor (x_times t) (bit_xor (bit_xor b 0x63) (bit_xor (bit_xor c 0x63) (bit_xor d 0x63)))) (both_moved a b)
    ∙ ap (λ t. bit_xor (x_times (bit_xor a b)) t) (three_moved b c d)
    ∙ sym (xor_assoc (x_times (bit_xor a b)) (bit_xor b (bit_xor c d)) 0x63)
    ∙ ap (λ t. bit_xor t 0x63) (mixed_byte_is a b c d la lb)

pub mix_moved : (s : List ℕ) → IsBytes s → mix_columns (add_round_key s constant) ≡ add_round_key (mix_columns s) constant
unfolding add_round_key constant mix_columns state_of
mix_moved s h =
    same_states
    (λ r c. mixed (bit_xor (byte_at s r c) 0x63) (bit_xor (byte_at s ((r + 1) % 4) c) 0x63) (bit_xor (byte_at s ((r + 2) % 4) c) 0x63) (bit_xor (byte_at s ((r + 3) % 4) c) 0x63))
    (λ r c. bit_xor (mixed (byte_at s r c) (byte_at s ((r + 1) % 4) c) (byte_at s ((r + 2) % 4) c) (byte_at s ((r + 3) % 4) c)) 0x63)
    (λ r c. mixed_moved (byte_at s r c) (byte_at s ((r + 1) % 4) c) (byte_at s ((r + 2) % 4) c) (byte_at s ((r + 3) % 4) c) (h (r + 4 * c)) (h ((r + 1) % 4 + 4 * c)))

-- what InvMixColumns adds to a byte before MixColumns does not change
eased_moved : (a c : ℕ) → bit_xor (bit_xor a 0x63) (four (bit_xor a 0x63) (bit_xor c 0x63)) ≡ bit_xor (bit_xor a (four a c)) 0x63
eased_moved a c =
    ap (λ t. bit_xor (bit_xor a 0x63) (x_times (x_times t))) (both_moved a c)
    ∙ same_sums (a ∷ four a c ∷ 0x63 ∷ []) (Both (Both (Term 0) (Term 2)) (Term 1)) (Both (Both (Term 0) (Term 1)) (Term 2)) refl

eased_byte : (a c : ℕ) → a < 256 → c < 256 → bit_xor a (four a c) < 256
eased_byte a c la lc = sum_byte a (four a c) la (x_times_byte (x_times (bit_xor a c)) (x_times_byte (bit_xor a c) (sum_byte a c la lc)))

unmixed_moved : (a b c d : ℕ) → a < 256 → b < 256 → c < 256 → d < 256 →
    unmixed (bit_xor a 0x63) (bit_xor b 0x63) (bit_xor c 0x63) (bit_xor d 0x63) ≡ bit_xor (unmixed a b c d) 0x63
unmixed_moved a b c d la lb lc ld =
    sym (unmixed_byte_is (bit_xor a 0x63) (bit_xor b 0x63) (bit_xor c 0x63) (bit_xor d 0x63) (moved_byte a la) (moved_byte b lb) (moved_byte c lc) (moved_byte d ld))
    ∙ (λ i. mixed (eased_moved a c i) (eased_moved b d i) (eased_moved c a i) (eased_moved d b i))
    ∙ mixed_moved (bit_xor a (four a c)) (bit_xor b (four b d)) (bit_xor c (four c a)) (bit_xor d (four d b)) (eased_byte a c la lc) (eased_byte b d lb ld)
    ∙ ap (λ t. bit_xor t 0x63) (unmixed_byte_is a b c d la lb lc ld)

pub unmix_moved : (s : List ℕ) → IsBytes s → inv_mix_columns (add_round_key s constant) ≡ add_round_key (inv_mix_columns s) constant
unfolding add_round_key constant inv_mix_columns state_of
unmix_moved s h =
    same_states
    (λ r c. unmixed (bit_xor (byte_at s r c) 0x63) (bit_xor (byte_at s ((r + 1) % 4) c) 0x63) (bit_xor (byte_at s ((r + 2) % 4) c) 0x63) (bit_xor (byte_at s ((r + 3) % 4) c) 0x63))
    (λ r c. bit_xor (unmixed (byte_at s r c) (byte_at s ((r + 1) % 4) c) (byte_at s ((r + 2) % 4) c) (byte_at s ((r + 3) % 4) c)) 0x63)
    (λ r c. unmixed_moved (byte_at s r c) (byte_at s ((r + 1) % 4) c) (byte_at s ((r + 2) % 4) c) (byte_at s ((r + 3) % 4) c) (h (r + 4 * c)) (h ((r + 1) % 4 + 4 * c)) (h ((r + 2) % 4 + 4 * c)) (h ((r + 3) % 4 + 4 * c)))

-- ---- round keys

pub held_later : (w : List ℕ) (r : ℕ) → 0 < r → held_key w r ≡ add_round_key (round_key w r) constant
held_later w zero some = absurd (omega (arith, some))
held_later w (suc r) some = refl
