-- States that stand row by row.
use Rattle.std.proofs.Common.{◌≡◌, ℕ, suc, ◌+◌, ◌*◌, List, [], ◌∷◌, length, refl, sym, Fits, w8}
use Rattle.std.specs.Simd.Lanes.{Each1}
use Rattle.aes_core.specs.Block.{IsBytes, IsBlock}
use Rattle.aes_core.specs.State.{byte_at, state_of, sub_bytes, shift_rows, inv_sub_bytes, add_round_key}
use Rattle.aes_core.specs.Laws.StateLaws.{block_is, state_block}
use Rattle.aes_wide.specs.Planes.{by_rows}
use Rattle.aes_wide.specs.Steps.{doubled, constant}

pub by_rows_back : (s : List ℕ) → length s ≡ 16 → by_rows (by_rows s) ≡ s
unfolding by_rows state_of
by_rows_back s long = sym (block_is s long)

pub by_rows_block : (s : List ℕ) → IsBytes s → IsBlock (by_rows s)
unfolding by_rows
by_rows_block s h = state_block (λ r c. byte_at s c r) (λ r c. h (c + 4 * r))

pub by_rows_sum : (s k : List ℕ) → by_rows (add_round_key s k) ≡ add_round_key (by_rows s) (by_rows k)
unfolding by_rows add_round_key state_of
by_rows_sum s k = refl

pub by_rows_doubled : (s : List ℕ) → by_rows (doubled s) ≡ doubled (by_rows s)
unfolding by_rows doubled state_of
by_rows_doubled s = refl

pub by_rows_subbed : (s : List ℕ) → by_rows (sub_bytes s) ≡ sub_bytes (by_rows s)
unfolding by_rows sub_bytes state_of
by_rows_subbed s = refl

pub by_rows_unsubbed : (s : List ℕ) → by_rows (inv_sub_bytes s) ≡ inv_sub_bytes (by_rows s)
unfolding by_rows inv_sub_bytes state_of
by_rows_unsubbed s = refl

pub by_rows_constant : by_rows constant ≡ constant
unfolding by_rows constant state_of
by_rows_constant = refl

-- SubBytes and ShiftRows change places
pub sub_shifted : (s : List ℕ) → sub_bytes (shift_rows s) ≡ shift_rows (sub_bytes s)
unfolding shift_rows sub_bytes state_of
sub_shifted s = refl

pub each_byte : (xs : List ℕ) → IsBytes xs → Each1 (Fits w8) xs
each_byte [] h = tt
each_byte (x ∷ xs) h = (record { fits = h 0 }, each_byte xs (λ i. h (suc i)))
