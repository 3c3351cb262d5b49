-- The rounds of the inverse cipher over eight blocks.
use Rattle.std.proofs.Common.{◌≡◌, ℕ, ◌+◌, ◌-◌, ◌<◌, List, sym, subst, ◌∙◌, ap, arith, add-one}
use Rattle.aes_core.specs.Block.{IsBytes}
use Rattle.aes_core.specs.State.{add_round_key, inv_sub_bytes, inv_shift_rows, inv_mix_columns}
use Rattle.aes_core.specs.Expansion.{key_expansion, round_key, rounds_of}
use Rattle.aes_core.specs.Cipher.{inv_rounds, inverse_by, inverse_cipher}
use Rattle.aes_wide.specs.RoundKeyPlanes.{held_key}
use Rattle.aes_wide.specs.Planes.{IsWhole, standing, at}
use Rattle.aes_wide.specs.Steps.{constant}
use Rattle.aes_wide.proofs.MovedLemmas.{sum_cleared, unmix_moved, held_later}
use Rattle.aes_wide.proofs.StepLemmas.{standing_whole}

-- n rounds are left, from x on; the state has the constant of the S-box in each byte
pub record IsBack (w : List ℕ) (nr n : ℕ) (x state : List (List ℕ)) : Type 0 where
  pub whole : IsWhole 8 state
  pub blocks : (b : ℕ) → b < 8 → inv_rounds w n (add_round_key (standing state b) constant) ≡ inv_rounds w (nr - 1) (add_round_key (standing x b) (round_key w nr))

pub back_begun : (w : List ℕ) (nr n : ℕ) (x state key : List (List ℕ)) → n ≡ nr - 1 → 0 < nr → IsWhole 8 state → ((b : ℕ) → standing state b ≡ add_round_key (standing x b) (standing key b)) →
    ((b : ℕ) → b < 8 → standing key b ≡ held_key w nr) → IsBack w nr n x state
back_begun w nr n x state key is_n some whole added is_key = record {
  whole = whole;
  blocks = λ b h.
      ap (λ m. inv_rounds w m (add_round_key (standing state b) constant)) is_n
      ∙ ap (inv_rounds w (nr - 1)) (ap (λ t. add_round_key t constant) (added b ∙ ap (add_round_key (standing x b)) (is_key b h ∙ held_later w nr some)) ∙ sum_cleared (standing x b) (round_key w nr));
}

-- a round key with the constant is added, and the constant stays behind InvMixColumns
unmixed_on : (x z sum next : List (List ℕ)) (b : ℕ) (k : List ℕ) → IsWhole 8 sum → standing z b ≡ inv_sub_bytes (inv_shift_rows (add_round_key (standing x b) constant)) →
    standing sum b ≡ add_round_key (standing z b) (add_round_key k constant) → standing next b ≡ inv_mix_columns (standing sum b) →
    add_round_key (standing next b) constant ≡ inv_mix_columns (add_round_key (inv_sub_bytes (inv_shift_rows (add_round_key (standing x b) constant))) k)
unmixed_on x z sum next b k whole is_z is_sum is_next =
    let bytes : IsBytes (standing sum b) = subst (λ t. IsBytes (standing t b)) (sym whole) (standing_whole (at sum) b).bytes in
    ap (λ t. add_round_key t constant) is_next
    ∙ sym (unmix_moved (standing sum b) bytes)
    ∙ ap inv_mix_columns (ap (λ t. add_round_key t constant) is_sum ∙ sum_cleared (standing z b) k ∙ ap (λ t. add_round_key t k) is_z)

pub back_on : (w : List ℕ) (nr n m : ℕ) (x state z sum next key : List (List ℕ)) → m ≡ n + 1 → IsBack w nr m x state → IsWhole 8 sum → IsWhole 8 next →
    ((b : ℕ) → standing z b ≡ inv_sub_bytes (inv_shift_rows (add_round_key (standing state b) constant))) →
    ((b : ℕ) → standing sum b ≡ add_round_key (standing z b) (standing key b)) →
    ((b : ℕ) → standing next b ≡ inv_mix_columns (standing sum b)) →
    ((b : ℕ) → b < 8 → standing key b ≡ held_key w m) → IsBack w nr n x next
unfolding inv_rounds
back_on w nr n m x state z sum next key is_m back whole_sum whole is_z is_sum is_next is_key = record {
  whole = whole;
  blocks = λ b h.
      let s = inv_sub_bytes (inv_shift_rows (add_round_key (standing state b) constant)) in
      let held = is_key b h ∙ held_later w m (omega (arith, is_m)) in
      ap (inv_rounds w n)
      (unmixed_on state z sum next b (round_key w m) whole_sum (is_z b) (is_sum b ∙ ap (add_round_key (standing z b)) held) (is_next b)
      ∙ ap (λ k. inv_mix_columns (add_round_key s k)) (ap (round_key w) (is_m ∙ add-one n)))
      ∙ ap (λ k. inv_rounds w k (add_round_key (standing state b) constant)) (sym (is_m ∙ add-one n))
      ∙ back.blocks b h;
}

pub back_ended : (key : List ℕ) (nr n : ℕ) (x state z out last : List (List ℕ)) → nr ≡ rounds_of key → n ≡ 0 → IsBack (key_expansion key) nr n x state →
    ((b : ℕ) → standing z b ≡ inv_sub_bytes (inv_shift_rows (add_round_key (standing state b) constant))) →
    ((b : ℕ) → standing out b ≡ add_round_key (standing z b) (standing last b)) →
    ((b : ℕ) → b < 8 → standing last b ≡ round_key (key_expansion key) 0) →
    (b : ℕ) → b < 8 → standing out b ≡ inverse_cipher key (standing x b)
unfolding inverse_cipher inverse_by inv_rounds
back_ended key nr n x state z out last is_nr is_n back is_z step is_key b h =
    let w = key_expansion key in
    step b
    ∙ ap (λ t. add_round_key t (standing last b)) (is_z b)
    ∙ ap (λ t. add_round_key (inv_sub_bytes (inv_shift_rows t)) (standing last b)) (ap (λ k. inv_rounds w k (add_round_key (standing state b) constant)) (sym is_n) ∙ back.blocks b h ∙ ap (λ k. inv_rounds w (k - 1) (add_round_key (standing x b) (round_key w k))) is_nr)
    ∙ ap (add_round_key (inv_sub_bytes (inv_shift_rows (inv_rounds w (rounds_of key - 1) (add_round_key (standing x b) (round_key w (rounds_of key))))))) (is_key b h)
