-- One round more, as the loops of the code take it.
use Rattle.std.proofs.Common.{◌≡◌, ℕ, ◌+◌, List, ◌∙◌, ap, sym, add-one}
use Rattle.aes_core.specs.State.{sub_bytes, shift_rows, mix_columns, add_round_key, inv_shift_rows, inv_sub_bytes, inv_mix_columns}
use Rattle.aes_core.specs.Expansion.{round_key}
use Rattle.aes_core.specs.Cipher.{rounds, inv_rounds}

pub rounds_more : (w : List ℕ) (n : ℕ) (start : List ℕ) → rounds w (n + 1) start ≡ add_round_key (mix_columns (shift_rows (sub_bytes (rounds w n start)))) (round_key w (n + 1))
unfolding rounds
rounds_more w n start =
    ap (λ m. rounds w m start) (add-one n)
    ∙ ap (λ m. add_round_key (mix_columns (shift_rows (sub_bytes (rounds w n start)))) (round_key w m)) (sym (add-one n))

pub inv_rounds_more : (w : List ℕ) (n m : ℕ) (state : List ℕ) → m ≡ n + 1 → inv_rounds w m state ≡ inv_rounds w n (inv_mix_columns (add_round_key (inv_sub_bytes (inv_shift_rows state)) (round_key w m)))
unfolding inv_rounds
inv_rounds_more w n m state e =
    ap (λ k. inv_rounds w k state) (e ∙ add-one n)
    ∙ ap (λ k. inv_rounds w n (inv_mix_columns (add_round_key (inv_sub_bytes (inv_shift_rows state)) (round_key w k)))) (sym (e ∙ add-one n))
