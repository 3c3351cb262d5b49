-- The cipher and the inverse cipher send blocks to blocks, and each undoes the other.
use Rattle.std.proofs.Common.{◌≡◌, ℕ, zero, suc, ◌-◌, List, refl, ◌∙◌, ap}
use Rattle.aes_core.specs.Block.{IsBytes, IsBlock}
use Rattle.aes_core.specs.State.{sub_bytes, shift_rows, mix_columns, add_round_key, inv_shift_rows, inv_sub_bytes, inv_mix_columns}
use Rattle.aes_core.specs.Expansion.{key_expansion, round_key, rounds_of}
use Rattle.aes_core.specs.Cipher.{rounds, cipher_by, inv_rounds, inverse_by, cipher, inverse_cipher, IsKey}
use Rattle.aes_core.specs.Laws.StateLaws.{sub_bytes_block, inv_sub_bytes_block, sub_bytes_undone, inv_sub_bytes_undone, shift_rows_block, inv_shift_rows_block, shift_rows_undone, inv_shift_rows_undone, mix_columns_block, inv_mix_columns_block, mix_columns_undone, inv_mix_columns_undone, add_round_key_block, add_round_key_undone}
use Rattle.aes_core.specs.Laws.ScheduleLaws.{key_expansion_bytes, round_key_bytes}

-- SubBytes and ShiftRows, and back
abbrev substituted : List ℕ → List ℕ
substituted s = shift_rows (sub_bytes s)

abbrev restored : List ℕ → List ℕ
restored s = inv_sub_bytes (inv_shift_rows s)

substituted_block : (s : List ℕ) → IsBlock s → IsBlock (substituted s)
substituted_block s h = shift_rows_block (sub_bytes s) (sub_bytes_block s h.bytes).bytes

restored_block : (s : List ℕ) → IsBlock s → IsBlock (restored s)
restored_block s h = inv_sub_bytes_block (inv_shift_rows s) (inv_shift_rows_block s h.bytes).bytes

substituted_undone : (s : List ℕ) → IsBlock s → restored (substituted s) ≡ s
substituted_undone s h = ap inv_sub_bytes (shift_rows_undone (sub_bytes s) (sub_bytes_block s h.bytes)) ∙ sub_bytes_undone s h

restored_undone : (s : List ℕ) → IsBlock s → substituted (restored s) ≡ s
restored_undone s h = ap shift_rows (inv_sub_bytes_undone (inv_shift_rows s) (inv_shift_rows_block s h.bytes)) ∙ inv_shift_rows_undone s h

add_block : (w : List ℕ) (r : ℕ) (s : List ℕ) → IsBytes w → IsBlock s → IsBlock (add_round_key s (round_key w r))
add_block w r s hw h = add_round_key_block s (round_key w r) h.bytes (round_key_bytes w r hw)

-- a round, and its inverse
abbrev round : List ℕ → ℕ → List ℕ → List ℕ
round w r s = add_round_key (mix_columns (substituted s)) (round_key w r)

abbrev inv_round : List ℕ → ℕ → List ℕ → List ℕ
inv_round w r s = inv_mix_columns (add_round_key (restored s) (round_key w r))

round_block : (w : List ℕ) (r : ℕ) (s : List ℕ) → IsBytes w → IsBlock s → IsBlock (round w r s)
round_block w r s hw h = add_block w r (mix_columns (substituted s)) hw (mix_columns_block (substituted s) (substituted_block s h).bytes)

inv_round_block : (w : List ℕ) (r : ℕ) (s : List ℕ) → IsBytes w → IsBlock s → IsBlock (inv_round w r s)
inv_round_block w r s hw h = inv_mix_columns_block (add_round_key (restored s) (round_key w r)) (add_block w r (restored s) hw (restored_block s h)).bytes

rounds_block : (w : List ℕ) (n : ℕ) (s : List ℕ) → IsBytes w → IsBlock s → IsBlock (rounds w n s)
unfolding rounds
rounds_block w zero s hw h = h
rounds_block w (suc n) s hw h = round_block w (suc n) (rounds w n s) hw (rounds_block w n s hw h)

inv_rounds_block : (w : List ℕ) (n : ℕ) (s : List ℕ) → IsBytes w → IsBlock s → IsBlock (inv_rounds w n s)
unfolding inv_rounds
inv_rounds_block w zero s hw h = h
inv_rounds_block w (suc n) s hw h = inv_rounds_block w n (inv_round w (suc n) s) hw (inv_round_block w (suc n) s hw h)

-- an inverse round on what a round and the next SubBytes and ShiftRows gave
round_undone : (w : List ℕ) (r : ℕ) (s : List ℕ) → IsBytes w → IsBlock s → inv_round w r (substituted (round w r s)) ≡ substituted s
round_undone w r s hw h =
    ap (λ t. inv_mix_columns (add_round_key t (round_key w r))) (substituted_undone (round w r s) (round_block w r s hw h))
    ∙ ap inv_mix_columns (add_round_key_undone (mix_columns (substituted s)) (round_key w r) (mix_columns_block (substituted s) (substituted_block s h).bytes))
    ∙ mix_columns_undone (substituted s) (substituted_block s h)

inv_round_undone : (w : List ℕ) (r : ℕ) (s t : List ℕ) → IsBytes w → IsBlock s → substituted t ≡ inv_round w r s → substituted (round w r t) ≡ s
inv_round_undone w r s t hw h e =
    ap (λ u. substituted (add_round_key (mix_columns u) (round_key w r))) e
    ∙ ap (λ u. substituted (add_round_key u (round_key w r))) (inv_mix_columns_undone (add_round_key (restored s) (round_key w r)) (add_block w r (restored s) hw (restored_block s h)))
    ∙ ap substituted (add_round_key_undone (restored s) (round_key w r) (restored_block s h))
    ∙ restored_undone s h

rounds_undone : (w : List ℕ) (n : ℕ) (s : List ℕ) → IsBytes w → IsBlock s → inv_rounds w n (substituted (rounds w n s)) ≡ substituted s
unfolding rounds inv_rounds
rounds_undone w zero s hw h = refl
rounds_undone w (suc n) s hw h =
    ap (inv_rounds w n) (round_undone w (suc n) (rounds w n s) hw (rounds_block w n s hw h))
    ∙ rounds_undone w n s hw h

inv_rounds_undone : (w : List ℕ) (n : ℕ) (s : List ℕ) → IsBytes w → IsBlock s → substituted (rounds w n (restored (inv_rounds w n s))) ≡ s
unfolding rounds inv_rounds
inv_rounds_undone w zero s hw h = restored_undone s h
inv_rounds_undone w (suc n) s hw h =
    inv_round_undone w (suc n) s (rounds w n (restored (inv_rounds w n (inv_round w (suc n) s)))) hw h
    (inv_rounds_undone w n (inv_round w (suc n) s) hw (inv_round_block w (suc n) s hw h))

-- ---- over a schedule

by_block : (w : List ℕ) (nr : ℕ) (s : List ℕ) → IsBytes w → IsBlock s → IsBlock (cipher_by w nr s)
unfolding cipher_by
by_block w nr s hw h =
    add_block w nr (substituted (rounds w (nr - 1) (add_round_key s (round_key w 0)))) hw
    (substituted_block (rounds w (nr - 1) (add_round_key s (round_key w 0))) (rounds_block w (nr - 1) (add_round_key s (round_key w 0)) hw (add_block w 0 s hw h)))

inverse_by_block : (w : List ℕ) (nr : ℕ) (s : List ℕ) → IsBytes w → IsBlock s → IsBlock (inverse_by w nr s)
unfolding inverse_by
inverse_by_block w nr s hw h =
    add_block w 0 (restored (inv_rounds w (nr - 1) (add_round_key s (round_key w nr)))) hw
    (restored_block (inv_rounds w (nr - 1) (add_round_key s (round_key w nr))) (inv_rounds_block w (nr - 1) (add_round_key s (round_key w nr)) hw (add_block w nr s hw h)))

by_undone : (w : List ℕ) (nr : ℕ) (s : List ℕ) → IsBytes w → IsBlock s → inverse_by w nr (cipher_by w nr s) ≡ s
unfolding cipher_by inverse_by
by_undone w nr s hw h =
    let start : IsBlock (add_round_key s (round_key w 0)) = add_block w 0 s hw h in
    let last : IsBlock (rounds w (nr - 1) (add_round_key s (round_key w 0))) = rounds_block w (nr - 1) (add_round_key s (round_key w 0)) hw start in
    ap (λ t. add_round_key (restored (inv_rounds w (nr - 1) t)) (round_key w 0))
    (add_round_key_undone (substituted (rounds w (nr - 1) (add_round_key s (round_key w 0)))) (round_key w nr) (substituted_block (rounds w (nr - 1) (add_round_key s (round_key w 0))) last))
    ∙ ap (λ t. add_round_key (restored t) (round_key w 0)) (rounds_undone w (nr - 1) (add_round_key s (round_key w 0)) hw start)
    ∙ ap (λ t. add_round_key t (round_key w 0)) (substituted_undone (add_round_key s (round_key w 0)) start)
    ∙ add_round_key_undone s (round_key w 0) h

inverse_by_undone : (w : List ℕ) (nr : ℕ) (s : List ℕ) → IsBytes w → IsBlock s → cipher_by w nr (inverse_by w nr s) ≡ s
unfolding cipher_by inverse_by
inverse_by_undone w nr s hw h =
    let start : IsBlock (add_round_key s (round_key w nr)) = add_block w nr s hw h in
    let last : IsBlock (inv_rounds w (nr - 1) (add_round_key s (round_key w nr))) = inv_rounds_block w (nr - 1) (add_round_key s (round_key w nr)) hw start in
    ap (λ t. add_round_key (substituted (rounds w (nr - 1) t)) (round_key w nr))
    (add_round_key_undone (restored (inv_rounds w (nr - 1) (add_round_key s (round_key w nr)))) (round_key w 0) (restored_block (inv_rounds w (nr - 1) (add_round_key s (round_key w nr))) last))
    ∙ ap (λ t. add_round_key t (round_key w nr)) (inv_rounds_undone w (nr - 1) (add_round_key s (round_key w nr)) hw start)
    ∙ add_round_key_undone s (round_key w nr) h

-- ---- under a key

pub cipher_block : (key block : List ℕ) → IsKey key → IsBlock block → IsBlock (cipher key block)
unfolding cipher
cipher_block key block hk h = by_block (key_expansion key) (rounds_of key) block (key_expansion_bytes key hk.bytes) h

pub inverse_block : (key block : List ℕ) → IsKey key → IsBlock block → IsBlock (inverse_cipher key block)
unfolding inverse_cipher
inverse_block key block hk h = inverse_by_block (key_expansion key) (rounds_of key) block (key_expansion_bytes key hk.bytes) h

-- the inverse cipher undoes the cipher
pub cipher_undone : (key block : List ℕ) → IsKey key → IsBlock block → inverse_cipher key (cipher key block) ≡ block
unfolding cipher inverse_cipher
cipher_undone key block hk h = by_undone (key_expansion key) (rounds_of key) block (key_expansion_bytes key hk.bytes) h

-- the cipher undoes the inverse cipher
pub inverse_undone : (key block : List ℕ) → IsKey key → IsBlock block → cipher key (inverse_cipher key block) ≡ block
unfolding cipher inverse_cipher
inverse_undone key block hk h = inverse_by_undone (key_expansion key) (rounds_of key) block (key_expansion_bytes key hk.bytes) h
