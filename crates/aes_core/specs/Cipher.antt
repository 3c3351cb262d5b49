-- AES on one block (FIPS 197 section 5): the cipher (5.1) and the inverse cipher (5.3).
use Rattle.std.specs.Prelude.{ℕ, zero, suc, ◌-◌, Bool, ◌||◌, ◌==◌, ◌≡◌, true, List, length}
use Rattle.aes_core.specs.Block.{IsBytes}
use Rattle.aes_core.specs.State.{sub_bytes, shift_rows, mix_columns, add_round_key, inv_shift_rows, inv_sub_bytes, inv_mix_columns}
use Rattle.aes_core.specs.Expansion.{key_expansion, round_key, rounds_of}

-- the state after the first n rounds (5.1)
unfoldable pub rounds : List ℕ → ℕ → List ℕ → List ℕ
rounds schedule zero state = state
rounds schedule (suc n) state = add_round_key (mix_columns (shift_rows (sub_bytes (rounds schedule n state)))) (round_key schedule (suc n))

-- Cipher (5.1): a last round without MixColumns
unfoldable pub cipher_by : List ℕ → ℕ → List ℕ → List ℕ
cipher_by schedule nr block =
    add_round_key (shift_rows (sub_bytes (rounds schedule (nr - 1) (add_round_key block (round_key schedule 0))))) (round_key schedule nr)

-- the state after the rounds n down to 1 of the inverse cipher (5.3)
unfoldable pub inv_rounds : List ℕ → ℕ → List ℕ → List ℕ
inv_rounds schedule zero state = state
inv_rounds schedule (suc n) state = inv_rounds schedule n (inv_mix_columns (add_round_key (inv_sub_bytes (inv_shift_rows state)) (round_key schedule (suc n))))

-- InvCipher (5.3): a last round without InvMixColumns
unfoldable pub inverse_by : List ℕ → ℕ → List ℕ → List ℕ
inverse_by schedule nr block =
    add_round_key (inv_sub_bytes (inv_shift_rows (inv_rounds schedule (nr - 1) (add_round_key block (round_key schedule nr))))) (round_key schedule 0)

-- AES under a key
unfoldable pub cipher : List ℕ → List ℕ → List ℕ
cipher key block = cipher_by (key_expansion key) (rounds_of key) block

-- the inverse of AES under a key
unfoldable pub inverse_cipher : List ℕ → List ℕ → List ℕ
inverse_cipher key block = inverse_by (key_expansion key) (rounds_of key) block

-- a key has 16, 24 or 32 bytes (6.1)
abbrev pub is_key_size : ℕ → Bool
is_key_size size = size == 16 || size == 24 || size == 32

-- what may be a key
pub record IsKey (key : List ℕ) : Type 0 where
  pub sized : is_key_size (length key) ≡ true
  pub bytes : IsBytes key
