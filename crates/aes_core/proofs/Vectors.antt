-- The definitions on the vectors of FIPS 197.
use Rattle.std.proofs.Common.{◌≡◌, ℕ, List, [], ◌∷◌, refl}
use Rattle.aes_core.specs.Field.{x_times, times_bits, times, inverse_up_to, inverse, affine, sub_byte, affine_back, inv_sub_byte}
use Rattle.aes_core.specs.State.{state_of, sub_bytes, shift_rows, mixed, mix_columns, add_round_key, inv_shift_rows, inv_sub_bytes, unmixed, inv_mix_columns}
use Rattle.aes_core.specs.Expansion.{add_words, rot_word, sub_word, power_of_x, round_constant, changed, next_word, expanded, key_expansion}
use Rattle.aes_core.specs.Cipher.{rounds, cipher_by, inv_rounds, inverse_by, cipher, inverse_cipher}

-- 57 times 83 is c1 (4.2)
product : times 0x57 0x83 ≡ 0xc1
unfolding times times_bits x_times
product = refl

-- the S-box of 53 is ed (5.1.1)
substituted : sub_byte 0x53 ≡ 0xed
unfolding sub_byte affine inverse inverse_up_to times times_bits x_times
substituted = refl

restored : inv_sub_byte 0xed ≡ 0x53
unfolding inv_sub_byte affine_back inverse inverse_up_to times times_bits x_times
restored = refl

key_16 : List ℕ
key_16 =
    0x00 ∷ 0x01 ∷ 0x02 ∷ 0x03 ∷ 0x04 ∷ 0x05 ∷ 0x06 ∷ 0x07 ∷
    0x08 ∷ 0x09 ∷ 0x0a ∷ 0x0b ∷ 0x0c ∷ 0x0d ∷ 0x0e ∷ 0x0f ∷ []

text : List ℕ
text =
    0x00 ∷ 0x11 ∷ 0x22 ∷ 0x33 ∷ 0x44 ∷ 0x55 ∷ 0x66 ∷ 0x77 ∷
    0x88 ∷ 0x99 ∷ 0xaa ∷ 0xbb ∷ 0xcc ∷ 0xdd ∷ 0xee ∷ 0xff ∷ []

ciphered_16 : List ℕ
ciphered_16 =
    0x69 ∷ 0xc4 ∷ 0xe0 ∷ 0xd8 ∷ 0x6a ∷ 0x7b ∷ 0x04 ∷ 0x30 ∷
    0xd8 ∷ 0xcd ∷ 0xb7 ∷ 0x80 ∷ 0x70 ∷ 0xb4 ∷ 0xc5 ∷ 0x5a ∷ []

-- appendix C.1
vector_16 : cipher key_16 text ≡ ciphered_16
unfolding key_16 text ciphered_16 cipher cipher_by rounds key_expansion expanded next_word changed round_constant power_of_x sub_word rot_word add_words add_round_key mix_columns mixed shift_rows sub_bytes state_of sub_byte affine inverse inverse_up_to times times_bits x_times
vector_16 = refl

inverse_16 : inverse_cipher key_16 ciphered_16 ≡ text
unfolding key_16 text ciphered_16 inverse_cipher inverse_by inv_rounds key_expansion expanded next_word changed round_constant power_of_x sub_word rot_word add_words add_round_key inv_mix_columns unmixed inv_shift_rows inv_sub_bytes state_of sub_byte affine inv_sub_byte affine_back inverse inverse_up_to times times_bits x_times
inverse_16 = refl
