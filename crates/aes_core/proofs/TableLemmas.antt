-- The tables of the code are held against the definitions at each of their places, by computing.
use Rattle.std.proofs.Common.{◌≡◌, ℕ, ◌*◌, ◌/◌, ◌%◌, ◌<◌, ◌==◌, true, get_or, refl}
use Rattle.std.specs.Int.Bits.{bit_xor}
use Rattle.std.proofs.lemmas.Bool.{agree_below}
use Rattle.aes_core.specs.Field.{x_times, times_bits, times, inverse_up_to, inverse, affine, sub_byte, affine_back, inv_sub_byte}
use Rattle.aes_core.specs.Expansion.{power_of_x}
use Rattle.aes_core.specs.Laws.FieldLaws.{same_at}
use Rattle.aes_core.specs.declared.boxes.TheConstants.{S_BOX, INV_S_BOX}
use Rattle.aes_core.specs.declared.schedule.TheConstants.{POWERS}

s_box_same : agree_below (λ k. get_or S_BOX k 0 == sub_byte k) (λ _. true) 256 ≡ true
unfolding sub_byte affine inverse inverse_up_to times times_bits x_times
s_box_same = refl

pub s_box_at : (b : ℕ) → b < 256 → get_or S_BOX b 0 ≡ sub_byte b
s_box_at b below = same_at (λ k. get_or S_BOX k 0) sub_byte 256 b s_box_same below

inv_s_box_same : agree_below (λ k. get_or INV_S_BOX k 0 == inv_sub_byte k) (λ _. true) 256 ≡ true
unfolding inv_sub_byte affine_back inverse inverse_up_to times times_bits x_times
inv_s_box_same = refl

pub inv_s_box_at : (b : ℕ) → b < 256 → get_or INV_S_BOX b 0 ≡ inv_sub_byte b
inv_s_box_at b below = same_at (λ k. get_or INV_S_BOX k 0) inv_sub_byte 256 b inv_s_box_same below

-- the code's product with x
doubled_same : agree_below (λ k. bit_xor (k * 2 % 256) (27 * (k / 128)) == x_times k) (λ _. true) 256 ≡ true
unfolding x_times
doubled_same = refl

pub doubled_at : (b : ℕ) → b < 256 → bit_xor (b * 2 % 256) (27 * (b / 128)) ≡ x_times b
doubled_at b below = same_at (λ k. bit_xor (k * 2 % 256) (27 * (k / 128))) x_times 256 b doubled_same below

powers_same : agree_below (λ k. get_or POWERS k 0 == power_of_x k) (λ _. true) 10 ≡ true
unfolding power_of_x x_times
powers_same = refl

pub powers_at : (n : ℕ) → n < 10 → get_or POWERS n 0 ≡ power_of_x n
powers_at n below = same_at (λ k. get_or POWERS k 0) power_of_x 10 n powers_same below
