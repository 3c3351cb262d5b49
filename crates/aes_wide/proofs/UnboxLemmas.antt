-- The circuit between two linear maps is the inverse S-box.
use Rattle.std.proofs.Common.{◌≡◌, ℕ, ◌<◌, ◌==◌, true, List, refl, sym, ◌∙◌, ap}
use Rattle.std.specs.Int.Bits.{bit_xor}
use Rattle.std.specs.Simd.Lanes.{number_l, digits_l}
use Rattle.std.proofs.lemmas.Bool.{agree_below}
use Rattle.aes_core.specs.Field.{x_times, times_bits, times, inverse_up_to, inverse, affine_back, inv_sub_byte}
use Rattle.aes_core.specs.Laws.FieldLaws.{same_at}
use Rattle.aes_core.specs.State.{add_round_key, inv_sub_bytes, state_of}
use Rattle.aes_wide.specs.Circuit.{run, circuit}
use Rattle.aes_wide.specs.Gates.{top_gates, top_outs, shared_gates, shared_outs, inverted_gates, inverted_outs, products_gates, products_outs, bottom_gates, bottom_outs, unlinear_gates, unlinear_outs}
use Rattle.aes_wide.specs.Planes.{lanes, made, column, block, by_rows, standing, bits_to_byte, planes_of, at, IsWhole}
use Rattle.aes_wide.specs.Boxes.{box_wires, unlinear_wires, unbox_wires}
use Rattle.aes_wide.specs.Steps.{constant}
use Rattle.aes_wide.proofs.Wires.{bits, circuit_bits}
use Rattle.aes_wide.proofs.Lanes.{column_made, lanes_same}
use Rattle.aes_wide.proofs.Standing.{by_rows_sum, by_rows_unsubbed, by_rows_constant}
use Rattle.aes_wide.proofs.BoxLemmas.{box_bits}
use Rattle.aes_wide.proofs.StepLemmas.{eight, byte_below, bits_below, column_whole}

unbox_same : agree_below (λ k. number_l 2 (unbox_wires (digits_l 2 8 k)) == inv_sub_byte (bit_xor k 0x63)) (λ _. true) 256 ≡ true
unfolding unbox_wires unlinear_wires box_wires run top_gates top_outs shared_gates shared_outs inverted_gates inverted_outs products_gates products_outs bottom_gates bottom_outs unlinear_gates unlinear_outs inv_sub_byte affine_back inverse inverse_up_to times times_bits x_times
unbox_same = refl

unbox_at : (k : ℕ) → k < 256 → number_l 2 (unbox_wires (digits_l 2 8 k)) ≡ inv_sub_byte (bit_xor k 0x63)
unbox_at k below = same_at (λ n. number_l 2 (unbox_wires (digits_l 2 8 n))) (λ n. inv_sub_byte (bit_xor n 0x63)) 256 k unbox_same below

unlinear_bits : (i : ℕ) (x : List ℕ) → bits i (unlinear_wires x) ≡ unlinear_wires (bits i x)
unfolding unlinear_wires
unlinear_bits i x = circuit_bits i unlinear_gates unlinear_outs x

unbox_bits : (i : ℕ) (x : List ℕ) → bits i (unbox_wires x) ≡ unbox_wires (bits i x)
unfolding unbox_wires
unbox_bits i x =
    unlinear_bits i (box_wires (unlinear_wires x))
    ∙ ap unlinear_wires (box_bits i (unlinear_wires x) ∙ ap box_wires (unlinear_bits i x))

unbox_byte : (u : ℕ → ℕ → ℕ) (j b : ℕ) → bits_to_byte (unbox_wires (eight u j)) b ≡ inv_sub_byte (bit_xor (bits_to_byte (eight u j) b) 0x63)
unbox_byte u j b =
    ap (number_l 2) (unbox_bits b (eight u j) ∙ ap unbox_wires (sym (bits_below u j b)))
    ∙ unbox_at (bits_to_byte (eight u j) b) (byte_below u j b)

pub unlinear_whole : (x : List (List ℕ)) → IsWhole 8 (made unlinear_gates unlinear_outs x)
unfolding lanes unlinear_outs
unlinear_whole x = refl

pub column_unboxed : (x y z : List (List ℕ)) (j : ℕ) → j < 16 → y ≡ made unlinear_gates unlinear_outs x → ((i : ℕ) → i < 16 → column z i ≡ box_wires (column y i)) →
    column (made unlinear_gates unlinear_outs z) j ≡ unbox_wires (column x j)
unfolding unbox_wires unlinear_wires
column_unboxed x y z j h is_y boxed =
    column_made unlinear_gates unlinear_outs z j h
    ∙ ap (circuit unlinear_gates unlinear_outs) (boxed j h ∙ ap box_wires (ap (λ t. column t j) is_y ∙ column_made unlinear_gates unlinear_outs x j h))

-- z is what the circuit made of y
unboxed_of : (y z : List (List ℕ)) (u : ℕ → ℕ → ℕ) (b : ℕ) → y ≡ planes_of 8 u → ((j : ℕ) → j < 16 → column z j ≡ unbox_wires (column y j)) →
    block z b ≡ lanes (λ j. inv_sub_byte (bit_xor (bits_to_byte (eight u j) b) 0x63))
unfolding block
unboxed_of y z u b e unboxed =
    lanes_same (λ j. bits_to_byte (column z j) b) (λ j. inv_sub_byte (bit_xor (bits_to_byte (eight u j) b) 0x63))
    (λ j h. ap (λ t. bits_to_byte t b) (unboxed j h ∙ ap unbox_wires (ap (λ t. column t j) e ∙ column_whole u j h)) ∙ unbox_byte u j b)

unboxed_block : (y z : List (List ℕ)) (b : ℕ) → IsWhole 8 y → ((j : ℕ) → j < 16 → column z j ≡ unbox_wires (column y j)) →
    block z b ≡ inv_sub_bytes (add_round_key (block y b) constant)
unfolding block lanes add_round_key inv_sub_bytes constant state_of
unboxed_block y z b e unboxed = unboxed_of y z (at y) b e unboxed ∙ ap (λ t. inv_sub_bytes (add_round_key (block t b) constant)) (sym e)

pub unboxed_standing : (y z : List (List ℕ)) (b : ℕ) → IsWhole 8 y → ((j : ℕ) → j < 16 → column z j ≡ unbox_wires (column y j)) →
    standing z b ≡ inv_sub_bytes (add_round_key (standing y b) constant)
unfolding standing
unboxed_standing y z b e unboxed =
    ap by_rows (unboxed_block y z b e unboxed)
    ∙ by_rows_unsubbed (add_round_key (block y b) constant)
    ∙ ap inv_sub_bytes (by_rows_sum (block y b) constant ∙ ap (add_round_key (by_rows (block y b))) by_rows_constant)
