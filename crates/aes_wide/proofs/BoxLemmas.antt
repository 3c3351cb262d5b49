-- The circuit is the S-box.
use Rattle.std.proofs.Common.{◌≡◌, ℕ, ◌+◌, ◌*◌, ◌/◌, ◌%◌, ◌<◌, ◌==◌, true, List, [], ◌∷◌, ◌++◌, length, refl, sym, ◌∙◌, ap, arith}
use Rattle.std.specs.Int.{bit_at}
use Rattle.std.specs.Int.Bits.{bit_xor}
use Rattle.std.specs.Simd.Lanes.{Each1, number_l, digits_l}
use Rattle.std.proofs.lemmas.Bool.{agree_below}
use Rattle.std.proofs.lemmas.Nat.Bits.{bit_at-lt}
use Rattle.aes_core.specs.Field.{x_times, times_bits, times, inverse_up_to, inverse, affine, sub_byte}
use Rattle.aes_core.specs.Laws.FieldLaws.{same_at}
use Rattle.aes_wide.specs.Circuit.{run, circuit}
use Rattle.aes_wide.specs.Gates.{top_gates, top_outs, shared_gates, shared_outs, inverted_gates, inverted_outs, products_gates, products_outs, bottom_gates, bottom_outs}
use Rattle.aes_wide.specs.Planes.{made, column, bits_to_byte}
use Rattle.aes_wide.specs.Boxes.{top_wires, later_wires, box_wires}
use Rattle.aes_wide.proofs.Wires.{bits, circuit_bits, bits_both}
use Rattle.aes_wide.proofs.Lanes.{column_made, column_both}

-- ---- bits and numbers

pub digits_back : (bs : List ℕ) → Each1 (λ x. x < 2) bs → digits_l 2 (length bs) (number_l 2 bs) ≡ bs
digits_back [] h = refl
digits_back (x ∷ xs) h =
    let n = number_l 2 xs in
    let small : x < 2 = h.0 in
    let low : (x + 2 * n) % 2 ≡ x = omega (arith, small) in
    let high : (x + 2 * n) / 2 ≡ n = omega (arith, small) in
    ap (λ y. y ∷ digits_l 2 (length xs) ((x + 2 * n) / 2)) low
    ∙ ap (λ y. x ∷ digits_l 2 (length xs) y) high
    ∙ ap (λ ys. x ∷ ys) (digits_back xs h.1)

pub byte_of_bits : (a b c d e f g h : ℕ) → a < 2 → b < 2 → c < 2 → d < 2 → e < 2 → f < 2 → g < 2 → h < 2 →
    number_l 2 (a ∷ b ∷ c ∷ d ∷ e ∷ f ∷ g ∷ h ∷ []) < 256
byte_of_bits a b c d e f g h la lb lc ld le lf lg lh = omega arith

-- ---- the circuit on bits

box_same : agree_below (λ k. bit_xor (number_l 2 (box_wires (digits_l 2 8 k))) 0x63 == sub_byte k) (λ _. true) 256 ≡ true
unfolding box_wires run top_gates top_outs shared_gates shared_outs inverted_gates inverted_outs products_gates products_outs bottom_gates bottom_outs sub_byte affine inverse inverse_up_to times times_bits x_times
box_same = refl

box_at : (k : ℕ) → k < 256 → bit_xor (number_l 2 (box_wires (digits_l 2 8 k))) 0x63 ≡ sub_byte k
box_at k below = same_at (λ n. bit_xor (number_l 2 (box_wires (digits_l 2 8 n))) 0x63) sub_byte 256 k box_same below

later_bits : (i : ℕ) (y : List ℕ) → bits i (later_wires y) ≡ later_wires (bits i y)
later_bits i y =
    let t = circuit shared_gates shared_outs y in
    let u = circuit inverted_gates inverted_outs t in
    circuit_bits i bottom_gates bottom_outs (circuit products_gates products_outs (u ++ y))
    ∙ ap (circuit bottom_gates bottom_outs)
    (circuit_bits i products_gates products_outs (u ++ y)
    ∙ ap (circuit products_gates products_outs)
    (bits_both i u y
    ∙ ap (λ v. v ++ bits i y)
    (circuit_bits i inverted_gates inverted_outs t
    ∙ ap (circuit inverted_gates inverted_outs) (circuit_bits i shared_gates shared_outs y))))

pub box_bits : (i : ℕ) (x : List ℕ) → bits i (box_wires x) ≡ box_wires (bits i x)
unfolding box_wires
box_bits i x = later_bits i (top_wires x) ∙ ap later_wires (circuit_bits i top_gates top_outs x)

-- the circuit on eight lanes, at bit i
pub box_byte : (a b c d e f g h i : ℕ) → let x = a ∷ b ∷ c ∷ d ∷ e ∷ f ∷ g ∷ h ∷ [] in bit_xor (bits_to_byte (box_wires x) i) 0x63 ≡ sub_byte (bits_to_byte x i)
box_byte a b c d e f g h i =
    let x = a ∷ b ∷ c ∷ d ∷ e ∷ f ∷ g ∷ h ∷ [] in
    let back : digits_l 2 8 (bits_to_byte x i) ≡ bits i x =
    digits_back (bits i x) (bit_at-lt a i, (bit_at-lt b i, (bit_at-lt c i, (bit_at-lt d i, (bit_at-lt e i, (bit_at-lt f i, (bit_at-lt g i, (bit_at-lt h i, tt)))))))) in
    let below : bits_to_byte x i < 256 =
    byte_of_bits (bit_at a i) (bit_at b i) (bit_at c i) (bit_at d i) (bit_at e i) (bit_at f i) (bit_at g i) (bit_at h i)
    (bit_at-lt a i) (bit_at-lt b i) (bit_at-lt c i) (bit_at-lt d i) (bit_at-lt e i) (bit_at-lt f i) (bit_at-lt g i) (bit_at-lt h i) in
    ap (λ ws. bit_xor (number_l 2 ws) 0x63) (box_bits i x ∙ ap box_wires (sym back))
    ∙ box_at (bits_to_byte x i) below

-- ---- the circuit on planes

pub column_boxed : (x : List (List ℕ)) (j : ℕ) → j < 16 →
    let y = made top_gates top_outs x in
    column (made bottom_gates bottom_outs (made products_gates products_outs (made inverted_gates inverted_outs (made shared_gates shared_outs y) ++ y))) j ≡ box_wires (column x j)
unfolding box_wires
column_boxed x j h =
    let y = made top_gates top_outs x in
    let t = made shared_gates shared_outs y in
    let u = made inverted_gates inverted_outs t in
    column_made bottom_gates bottom_outs (made products_gates products_outs (u ++ y)) j h
    ∙ ap (circuit bottom_gates bottom_outs)
    (column_made products_gates products_outs (u ++ y) j h
    ∙ ap (circuit products_gates products_outs)
    (column_both u y j
    ∙ ap (λ v. v ++ column y j) (column_made inverted_gates inverted_outs t j h ∙ ap (circuit inverted_gates inverted_outs) (column_made shared_gates shared_outs y j h))))
    ∙ ap later_wires (column_made top_gates top_outs x j h)
