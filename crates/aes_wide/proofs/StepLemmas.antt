-- The steps of a round on planes are the steps on each block.
use Rattle.std.proofs.Common.{◌≡◌, ℕ, ◌+◌, ◌*◌, ◌%◌, ◌^◌, ◌<◌, ◌==◌, true, List, [], ◌∷◌, length, refl, sym, ◌∙◌, ap, arith}
use Rattle.std.proofs.Math.Path.{fun_ext}
use Rattle.std.specs.Int.{bit_at}
use Rattle.std.specs.Int.Bits.{bit_xor}
use Rattle.std.specs.Simd.Lanes.{number_l, digits_l, zip2}
use Rattle.std.proofs.lemmas.Nat.{xor_block}
use Rattle.std.proofs.lemmas.Bool.{agree_below}
use Rattle.std.proofs.lemmas.Nat.Bits.{bit_at-lt}
use Rattle.aes_core.specs.Block.{IsBytes, IsBlock}
use Rattle.aes_core.specs.Field.{x_times, times_bits, times, sub_byte}
use Rattle.aes_core.specs.State.{byte_at, state_of, sub_bytes, mixed, mix_columns, add_round_key}
use Rattle.aes_core.specs.Laws.FieldLaws.{same_at, x_times_sum, sum4_of}
use Rattle.aes_core.specs.Laws.StateLaws.{state_block}
use Rattle.aes_core.specs.Laws.XorSums.{same_sums}
use Rattle.aes_core.specs.Laws.XorSums.Sum.{None_of, Term, Both}
use Rattle.aes_wide.specs.Circuit.{run, circuit}
use Rattle.aes_wide.specs.Planes.{lanes, made, column, block, by_rows, standing, bits_to_byte, planes_of, at, IsWhole}
use Rattle.aes_wide.specs.Boxes.{box_wires}
use Rattle.aes_wide.specs.Steps.{turned, doubled, constant, double_gates, double_outs}
use Rattle.aes_wide.proofs.Wires.{bits, bit_of_sum, circuit_bits}
use Rattle.aes_wide.proofs.Lanes.{lanes_same, lanes_at, column_made}
use Rattle.aes_wide.proofs.Standing.{by_rows_block, by_rows_sum, by_rows_doubled, by_rows_subbed, by_rows_constant}
use Rattle.aes_wide.proofs.BoxLemmas.{digits_back, byte_of_bits, box_byte}

-- the lanes at an index of eight planes
abbrev pub eight : (ℕ → ℕ → ℕ) → ℕ → List ℕ
eight u j = u 0 j ∷ u 1 j ∷ u 2 j ∷ u 3 j ∷ u 4 j ∷ u 5 j ∷ u 6 j ∷ u 7 j ∷ []

pub byte_below : (u : ℕ → ℕ → ℕ) (j b : ℕ) → bits_to_byte (eight u j) b < 256
byte_below u j b =
    byte_of_bits (bit_at (u 0 j) b) (bit_at (u 1 j) b) (bit_at (u 2 j) b) (bit_at (u 3 j) b) (bit_at (u 4 j) b) (bit_at (u 5 j) b) (bit_at (u 6 j) b) (bit_at (u 7 j) b)
    (bit_at-lt (u 0 j) b) (bit_at-lt (u 1 j) b) (bit_at-lt (u 2 j) b) (bit_at-lt (u 3 j) b) (bit_at-lt (u 4 j) b) (bit_at-lt (u 5 j) b) (bit_at-lt (u 6 j) b) (bit_at-lt (u 7 j) b)

-- a block of planes has bytes
pub block_whole : (u : ℕ → ℕ → ℕ) (b : ℕ) → IsBlock (block (planes_of 8 u) b)
unfolding block lanes state_of
block_whole u b = state_block (λ r c. bits_to_byte (eight u (r + 4 * c)) b) (λ r c. byte_below u (r + 4 * c) b)

pub same_states : (f g : ℕ → ℕ → ℕ) → ((r c : ℕ) → f r c ≡ g r c) → state_of f ≡ state_of g
same_states f g h = let whole : f ≡ g = fun_ext (λ r. fun_ext (λ c. h r c)) in ap state_of whole

-- ---- sums

sums : (xs ys : List ℕ) (b : ℕ) → length xs ≡ length ys → number_l 2 (bits b (zip2 bit_xor xs ys)) ≡ bit_xor (number_l 2 (bits b xs)) (number_l 2 (bits b ys))
sums [] [] b e = refl
sums [] (y ∷ ys) b e = absurd (omega arith)
sums (x ∷ xs) [] b e = absurd (omega arith)
sums (x ∷ xs) (y ∷ ys) b e =
    let n = number_l 2 (bits b xs) in
    let m = number_l 2 (bits b ys) in
    let rest : number_l 2 (bits b (zip2 bit_xor xs ys)) ≡ bit_xor n m = sums xs ys b (omega arith) in
    let ex : bit_at x b + 2 * n ≡ n * 2 ^ 1 + bit_at x b = omega arith in
    let ey : bit_at y b + 2 * m ≡ m * 2 ^ 1 + bit_at y b = omega arith in
    let er : bit_xor (bit_at x b) (bit_at y b) + 2 * bit_xor n m ≡ bit_xor n m * 2 ^ 1 + bit_xor (bit_at x b) (bit_at y b) = omega arith in
    ap (λ t. t + 2 * number_l 2 (bits b (zip2 bit_xor xs ys))) (bit_of_sum x y b)
    ∙ ap (λ t. bit_xor (bit_at x b) (bit_at y b) + 2 * t) rest
    ∙ er
    ∙ sym (xor_block 1 n m (bit_at x b) (bit_at y b) (bit_at-lt x b) (bit_at-lt y b))
    ∙ ap (λ t. bit_xor t (m * 2 ^ 1 + bit_at y b)) (sym ex)
    ∙ ap (λ t. bit_xor (bit_at x b + 2 * n) t) (sym ey)

added_blocks : (u w : ℕ → ℕ → ℕ) (b : ℕ) →
    block (planes_of 8 (λ i j. bit_xor (u i j) (w i j))) b ≡ add_round_key (block (planes_of 8 u) b) (block (planes_of 8 w) b)
unfolding block lanes add_round_key state_of
added_blocks u w b =
    lanes_same (λ j. number_l 2 (bits b (zip2 bit_xor (eight u j) (eight w j)))) (λ j. bit_xor (bits_to_byte (eight u j) b) (bits_to_byte (eight w j) b))
    (λ j _. sums (eight u j) (eight w j) b refl)

-- ---- the product with x

double_same : agree_below (λ k. number_l 2 (circuit double_gates double_outs (digits_l 2 8 k)) == x_times k) (λ _. true) 256 ≡ true
unfolding run double_gates double_outs x_times
double_same = refl

double_at : (k : ℕ) → k < 256 → number_l 2 (circuit double_gates double_outs (digits_l 2 8 k)) ≡ x_times k
double_at k below = same_at (λ n. number_l 2 (circuit double_gates double_outs (digits_l 2 8 n))) x_times 256 k double_same below

pub bits_below : (u : ℕ → ℕ → ℕ) (j b : ℕ) → digits_l 2 8 (bits_to_byte (eight u j) b) ≡ bits b (eight u j)
bits_below u j b =
    digits_back (bits b (eight u j))
    (bit_at-lt (u 0 j) b, (bit_at-lt (u 1 j) b, (bit_at-lt (u 2 j) b, (bit_at-lt (u 3 j) b, (bit_at-lt (u 4 j) b, (bit_at-lt (u 5 j) b, (bit_at-lt (u 6 j) b, (bit_at-lt (u 7 j) b, tt))))))))

double_byte : (u : ℕ → ℕ → ℕ) (j b : ℕ) → bits_to_byte (circuit double_gates double_outs (eight u j)) b ≡ x_times (bits_to_byte (eight u j) b)
double_byte u j b =
    ap (number_l 2) (circuit_bits b double_gates double_outs (eight u j) ∙ ap (circuit double_gates double_outs) (sym (bits_below u j b)))
    ∙ double_at (bits_to_byte (eight u j) b) (byte_below u j b)

pub column_whole : (u : ℕ → ℕ → ℕ) (j : ℕ) → j < 16 → column (planes_of 8 u) j ≡ eight u j
column_whole u j h =
    ap (λ t. t ∷ column (lanes (u 1) ∷ lanes (u 2) ∷ lanes (u 3) ∷ lanes (u 4) ∷ lanes (u 5) ∷ lanes (u 6) ∷ lanes (u 7) ∷ []) j) (lanes_at (u 0) j h)
    ∙ ap (λ t. u 0 j ∷ t ∷ column (lanes (u 2) ∷ lanes (u 3) ∷ lanes (u 4) ∷ lanes (u 5) ∷ lanes (u 6) ∷ lanes (u 7) ∷ []) j) (lanes_at (u 1) j h)
    ∙ ap (λ t. u 0 j ∷ u 1 j ∷ t ∷ column (lanes (u 3) ∷ lanes (u 4) ∷ lanes (u 5) ∷ lanes (u 6) ∷ lanes (u 7) ∷ []) j) (lanes_at (u 2) j h)
    ∙ ap (λ t. u 0 j ∷ u 1 j ∷ u 2 j ∷ t ∷ column (lanes (u 4) ∷ lanes (u 5) ∷ lanes (u 6) ∷ lanes (u 7) ∷ []) j) (lanes_at (u 3) j h)
    ∙ ap (λ t. u 0 j ∷ u 1 j ∷ u 2 j ∷ u 3 j ∷ t ∷ column (lanes (u 5) ∷ lanes (u 6) ∷ lanes (u 7) ∷ []) j) (lanes_at (u 4) j h)
    ∙ ap (λ t. u 0 j ∷ u 1 j ∷ u 2 j ∷ u 3 j ∷ u 4 j ∷ t ∷ column (lanes (u 6) ∷ lanes (u 7) ∷ []) j) (lanes_at (u 5) j h)
    ∙ ap (λ t. u 0 j ∷ u 1 j ∷ u 2 j ∷ u 3 j ∷ u 4 j ∷ u 5 j ∷ t ∷ column (lanes (u 7) ∷ []) j) (lanes_at (u 6) j h)
    ∙ ap (λ t. u 0 j ∷ u 1 j ∷ u 2 j ∷ u 3 j ∷ u 4 j ∷ u 5 j ∷ u 6 j ∷ t ∷ []) (lanes_at (u 7) j h)

doubled_of : (x : List (List ℕ)) (u : ℕ → ℕ → ℕ) (b : ℕ) → x ≡ planes_of 8 u → block (made double_gates double_outs x) b ≡ lanes (λ j. x_times (bits_to_byte (eight u j) b))
unfolding block
doubled_of x u b e =
    lanes_same (λ j. bits_to_byte (column (made double_gates double_outs x) j) b) (λ j. x_times (bits_to_byte (eight u j) b))
    (λ j h. ap (λ t. bits_to_byte t b) (column_made double_gates double_outs x j h ∙ ap (circuit double_gates double_outs) (ap (λ t. column t j) e ∙ column_whole u j h)) ∙ double_byte u j b)

doubled_blocks : (x : List (List ℕ)) (b : ℕ) → IsWhole 8 x → block (made double_gates double_outs x) b ≡ doubled (block x b)
unfolding block lanes doubled state_of
doubled_blocks x b e = doubled_of x (at x) b e ∙ ap (λ t. doubled (block t b)) (sym e)

-- ---- the S-box

boxed_of : (x z : List (List ℕ)) (u : ℕ → ℕ → ℕ) (b : ℕ) → x ≡ planes_of 8 u → ((j : ℕ) → j < 16 → column z j ≡ box_wires (column x j)) →
    lanes (λ j. bit_xor (bits_to_byte (column z j) b) 0x63) ≡ lanes (λ j. sub_byte (bits_to_byte (eight u j) b))
boxed_of x z u b e boxed =
    lanes_same (λ j. bit_xor (bits_to_byte (column z j) b) 0x63) (λ j. sub_byte (bits_to_byte (eight u j) b))
    (λ j h. ap (λ t. bit_xor (bits_to_byte t b) 0x63) (boxed j h ∙ ap box_wires (ap (λ t. column t j) e ∙ column_whole u j h))
    ∙ box_byte (u 0 j) (u 1 j) (u 2 j) (u 3 j) (u 4 j) (u 5 j) (u 6 j) (u 7 j) b)

boxed_blocks : (x z : List (List ℕ)) (b : ℕ) → IsWhole 8 x → ((j : ℕ) → j < 16 → column z j ≡ box_wires (column x j)) →
    add_round_key (block z b) constant ≡ sub_bytes (block x b)
unfolding block lanes add_round_key sub_bytes constant state_of
boxed_blocks x z b e boxed = boxed_of x z (at x) b e boxed ∙ ap (λ t. sub_bytes (block t b)) (sym e)

-- ---- MixColumns

pub mixed_byte_is : (a b c d : ℕ) → a < 256 → b < 256 → bit_xor (x_times (bit_xor a b)) (bit_xor b (bit_xor c d)) ≡ mixed a b c d
unfolding mixed times times_bits
mixed_byte_is a b c d la lb =
    ap (λ t. bit_xor t (bit_xor b (bit_xor c d))) (x_times_sum a b la lb)
    ∙ same_sums (a ∷ b ∷ c ∷ d ∷ x_times a ∷ x_times b ∷ [])
    (Both (Both (Term 4) (Term 5)) (Both (Term 1) (Both (Term 2) (Term 3))))
    (sum4_of (Both (Term 4) None_of) (Both (Term 1) (Both (Term 5) None_of)) (Term 2) (Term 3))
    refl

pub mixed_block : (s : List ℕ) → IsBytes s →
    add_round_key (doubled (add_round_key s (turned 1 s))) (add_round_key (turned 1 s) (turned 2 (add_round_key s (turned 1 s)))) ≡ mix_columns s
unfolding add_round_key doubled turned mix_columns state_of
mixed_block s h =
    same_states
    (λ r c. bit_xor (x_times (bit_xor (byte_at s r c) (byte_at s ((r + 1) % 4) c))) (bit_xor (byte_at s ((r + 1) % 4) c) (bit_xor (byte_at s ((r + 2) % 4) c) (byte_at s ((r + 3) % 4) c))))
    (λ r c. mixed (byte_at s r c) (byte_at s ((r + 1) % 4) c) (byte_at s ((r + 2) % 4) c) (byte_at s ((r + 3) % 4) c))
    (λ r c. mixed_byte_is (byte_at s r c) (byte_at s ((r + 1) % 4) c) (byte_at s ((r + 2) % 4) c) (byte_at s ((r + 3) % 4) c) (h (r + 4 * c)) (h ((r + 1) % 4 + 4 * c)))

-- ---- the same of the states that stand in planes

pub standing_whole : (u : ℕ → ℕ → ℕ) (b : ℕ) → IsBlock (standing (planes_of 8 u) b)
unfolding standing
standing_whole u b = by_rows_block (block (planes_of 8 u) b) (block_whole u b).bytes

pub added_standing : (u w : ℕ → ℕ → ℕ) (b : ℕ) →
    standing (planes_of 8 (λ i j. bit_xor (u i j) (w i j))) b ≡ add_round_key (standing (planes_of 8 u) b) (standing (planes_of 8 w) b)
unfolding standing
added_standing u w b = ap by_rows (added_blocks u w b) ∙ by_rows_sum (block (planes_of 8 u) b) (block (planes_of 8 w) b)

pub doubled_standing : (x : List (List ℕ)) (b : ℕ) → IsWhole 8 x → standing (made double_gates double_outs x) b ≡ doubled (standing x b)
unfolding standing
doubled_standing x b e = ap by_rows (doubled_blocks x b e) ∙ by_rows_doubled (block x b)

pub boxed_standing : (x z : List (List ℕ)) (b : ℕ) → IsWhole 8 x → ((j : ℕ) → j < 16 → column z j ≡ box_wires (column x j)) →
    add_round_key (standing z b) constant ≡ sub_bytes (standing x b)
unfolding standing
boxed_standing x z b e boxed =
    ap (add_round_key (by_rows (block z b))) (sym by_rows_constant)
    ∙ sym (by_rows_sum (block z b) constant)
    ∙ ap by_rows (boxed_blocks x z b e boxed)
    ∙ by_rows_subbed (block x b)
