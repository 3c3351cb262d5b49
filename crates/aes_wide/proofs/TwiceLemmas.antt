-- Rows that are turned about twice are as they were.
use Rattle.std.proofs.Common.{◌≡◌, ℕ, ◌<◌, List, [], ◌∷◌, map, slice_index, length, sym, ◌∙◌, ap, Fits, w8}
use Rattle.std.specs.Int.{bit_at}
use Rattle.std.specs.List.{range_with_len}
use Rattle.std.specs.Simd.Lanes.{number_l, Each1}
use Rattle.std.proofs.lemmas.Nat.Bits.{bit_at-lt}
use Rattle.aes_wide.specs.Planes.{lanes, block, bits_to_byte}
use Rattle.aes_wide.proofs.Lanes.{lanes_same, lanes_at, lanes_whole, lane_below}
use Rattle.aes_wide.proofs.SwapLemmas.{bits_of, bit_of_0, bit_of_1, bit_of_2, bit_of_3, bit_of_4, bit_of_5, bit_of_6, bit_of_7, byte_whole}

twice_0 : (x0 x1 x2 x3 x4 x5 x6 x7 : ℕ) → x0 < 256 → let x = x0 ∷ x1 ∷ x2 ∷ x3 ∷ x4 ∷ x5 ∷ x6 ∷ x7 ∷ [] in
    bits_to_byte (bits_to_byte x 0 ∷ bits_to_byte x 1 ∷ bits_to_byte x 2 ∷ bits_to_byte x 3 ∷ bits_to_byte x 4 ∷ bits_to_byte x 5 ∷ bits_to_byte x 6 ∷ bits_to_byte x 7 ∷ []) 0 ≡ x0
twice_0 x0 x1 x2 x3 x4 x5 x6 x7 below =
    let x = x0 ∷ x1 ∷ x2 ∷ x3 ∷ x4 ∷ x5 ∷ x6 ∷ x7 ∷ [] in
    let e0 = bit_of_0 (bit_at x0 0) (bit_at x1 0) (bit_at x2 0) (bit_at x3 0) (bit_at x4 0) (bit_at x5 0) (bit_at x6 0) (bit_at x7 0) (bit_at-lt x0 0) (bit_at-lt x1 0) (bit_at-lt x2 0) (bit_at-lt x3 0) (bit_at-lt x4 0) (bit_at-lt x5 0) (bit_at-lt x6 0) (bit_at-lt x7 0) in
    let e1 = bit_of_0 (bit_at x0 1) (bit_at x1 1) (bit_at x2 1) (bit_at x3 1) (bit_at x4 1) (bit_at x5 1) (bit_at x6 1) (bit_at x7 1) (bit_at-lt x0 1) (bit_at-lt x1 1) (bit_at-lt x2 1) (bit_at-lt x3 1) (bit_at-lt x4 1) (bit_at-lt x5 1) (bit_at-lt x6 1) (bit_at-lt x7 1) in
    let e2 = bit_of_0 (bit_at x0 2) (bit_at x1 2) (bit_at x2 2) (bit_at x3 2) (bit_at x4 2) (bit_at x5 2) (bit_at x6 2) (bit_at x7 2) (bit_at-lt x0 2) (bit_at-lt x1 2) (bit_at-lt x2 2) (bit_at-lt x3 2) (bit_at-lt x4 2) (bit_at-lt x5 2) (bit_at-lt x6 2) (bit_at-lt x7 2) in
    let e3 = bit_of_0 (bit_at x0 3) (bit_at x1 3) (bit_at x2 3) (bit_at x3 3) (bit_at x4 3) (bit_at x5 3) (bit_at x6 3) (bit_at x7 3) (bit_at-lt x0 3) (bit_at-lt x1 3) (bit_at-lt x2 3) (bit_at-lt x3 3) (bit_at-lt x4 3) (bit_at-lt x5 3) (bit_at-lt x6 3) (bit_at-lt x7 3) in
    let e4 = bit_of_0 (bit_at x0 4) (bit_at x1 4) (bit_at x2 4) (bit_at x3 4) (bit_at x4 4) (bit_at x5 4) (bit_at x6 4) (bit_at x7 4) (bit_at-lt x0 4) (bit_at-lt x1 4) (bit_at-lt x2 4) (bit_at-lt x3 4) (bit_at-lt x4 4) (bit_at-lt x5 4) (bit_at-lt x6 4) (bit_at-lt x7 4) in
    let e5 = bit_of_0 (bit_at x0 5) (bit_at x1 5) (bit_at x2 5) (bit_at x3 5) (bit_at x4 5) (bit_at x5 5) (bit_at x6 5) (bit_at x7 5) (bit_at-lt x0 5) (bit_at-lt x1 5) (bit_at-lt x2 5) (bit_at-lt x3 5) (bit_at-lt x4 5) (bit_at-lt x5 5) (bit_at-lt x6 5) (bit_at-lt x7 5) in
    let e6 = bit_of_0 (bit_at x0 6) (bit_at x1 6) (bit_at x2 6) (bit_at x3 6) (bit_at x4 6) (bit_at x5 6) (bit_at x6 6) (bit_at x7 6) (bit_at-lt x0 6) (bit_at-lt x1 6) (bit_at-lt x2 6) (bit_at-lt x3 6) (bit_at-lt x4 6) (bit_at-lt x5 6) (bit_at-lt x6 6) (bit_at-lt x7 6) in
    let e7 = bit_of_0 (bit_at x0 7) (bit_at x1 7) (bit_at x2 7) (bit_at x3 7) (bit_at x4 7) (bit_at x5 7) (bit_at x6 7) (bit_at x7 7) (bit_at-lt x0 7) (bit_at-lt x1 7) (bit_at-lt x2 7) (bit_at-lt x3 7) (bit_at-lt x4 7) (bit_at-lt x5 7) (bit_at-lt x6 7) (bit_at-lt x7 7) in
    let e : bit_at (bits_to_byte x 0) 0 ∷ bit_at (bits_to_byte x 1) 0 ∷ bit_at (bits_to_byte x 2) 0 ∷ bit_at (bits_to_byte x 3) 0 ∷ bit_at (bits_to_byte x 4) 0 ∷ bit_at (bits_to_byte x 5) 0 ∷ bit_at (bits_to_byte x 6) 0 ∷ bit_at (bits_to_byte x 7) 0 ∷ [] ≡ bits_of x0 = cc in
    ap (number_l 2) e ∙ byte_whole x0 below

pub back_0 : (x0 x1 x2 x3 x4 x5 x6 x7 : List ℕ) → length x0 ≡ 16 → Each1 (Fits w8) x0 → block (map (block (x0 ∷ x1 ∷ x2 ∷ x3 ∷ x4 ∷ x5 ∷ x6 ∷ x7 ∷ [])) (range_with_len 0 8)) 0 ≡ x0
unfolding block
back_0 x0 x1 x2 x3 x4 x5 x6 x7 long fits =
    let at = λ (j : ℕ). slice_index x0 j ∷ slice_index x1 j ∷ slice_index x2 j ∷ slice_index x3 j ∷ slice_index x4 j ∷ slice_index x5 j ∷ slice_index x6 j ∷ slice_index x7 j ∷ [] in
    lanes_same (λ j. bits_to_byte (slice_index (lanes (λ i. bits_to_byte (at i) 0)) j ∷ slice_index (lanes (λ i. bits_to_byte (at i) 1)) j ∷ slice_index (lanes (λ i. bits_to_byte (at i) 2)) j ∷ slice_index (lanes (λ i. bits_to_byte (at i) 3)) j ∷ slice_index (lanes (λ i. bits_to_byte (at i) 4)) j ∷ slice_index (lanes (λ i. bits_to_byte (at i) 5)) j ∷ slice_index (lanes (λ i. bits_to_byte (at i) 6)) j ∷ slice_index (lanes (λ i. bits_to_byte (at i) 7)) j ∷ []) 0) (slice_index x0)
    (λ j h.
    let f0 = lanes_at (λ i. bits_to_byte (at i) 0) j h in
    let f1 = lanes_at (λ i. bits_to_byte (at i) 1) j h in
    let f2 = lanes_at (λ i. bits_to_byte (at i) 2) j h in
    let f3 = lanes_at (λ i. bits_to_byte (at i) 3) j h in
    let f4 = lanes_at (λ i. bits_to_byte (at i) 4) j h in
    let f5 = lanes_at (λ i. bits_to_byte (at i) 5) j h in
    let f6 = lanes_at (λ i. bits_to_byte (at i) 6) j h in
    let f7 = lanes_at (λ i. bits_to_byte (at i) 7) j h in
    let columns : slice_index (lanes (λ i. bits_to_byte (at i) 0)) j ∷ slice_index (lanes (λ i. bits_to_byte (at i) 1)) j ∷ slice_index (lanes (λ i. bits_to_byte (at i) 2)) j ∷ slice_index (lanes (λ i. bits_to_byte (at i) 3)) j ∷ slice_index (lanes (λ i. bits_to_byte (at i) 4)) j ∷ slice_index (lanes (λ i. bits_to_byte (at i) 5)) j ∷ slice_index (lanes (λ i. bits_to_byte (at i) 6)) j ∷ slice_index (lanes (λ i. bits_to_byte (at i) 7)) j ∷ [] ≡ bits_to_byte (at j) 0 ∷ bits_to_byte (at j) 1 ∷ bits_to_byte (at j) 2 ∷ bits_to_byte (at j) 3 ∷ bits_to_byte (at j) 4 ∷ bits_to_byte (at j) 5 ∷ bits_to_byte (at j) 6 ∷ bits_to_byte (at j) 7 ∷ [] = cc in
    ap (λ t. bits_to_byte t 0) columns
    ∙ twice_0 (slice_index x0 j) (slice_index x1 j) (slice_index x2 j) (slice_index x3 j) (slice_index x4 j) (slice_index x5 j) (slice_index x6 j) (slice_index x7 j) (lane_below x0 long fits j h))
    ∙ sym (lanes_whole x0 long)

twice_1 : (x0 x1 x2 x3 x4 x5 x6 x7 : ℕ) → x1 < 256 → let x = x0 ∷ x1 ∷ x2 ∷ x3 ∷ x4 ∷ x5 ∷ x6 ∷ x7 ∷ [] in
    bits_to_byte (bits_to_byte x 0 ∷ bits_to_byte x 1 ∷ bits_to_byte x 2 ∷ bits_to_byte x 3 ∷ bits_to_byte x 4 ∷ bits_to_byte x 5 ∷ bits_to_byte x 6 ∷ bits_to_byte x 7 ∷ []) 1 ≡ x1
twice_1 x0 x1 x2 x3 x4 x5 x6 x7 below =
    let x = x0 ∷ x1 ∷ x2 ∷ x3 ∷ x4 ∷ x5 ∷ x6 ∷ x7 ∷ [] in
    let e0 = bit_of_1 (bit_at x0 0) (bit_at x1 0) (bit_at x2 0) (bit_at x3 0) (bit_at x4 0) (bit_at x5 0) (bit_at x6 0) (bit_at x7 0) (bit_at-lt x0 0) (bit_at-lt x1 0) (bit_at-lt x2 0) (bit_at-lt x3 0) (bit_at-lt x4 0) (bit_at-lt x5 0) (bit_at-lt x6 0) (bit_at-lt x7 0) in
    let e1 = bit_of_1 (bit_at x0 1) (bit_at x1 1) (bit_at x2 1) (bit_at x3 1) (bit_at x4 1) (bit_at x5 1) (bit_at x6 1) (bit_at x7 1) (bit_at-lt x0 1) (bit_at-lt x1 1) (bit_at-lt x2 1) (bit_at-lt x3 1) (bit_at-lt x4 1) (bit_at-lt x5 1) (bit_at-lt x6 1) (bit_at-lt x7 1) in
    let e2 = bit_of_1 (bit_at x0 2) (bit_at x1 2) (bit_at x2 2) (bit_at x3 2) (bit_at x4 2) (bit_at x5 2) (bit_at x6 2) (bit_at x7 2) (bit_at-lt x0 2) (bit_at-lt x1 2) (bit_at-lt x2 2) (bit_at-lt x3 2) (bit_at-lt x4 2) (bit_at-lt x5 2) (bit_at-lt x6 2) (bit_at-lt x7 2) in
    let e3 = bit_of_1 (bit_at x0 3) (bit_at x1 3) (bit_at x2 3) (bit_at x3 3) (bit_at x4 3) (bit_at x5 3) (bit_at x6 3) (bit_at x7 3) (bit_at-lt x0 3) (bit_at-lt x1 3) (bit_at-lt x2 3) (bit_at-lt x3 3) (bit_at-lt x4 3) (bit_at-lt x5 3) (bit_at-lt x6 3) (bit_at-lt x7 3) in
    let e4 = bit_of_1 (bit_at x0 4) (bit_at x1 4) (bit_at x2 4) (bit_at x3 4) (bit_at x4 4) (bit_at x5 4) (bit_at x6 4) (bit_at x7 4) (bit_at-lt x0 4) (bit_at-lt x1 4) (bit_at-lt x2 4) (bit_at-lt x3 4) (bit_at-lt x4 4) (bit_at-lt x5 4) (bit_at-lt x6 4) (bit_at-lt x7 4) in
    let e5 = bit_of_1 (bit_at x0 5) (bit_at x1 5) (bit_at x2 5) (bit_at x3 5) (bit_at x4 5) (bit_at x5 5) (bit_at x6 5) (bit_at x7 5) (bit_at-lt x0 5) (bit_at-lt x1 5) (bit_at-lt x2 5) (bit_at-lt x3 5) (bit_at-lt x4 5) (bit_at-lt x5 5) (bit_at-lt x6 5) (bit_at-lt x7 5) in
    let e6 = bit_of_1 (bit_at x0 6) (bit_at x1 6) (bit_at x2 6) (bit_at x3 6) (bit_at x4 6) (bit_at x5 6) (bit_at x6 6) (bit_at x7 6) (bit_at-lt x0 6) (bit_at-lt x1 6) (bit_at-lt x2 6) (bit_at-lt x3 6) (bit_at-lt x4 6) (bit_at-lt x5 6) (bit_at-lt x6 6) (bit_at-lt x7 6) in
    let e7 = bit_of_1 (bit_at x0 7) (bit_at x1 7) (bit_at x2 7) (bit_at x3 7) (bit_at x4 7) (bit_at x5 7) (bit_at x6 7) (bit_at x7 7) (bit_at-lt x0 7) (bit_at-lt x1 7) (bit_at-lt x2 7) (bit_at-lt x3 7) (bit_at-lt x4 7) (bit_at-lt x5 7) (bit_at-lt x6 7) (bit_at-lt x7 7) in
    let e : bit_at (bits_to_byte x 0) 1 ∷ bit_at (bits_to_byte x 1) 1 ∷ bit_at (bits_to_byte x 2) 1 ∷ bit_at (bits_to_byte x 3) 1 ∷ bit_at (bits_to_byte x 4) 1 ∷ bit_at (bits_to_byte x 5) 1 ∷ bit_at (bits_to_byte x 6) 1 ∷ bit_at (bits_to_byte x 7) 1 ∷ [] ≡ bits_of x1 = cc in
    ap (number_l 2) e ∙ byte_whole x1 below

pub back_1 : (x0 x1 x2 x3 x4 x5 x6 x7 : List ℕ) → length x1 ≡ 16 → Each1 (Fits w8) x1 → block (map (block (x0 ∷ x1 ∷ x2 ∷ x3 ∷ x4 ∷ x5 ∷ x6 ∷ x7 ∷ [])) (range_with_len 0 8)) 1 ≡ x1
unfolding block
back_1 x0 x1 x2 x3 x4 x5 x6 x7 long fits =
    let at = λ (j : ℕ). slice_index x0 j ∷ slice_index x1 j ∷ slice_index x2 j ∷ slice_index x3 j ∷ slice_index x4 j ∷ slice_index x5 j ∷ slice_index x6 j ∷ slice_index x7 j ∷ [] in
    lanes_same (λ j. bits_to_byte (slice_index (lanes (λ i. bits_to_byte (at i) 0)) j ∷ slice_index (lanes (λ i. bits_to_byte (at i) 1)) j ∷ slice_index (lanes (λ i. bits_to_byte (at i) 2)) j ∷ slice_index (lanes (λ i. bits_to_byte (at i) 3)) j ∷ slice_index (lanes (λ i. bits_to_byte (at i) 4)) j ∷ slice_index (lanes (λ i. bits_to_byte (at i) 5)) j ∷ slice_index (lanes (λ i. bits_to_byte (at i) 6)) j ∷ slice_index (lanes (λ i. bits_to_byte (at i) 7)) j ∷ []) 1) (slice_index x1)
    (λ j h.
    let f0 = lanes_at (λ i. bits_to_byte (at i) 0) j h in
    let f1 = lanes_at (λ i. bits_to_byte (at i) 1) j h in
    let f2 = lanes_at (λ i. bits_to_byte (at i) 2) j h in
    let f3 = lanes_at (λ i. bits_to_byte (at i) 3) j h in
    let f4 = lanes_at (λ i. bits_to_byte (at i) 4) j h in
    let f5 = lanes_at (λ i. bits_to_byte (at i) 5) j h in
    let f6 = lanes_at (λ i. bits_to_byte (at i) 6) j h in
    let f7 = lanes_at (λ i. bits_to_byte (at i) 7) j h in
    let columns : slice_index (lanes (λ i. bits_to_byte (at i) 0)) j ∷ slice_index (lanes (λ i. bits_to_byte (at i) 1)) j ∷ slice_index (lanes (λ i. bits_to_byte (at i) 2)) j ∷ slice_index (lanes (λ i. bits_to_byte (at i) 3)) j ∷ slice_index (lanes (λ i. bits_to_byte (at i) 4)) j ∷ slice_index (lanes (λ i. bits_to_byte (at i) 5)) j ∷ slice_index (lanes (λ i. bits_to_byte (at i) 6)) j ∷ slice_index (lanes (λ i. bits_to_byte (at i) 7)) j ∷ [] ≡ bits_to_byte (at j) 0 ∷ bits_to_byte (at j) 1 ∷ bits_to_byte (at j) 2 ∷ bits_to_byte (at j) 3 ∷ bits_to_byte (at j) 4 ∷ bits_to_byte (at j) 5 ∷ bits_to_byte (at j) 6 ∷ bits_to_byte (at j) 7 ∷ [] = cc in
    ap (λ t. bits_to_byte t 1) columns
    ∙ twice_1 (slice_index x0 j) (slice_index x1 j) (slice_index x2 j) (slice_index x3 j) (slice_index x4 j) (slice_index x5 j) (slice_index x6 j) (slice_index x7 j) (lane_below x1 long fits j h))
    ∙ sym (lanes_whole x1 long)

twice_2 : (x0 x1 x2 x3 x4 x5 x6 x7 : ℕ) → x2 < 256 → let x = x0 ∷ x1 ∷ x2 ∷ x3 ∷ x4 ∷ x5 ∷ x6 ∷ x7 ∷ [] in
    bits_to_byte (bits_to_byte x 0 ∷ bits_to_byte x 1 ∷ bits_to_byte x 2 ∷ bits_to_byte x 3 ∷ bits_to_byte x 4 ∷ bits_to_byte x 5 ∷ bits_to_byte x 6 ∷ bits_to_byte x 7 ∷ []) 2 ≡ x2
twice_2 x0 x1 x2 x3 x4 x5 x6 x7 below =
    let x = x0 ∷ x1 ∷ x2 ∷ x3 ∷ x4 ∷ x5 ∷ x6 ∷ x7 ∷ [] in
    let e0 = bit_of_2 (bit_at x0 0) (bit_at x1 0) (bit_at x2 0) (bit_at x3 0) (bit_at x4 0) (bit_at x5 0) (bit_at x6 0) (bit_at x7 0) (bit_at-lt x0 0) (bit_at-lt x1 0) (bit_at-lt x2 0) (bit_at-lt x3 0) (bit_at-lt x4 0) (bit_at-lt x5 0) (bit_at-lt x6 0) (bit_at-lt x7 0) in
    let e1 = bit_of_2 (bit_at x0 1) (bit_at x1 1) (bit_at x2 1) (bit_at x3 1) (bit_at x4 1) (bit_at x5 1) (bit_at x6 1) (bit_at x7 1) (bit_at-lt x0 1) (bit_at-lt x1 1) (bit_at-lt x2 1) (bit_at-lt x3 1) (bit_at-lt x4 1) (bit_at-lt x5 1) (bit_at-lt x6 1) (bit_at-lt x7 1) in
    let e2 = bit_of_2 (bit_at x0 2) (bit_at x1 2) (bit_at x2 2) (bit_at x3 2) (bit_at x4 2) (bit_at x5 2) (bit_at x6 2) (bit_at x7 2) (bit_at-lt x0 2) (bit_at-lt x1 2) (bit_at-lt x2 2) (bit_at-lt x3 2) (bit_at-lt x4 2) (bit_at-lt x5 2) (bit_at-lt x6 2) (bit_at-lt x7 2) in
    let e3 = bit_of_2 (bit_at x0 3) (bit_at x1 3) (bit_at x2 3) (bit_at x3 3) (bit_at x4 3) (bit_at x5 3) (bit_at x6 3) (bit_at x7 3) (bit_at-lt x0 3) (bit_at-lt x1 3) (bit_at-lt x2 3) (bit_at-lt x3 3) (bit_at-lt x4 3) (bit_at-lt x5 3) (bit_at-lt x6 3) (bit_at-lt x7 3) in
    let e4 = bit_of_2 (bit_at x0 4) (bit_at x1 4) (bit_at x2 4) (bit_at x3 4) (bit_at x4 4) (bit_at x5 4) (bit_at x6 4) (bit_at x7 4) (bit_at-lt x0 4) (bit_at-lt x1 4) (bit_at-lt x2 4) (bit_at-lt x3 4) (bit_at-lt x4 4) (bit_at-lt x5 4) (bit_at-lt x6 4) (bit_at-lt x7 4) in
    let e5 = bit_of_2 (bit_at x0 5) (bit_at x1 5) (bit_at x2 5) (bit_at x3 5) (bit_at x4 5) (bit_at x5 5) (bit_at x6 5) (bit_at x7 5) (bit_at-lt x0 5) (bit_at-lt x1 5) (bit_at-lt x2 5) (bit_at-lt x3 5) (bit_at-lt x4 5) (bit_at-lt x5 5) (bit_at-lt x6 5) (bit_at-lt x7 5) in
    let e6 = bit_of_2 (bit_at x0 6) (bit_at x1 6) (bit_at x2 6) (bit_at x3 6) (bit_at x4 6) (bit_at x5 6) (bit_at x6 6) (bit_at x7 6) (bit_at-lt x0 6) (bit_at-lt x1 6) (bit_at-lt x2 6) (bit_at-lt x3 6) (bit_at-lt x4 6) (bit_at-lt x5 6) (bit_at-lt x6 6) (bit_at-lt x7 6) in
    let e7 = bit_of_2 (bit_at x0 7) (bit_at x1 7) (bit_at x2 7) (bit_at x3 7) (bit_at x4 7) (bit_at x5 7) (bit_at x6 7) (bit_at x7 7) (bit_at-lt x0 7) (bit_at-lt x1 7) (bit_at-lt x2 7) (bit_at-lt x3 7) (bit_at-lt x4 7) (bit_at-lt x5 7) (bit_at-lt x6 7) (bit_at-lt x7 7) in
    let e : bit_at (bits_to_byte x 0) 2 ∷ bit_at (bits_to_byte x 1) 2 ∷ bit_at (bits_to_byte x 2) 2 ∷ bit_at (bits_to_byte x 3) 2 ∷ bit_at (bits_to_byte x 4) 2 ∷ bit_at (bits_to_byte x 5) 2 ∷ bit_at (bits_to_byte x 6) 2 ∷ bit_at (bits_to_byte x 7) 2 ∷ [] ≡ bits_of x2 = cc in
    ap (number_l 2) e ∙ byte_whole x2 below

pub back_2 : (x0 x1 x2 x3 x4 x5 x6 x7 : List ℕ) → length x2 ≡ 16 → Each1 (Fits w8) x2 → block (map (block (x0 ∷ x1 ∷ x2 ∷ x3 ∷ x4 ∷ x5 ∷ x6 ∷ x7 ∷ [])) (range_with_len 0 8)) 2 ≡ x2
unfolding block
back_2 x0 x1 x2 x3 x4 x5 x6 x7 long fits =
    let at = λ (j : ℕ). slice_index x0 j ∷ slice_index x1 j ∷ slice_index x2 j ∷ slice_index x3 j ∷ slice_index x4 j ∷ slice_index x5 j ∷ slice_index x6 j ∷ slice_index x7 j ∷ [] in
    lanes_same (λ j. bits_to_byte (slice_index (lanes (λ i. bits_to_byte (at i) 0)) j ∷ slice_index (lanes (λ i. bits_to_byte (at i) 1)) j ∷ slice_index (lanes (λ i. bits_to_byte (at i) 2)) j ∷ slice_index (lanes (λ i. bits_to_byte (at i) 3)) j ∷ slice_index (lanes (λ i. bits_to_byte (at i) 4)) j ∷ slice_index (lanes (λ i. bits_to_byte (at i) 5)) j ∷ slice_index (lanes (λ i. bits_to_byte (at i) 6)) j ∷ slice_index (lanes (λ i. bits_to_byte (at i) 7)) j ∷ []) 2) (slice_index x2)
    (λ j h.
    let f0 = lanes_at (λ i. bits_to_byte (at i) 0) j h in
    let f1 = lanes_at (λ i. bits_to_byte (at i) 1) j h in
    let f2 = lanes_at (λ i. bits_to_byte (at i) 2) j h in
    let f3 = lanes_at (λ i. bits_to_byte (at i) 3) j h in
    let f4 = lanes_at (λ i. bits_to_byte (at i) 4) j h in
    let f5 = lanes_at (λ i. bits_to_byte (at i) 5) j h in
    let f6 = lanes_at (λ i. bits_to_byte (at i) 6) j h in
    let f7 = lanes_at (λ i. bits_to_byte (at i) 7) j h in
    let columns : slice_index (lanes (λ i. bits_to_byte (at i) 0)) j ∷ slice_index (lanes (λ i. bits_to_byte (at i) 1)) j ∷ slice_index (lanes (λ i. bits_to_byte (at i) 2)) j ∷ slice_index (lanes (λ i. bits_to_byte (at i) 3)) j ∷ slice_index (lanes (λ i. bits_to_byte (at i) 4)) j ∷ slice_index (lanes (λ i. bits_to_byte (at i) 5)) j ∷ slice_index (lanes (λ i. bits_to_byte (at i) 6)) j ∷ slice_index (lanes (λ i. bits_to_byte (at i) 7)) j ∷ [] ≡ bits_to_byte (at j) 0 ∷ bits_to_byte (at j) 1 ∷ bits_to_byte (at j) 2 ∷ bits_to_byte (at j) 3 ∷ bits_to_byte (at j) 4 ∷ bits_to_byte (at j) 5 ∷ bits_to_byte (at j) 6 ∷ bits_to_byte (at j) 7 ∷ [] = cc in
    ap (λ t. bits_to_byte t 2) columns
    ∙ twice_2 (slice_index x0 j) (slice_index x1 j) (slice_index x2 j) (slice_index x3 j) (slice_index x4 j) (slice_index x5 j) (slice_index x6 j) (slice_index x7 j) (lane_below x2 long fits j h))
    ∙ sym (lanes_whole x2 long)

twice_3 : (x0 x1 x2 x3 x4 x5 x6 x7 : ℕ) → x3 < 256 → let x = x0 ∷ x1 ∷ x2 ∷ x3 ∷ x4 ∷ x5 ∷ x6 ∷ x7 ∷ [] in
    bits_to_byte (bits_to_byte x 0 ∷ bits_to_byte x 1 ∷ bits_to_byte x 2 ∷ bits_to_byte x 3 ∷ bits_to_byte x 4 ∷ bits_to_byte x 5 ∷ bits_to_byte x 6 ∷ bits_to_byte x 7 ∷ []) 3 ≡ x3
twice_3 x0 x1 x2 x3 x4 x5 x6 x7 below =
    let x = x0 ∷ x1 ∷ x2 ∷ x3 ∷ x4 ∷ x5 ∷ x6 ∷ x7 ∷ [] in
    let e0 = bit_of_3 (bit_at x0 0) (bit_at x1 0) (bit_at x2 0) (bit_at x3 0) (bit_at x4 0) (bit_at x5 0) (bit_at x6 0) (bit_at x7 0) (bit_at-lt x0 0) (bit_at-lt x1 0) (bit_at-lt x2 0) (bit_at-lt x3 0) (bit_at-lt x4 0) (bit_at-lt x5 0) (bit_at-lt x6 0) (bit_at-lt x7 0) in
    let e1 = bit_of_3 (bit_at x0 1) (bit_at x1 1) (bit_at x2 1) (bit_at x3 1) (bit_at x4 1) (bit_at x5 1) (bit_at x6 1) (bit_at x7 1) (bit_at-lt x0 1) (bit_at-lt x1 1) (bit_at-lt x2 1) (bit_at-lt x3 1) (bit_at-lt x4 1) (bit_at-lt x5 1) (bit_at-lt x6 1) (bit_at-lt x7 1) in
    let e2 = bit_of_3 (bit_at x0 2) (bit_at x1 2) (bit_at x2 2) (bit_at x3 2) (bit_at x4 2) (bit_at x5 2) (bit_at x6 2) (bit_at x7 2) (bit_at-lt x0 2) (bit_at-lt x1 2) (bit_at-lt x2 2) (bit_at-lt x3 2) (bit_at-lt x4 2) (bit_at-lt x5 2) (bit_at-lt x6 2) (bit_at-lt x7 2) in
    let e3 = bit_of_3 (bit_at x0 3) (bit_at x1 3) (bit_at x2 3) (bit_at x3 3) (bit_at x4 3) (bit_at x5 3) (bit_at x6 3) (bit_at x7 3) (bit_at-lt x0 3) (bit_at-lt x1 3) (bit_at-lt x2 3) (bit_at-lt x3 3) (bit_at-lt x4 3) (bit_at-lt x5 3) (bit_at-lt x6 3) (bit_at-lt x7 3) in
    let e4 = bit_of_3 (bit_at x0 4) (bit_at x1 4) (bit_at x2 4) (bit_at x3 4) (bit_at x4 4) (bit_at x5 4) (bit_at x6 4) (bit_at x7 4) (bit_at-lt x0 4) (bit_at-lt x1 4) (bit_at-lt x2 4) (bit_at-lt x3 4) (bit_at-lt x4 4) (bit_at-lt x5 4) (bit_at-lt x6 4) (bit_at-lt x7 4) in
    let e5 = bit_of_3 (bit_at x0 5) (bit_at x1 5) (bit_at x2 5) (bit_at x3 5) (bit_at x4 5) (bit_at x5 5) (bit_at x6 5) (bit_at x7 5) (bit_at-lt x0 5) (bit_at-lt x1 5) (bit_at-lt x2 5) (bit_at-lt x3 5) (bit_at-lt x4 5) (bit_at-lt x5 5) (bit_at-lt x6 5) (bit_at-lt x7 5) in
    let e6 = bit_of_3 (bit_at x0 6) (bit_at x1 6) (bit_at x2 6) (bit_at x3 6) (bit_at x4 6) (bit_at x5 6) (bit_at x6 6) (bit_at x7 6) (bit_at-lt x0 6) (bit_at-lt x1 6) (bit_at-lt x2 6) (bit_at-lt x3 6) (bit_at-lt x4 6) (bit_at-lt x5 6) (bit_at-lt x6 6) (bit_at-lt x7 6) in
    let e7 = bit_of_3 (bit_at x0 7) (bit_at x1 7) (bit_at x2 7) (bit_at x3 7) (bit_at x4 7) (bit_at x5 7) (bit_at x6 7) (bit_at x7 7) (bit_at-lt x0 7) (bit_at-lt x1 7) (bit_at-lt x2 7) (bit_at-lt x3 7) (bit_at-lt x4 7) (bit_at-lt x5 7) (bit_at-lt x6 7) (bit_at-lt x7 7) in
    let e : bit_at (bits_to_byte x 0) 3 ∷ bit_at (bits_to_byte x 1) 3 ∷ bit_at (bits_to_byte x 2) 3 ∷ bit_at (bits_to_byte x 3) 3 ∷ bit_at (bits_to_byte x 4) 3 ∷ bit_at (bits_to_byte x 5) 3 ∷ bit_at (bits_to_byte x 6) 3 ∷ bit_at (bits_to_byte x 7) 3 ∷ [] ≡ bits_of x3 = cc in
    ap (number_l 2) e ∙ byte_whole x3 below

pub back_3 : (x0 x1 x2 x3 x4 x5 x6 x7 : List ℕ) → length x3 ≡ 16 → Each1 (Fits w8) x3 → block (map (block (x0 ∷ x1 ∷ x2 ∷ x3 ∷ x4 ∷ x5 ∷ x6 ∷ x7 ∷ [])) (range_with_len 0 8)) 3 ≡ x3
unfolding block
back_3 x0 x1 x2 x3 x4 x5 x6 x7 long fits =
    let at = λ (j : ℕ). slice_index x0 j ∷ slice_index x1 j ∷ slice_index x2 j ∷ slice_index x3 j ∷ slice_index x4 j ∷ slice_index x5 j ∷ slice_index x6 j ∷ slice_index x7 j ∷ [] in
    lanes_same (λ j. bits_to_byte (slice_index (lanes (λ i. bits_to_byte (at i) 0)) j ∷ slice_index (lanes (λ i. bits_to_byte (at i) 1)) j ∷ slice_index (lanes (λ i. bits_to_byte (at i) 2)) j ∷ slice_index (lanes (λ i. bits_to_byte (at i) 3)) j ∷ slice_index (lanes (λ i. bits_to_byte (at i) 4)) j ∷ slice_index (lanes (λ i. bits_to_byte (at i) 5)) j ∷ slice_index (lanes (λ i. bits_to_byte (at i) 6)) j ∷ slice_index (lanes (λ i. bits_to_byte (at i) 7)) j ∷ []) 3) (slice_index x3)
    (λ j h.
    let f0 = lanes_at (λ i. bits_to_byte (at i) 0) j h in
    let f1 = lanes_at (λ i. bits_to_byte (at i) 1) j h in
    let f2 = lanes_at (λ i. bits_to_byte (at i) 2) j h in
    let f3 = lanes_at (λ i. bits_to_byte (at i) 3) j h in
    let f4 = lanes_at (λ i. bits_to_byte (at i) 4) j h in
    let f5 = lanes_at (λ i. bits_to_byte (at i) 5) j h in
    let f6 = lanes_at (λ i. bits_to_byte (at i) 6) j h in
    let f7 = lanes_at (λ i. bits_to_byte (at i) 7) j h in
    let columns : slice_index (lanes (λ i. bits_to_byte (at i) 0)) j ∷ slice_index (lanes (λ i. bits_to_byte (at i) 1)) j ∷ slice_index (lanes (λ i. bits_to_byte (at i) 2)) j ∷ slice_index (lanes (λ i. bits_to_byte (at i) 3)) j ∷ slice_index (lanes (λ i. bits_to_byte (at i) 4)) j ∷ slice_index (lanes (λ i. bits_to_byte (at i) 5)) j ∷ slice_index (lanes (λ i. bits_to_byte (at i) 6)) j ∷ slice_index (lanes (λ i. bits_to_byte (at i) 7)) j ∷ [] ≡ bits_to_byte (at j) 0 ∷ bits_to_byte (at j) 1 ∷ bits_to_byte (at j) 2 ∷ bits_to_byte (at j) 3 ∷ bits_to_byte (at j) 4 ∷ bits_to_byte (at j) 5 ∷ bits_to_byte (at j) 6 ∷ bits_to_byte (at j) 7 ∷ [] = cc in
    ap (λ t. bits_to_byte t 3) columns
    ∙ twice_3 (slice_index x0 j) (slice_index x1 j) (slice_index x2 j) (slice_index x3 j) (slice_index x4 j) (slice_index x5 j) (slice_index x6 j) (slice_index x7 j) (lane_below x3 long fits j h))
    ∙ sym (lanes_whole x3 long)

twice_4 : (x0 x1 x2 x3 x4 x5 x6 x7 : ℕ) → x4 < 256 → let x = x0 ∷ x1 ∷ x2 ∷ x3 ∷ x4 ∷ x5 ∷ x6 ∷ x7 ∷ [] in
    bits_to_byte (bits_to_byte x 0 ∷ bits_to_byte x 1 ∷ bits_to_byte x 2 ∷ bits_to_byte x 3 ∷ bits_to_byte x 4 ∷ bits_to_byte x 5 ∷ bits_to_byte x 6 ∷ bits_to_byte x 7 ∷ []) 4 ≡ x4
twice_4 x0 x1 x2 x3 x4 x5 x6 x7 below =
    let x = x0 ∷ x1 ∷ x2 ∷ x3 ∷ x4 ∷ x5 ∷ x6 ∷ x7 ∷ [] in
    let e0 = bit_of_4 (bit_at x0 0) (bit_at x1 0) (bit_at x2 0) (bit_at x3 0) (bit_at x4 0) (bit_at x5 0) (bit_at x6 0) (bit_at x7 0) (bit_at-lt x0 0) (bit_at-lt x1 0) (bit_at-lt x2 0) (bit_at-lt x3 0) (bit_at-lt x4 0) (bit_at-lt x5 0) (bit_at-lt x6 0) (bit_at-lt x7 0) in
    let e1 = bit_of_4 (bit_at x0 1) (bit_at x1 1) (bit_at x2 1) (bit_at x3 1) (bit_at x4 1) (bit_at x5 1) (bit_at x6 1) (bit_at x7 1) (bit_at-lt x0 1) (bit_at-lt x1 1) (bit_at-lt x2 1) (bit_at-lt x3 1) (bit_at-lt x4 1) (bit_at-lt x5 1) (bit_at-lt x6 1) (bit_at-lt x7 1) in
    let e2 = bit_of_4 (bit_at x0 2) (bit_at x1 2) (bit_at x2 2) (bit_at x3 2) (bit_at x4 2) (bit_at x5 2) (bit_at x6 2) (bit_at x7 2) (bit_at-lt x0 2) (bit_at-lt x1 2) (bit_at-lt x2 2) (bit_at-lt x3 2) (bit_at-lt x4 2) (bit_at-lt x5 2) (bit_at-lt x6 2) (bit_at-lt x7 2) in
    let e3 = bit_of_4 (bit_at x0 3) (bit_at x1 3) (bit_at x2 3) (bit_at x3 3) (bit_at x4 3) (bit_at x5 3) (bit_at x6 3) (bit_at x7 3) (bit_at-lt x0 3) (bit_at-lt x1 3) (bit_at-lt x2 3) (bit_at-lt x3 3) (bit_at-lt x4 3) (bit_at-lt x5 3) (bit_at-lt x6 3) (bit_at-lt x7 3) in
    let e4 = bit_of_4 (bit_at x0 4) (bit_at x1 4) (bit_at x2 4) (bit_at x3 4) (bit_at x4 4) (bit_at x5 4) (bit_at x6 4) (bit_at x7 4) (bit_at-lt x0 4) (bit_at-lt x1 4) (bit_at-lt x2 4) (bit_at-lt x3 4) (bit_at-lt x4 4) (bit_at-lt x5 4) (bit_at-lt x6 4) (bit_at-lt x7 4) in
    let e5 = bit_of_4 (bit_at x0 5) (bit_at x1 5) (bit_at x2 5) (bit_at x3 5) (bit_at x4 5) (bit_at x5 5) (bit_at x6 5) (bit_at x7 5) (bit_at-lt x0 5) (bit_at-lt x1 5) (bit_at-lt x2 5) (bit_at-lt x3 5) (bit_at-lt x4 5) (bit_at-lt x5 5) (bit_at-lt x6 5) (bit_at-lt x7 5) in
    let e6 = bit_of_4 (bit_at x0 6) (bit_at x1 6) (bit_at x2 6) (bit_at x3 6) (bit_at x4 6) (bit_at x5 6) (bit_at x6 6) (bit_at x7 6) (bit_at-lt x0 6) (bit_at-lt x1 6) (bit_at-lt x2 6) (bit_at-lt x3 6) (bit_at-lt x4 6) (bit_at-lt x5 6) (bit_at-lt x6 6) (bit_at-lt x7 6) in
    let e7 = bit_of_4 (bit_at x0 7) (bit_at x1 7) (bit_at x2 7) (bit_at x3 7) (bit_at x4 7) (bit_at x5 7) (bit_at x6 7) (bit_at x7 7) (bit_at-lt x0 7) (bit_at-lt x1 7) (bit_at-lt x2 7) (bit_at-lt x3 7) (bit_at-lt x4 7) (bit_at-lt x5 7) (bit_at-lt x6 7) (bit_at-lt x7 7) in
    let e : bit_at (bits_to_byte x 0) 4 ∷ bit_at (bits_to_byte x 1) 4 ∷ bit_at (bits_to_byte x 2) 4 ∷ bit_at (bits_to_byte x 3) 4 ∷ bit_at (bits_to_byte x 4) 4 ∷ bit_at (bits_to_byte x 5) 4 ∷ bit_at (bits_to_byte x 6) 4 ∷ bit_at (bits_to_byte x 7) 4 ∷ [] ≡ bits_of x4 = cc in
    ap (number_l 2) e ∙ byte_whole x4 below

pub back_4 : (x0 x1 x2 x3 x4 x5 x6 x7 : List ℕ) → length x4 ≡ 16 → Each1 (Fits w8) x4 → block (map (block (x0 ∷ x1 ∷ x2 ∷ x3 ∷ x4 ∷ x5 ∷ x6 ∷ x7 ∷ [])) (range_with_len 0 8)) 4 ≡ x4
unfolding block
back_4 x0 x1 x2 x3 x4 x5 x6 x7 long fits =
    let at = λ (j : ℕ). slice_index x0 j ∷ slice_index x1 j ∷ slice_index x2 j ∷ slice_index x3 j ∷ slice_index x4 j ∷ slice_index x5 j ∷ slice_index x6 j ∷ slice_index x7 j ∷ [] in
    lanes_same (λ j. bits_to_byte (slice_index (lanes (λ i. bits_to_byte (at i) 0)) j ∷ slice_index (lanes (λ i. bits_to_byte (at i) 1)) j ∷ slice_index (lanes (λ i. bits_to_byte (at i) 2)) j ∷ slice_index (lanes (λ i. bits_to_byte (at i) 3)) j ∷ slice_index (lanes (λ i. bits_to_byte (at i) 4)) j ∷ slice_index (lanes (λ i. bits_to_byte (at i) 5)) j ∷ slice_index (lanes (λ i. bits_to_byte (at i) 6)) j ∷ slice_index (lanes (λ i. bits_to_byte (at i) 7)) j ∷ []) 4) (slice_index x4)
    (λ j h.
    let f0 = lanes_at (λ i. bits_to_byte (at i) 0) j h in
    let f1 = lanes_at (λ i. bits_to_byte (at i) 1) j h in
    let f2 = lanes_at (λ i. bits_to_byte (at i) 2) j h in
    let f3 = lanes_at (λ i. bits_to_byte (at i) 3) j h in
    let f4 = lanes_at (λ i. bits_to_byte (at i) 4) j h in
    let f5 = lanes_at (λ i. bits_to_byte (at i) 5) j h in
    let f6 = lanes_at (λ i. bits_to_byte (at i) 6) j h in
    let f7 = lanes_at (λ i. bits_to_byte (at i) 7) j h in
    let columns : slice_index (lanes (λ i. bits_to_byte (at i) 0)) j ∷ slice_index (lanes (λ i. bits_to_byte (at i) 1)) j ∷ slice_index (lanes (λ i. bits_to_byte (at i) 2)) j ∷ slice_index (lanes (λ i. bits_to_byte (at i) 3)) j ∷ slice_index (lanes (λ i. bits_to_byte (at i) 4)) j ∷ slice_index (lanes (λ i. bits_to_byte (at i) 5)) j ∷ slice_index (lanes (λ i. bits_to_byte (at i) 6)) j ∷ slice_index (lanes (λ i. bits_to_byte (at i) 7)) j ∷ [] ≡ bits_to_byte (at j) 0 ∷ bits_to_byte (at j) 1 ∷ bits_to_byte (at j) 2 ∷ bits_to_byte (at j) 3 ∷ bits_to_byte (at j) 4 ∷ bits_to_byte (at j) 5 ∷ bits_to_byte (at j) 6 ∷ bits_to_byte (at j) 7 ∷ [] = cc in
    ap (λ t. bits_to_byte t 4) columns
    ∙ twice_4 (slice_index x0 j) (slice_index x1 j) (slice_index x2 j) (slice_index x3 j) (slice_index x4 j) (slice_index x5 j) (slice_index x6 j) (slice_index x7 j) (lane_below x4 long fits j h))
    ∙ sym (lanes_whole x4 long)

twice_5 : (x0 x1 x2 x3 x4 x5 x6 x7 : ℕ) → x5 < 256 → let x = x0 ∷ x1 ∷ x2 ∷ x3 ∷ x4 ∷ x5 ∷ x6 ∷ x7 ∷ [] in
    bits_to_byte (bits_to_byte x 0 ∷ bits_to_byte x 1 ∷ bits_to_byte x 2 ∷ bits_to_byte x 3 ∷ bits_to_byte x 4 ∷ bits_to_byte x 5 ∷ bits_to_byte x 6 ∷ bits_to_byte x 7 ∷ []) 5 ≡ x5
twice_5 x0 x1 x2 x3 x4 x5 x6 x7 below =
    let x = x0 ∷ x1 ∷ x2 ∷ x3 ∷ x4 ∷ x5 ∷ x6 ∷ x7 ∷ [] in
    let e0 = bit_of_5 (bit_at x0 0) (bit_at x1 0) (bit_at x2 0) (bit_at x3 0) (bit_at x4 0) (bit_at x5 0) (bit_at x6 0) (bit_at x7 0) (bit_at-lt x0 0) (bit_at-lt x1 0) (bit_at-lt x2 0) (bit_at-lt x3 0) (bit_at-lt x4 0) (bit_at-lt x5 0) (bit_at-lt x6 0) (bit_at-lt x7 0) in
    let e1 = bit_of_5 (bit_at x0 1) (bit_at x1 1) (bit_at x2 1) (bit_at x3 1) (bit_at x4 1) (bit_at x5 1) (bit_at x6 1) (bit_at x7 1) (bit_at-lt x0 1) (bit_at-lt x1 1) (bit_at-lt x2 1) (bit_at-lt x3 1) (bit_at-lt x4 1) (bit_at-lt x5 1) (bit_at-lt x6 1) (bit_at-lt x7 1) in
    let e2 = bit_of_5 (bit_at x0 2) (bit_at x1 2) (bit_at x2 2) (bit_at x3 2) (bit_at x4 2) (bit_at x5 2) (bit_at x6 2) (bit_at x7 2) (bit_at-lt x0 2) (bit_at-lt x1 2) (bit_at-lt x2 2) (bit_at-lt x3 2) (bit_at-lt x4 2) (bit_at-lt x5 2) (bit_at-lt x6 2) (bit_at-lt x7 2) in
    let e3 = bit_of_5 (bit_at x0 3) (bit_at x1 3) (bit_at x2 3) (bit_at x3 3) (bit_at x4 3) (bit_at x5 3) (bit_at x6 3) (bit_at x7 3) (bit_at-lt x0 3) (bit_at-lt x1 3) (bit_at-lt x2 3) (bit_at-lt x3 3) (bit_at-lt x4 3) (bit_at-lt x5 3) (bit_at-lt x6 3) (bit_at-lt x7 3) in
    let e4 = bit_of_5 (bit_at x0 4) (bit_at x1 4) (bit_at x2 4) (bit_at x3 4) (bit_at x4 4) (bit_at x5 4) (bit_at x6 4) (bit_at x7 4) (bit_at-lt x0 4) (bit_at-lt x1 4) (bit_at-lt x2 4) (bit_at-lt x3 4) (bit_at-lt x4 4) (bit_at-lt x5 4) (bit_at-lt x6 4) (bit_at-lt x7 4) in
    let e5 = bit_of_5 (bit_at x0 5) (bit_at x1 5) (bit_at x2 5) (bit_at x3 5) (bit_at x4 5) (bit_at x5 5) (bit_at x6 5) (bit_at x7 5) (bit_at-lt x0 5) (bit_at-lt x1 5) (bit_at-lt x2 5) (bit_at-lt x3 5) (bit_at-lt x4 5) (bit_at-lt x5 5) (bit_at-lt x6 5) (bit_at-lt x7 5) in
    let e6 = bit_of_5 (bit_at x0 6) (bit_at x1 6) (bit_at x2 6) (bit_at x3 6) (bit_at x4 6) (bit_at x5 6) (bit_at x6 6) (bit_at x7 6) (bit_at-lt x0 6) (bit_at-lt x1 6) (bit_at-lt x2 6) (bit_at-lt x3 6) (bit_at-lt x4 6) (bit_at-lt x5 6) (bit_at-lt x6 6) (bit_at-lt x7 6) in
    let e7 = bit_of_5 (bit_at x0 7) (bit_at x1 7) (bit_at x2 7) (bit_at x3 7) (bit_at x4 7) (bit_at x5 7) (bit_at x6 7) (bit_at x7 7) (bit_at-lt x0 7) (bit_at-lt x1 7) (bit_at-lt x2 7) (bit_at-lt x3 7) (bit_at-lt x4 7) (bit_at-lt x5 7) (bit_at-lt x6 7) (bit_at-lt x7 7) in
    let e : bit_at (bits_to_byte x 0) 5 ∷ bit_at (bits_to_byte x 1) 5 ∷ bit_at (bits_to_byte x 2) 5 ∷ bit_at (bits_to_byte x 3) 5 ∷ bit_at (bits_to_byte x 4) 5 ∷ bit_at (bits_to_byte x 5) 5 ∷ bit_at (bits_to_byte x 6) 5 ∷ bit_at (bits_to_byte x 7) 5 ∷ [] ≡ bits_of x5 = cc in
    ap (number_l 2) e ∙ byte_whole x5 below

pub back_5 : (x0 x1 x2 x3 x4 x5 x6 x7 : List ℕ) → length x5 ≡ 16 → Each1 (Fits w8) x5 → block (map (block (x0 ∷ x1 ∷ x2 ∷ x3 ∷ x4 ∷ x5 ∷ x6 ∷ x7 ∷ [])) (range_with_len 0 8)) 5 ≡ x5
unfolding block
back_5 x0 x1 x2 x3 x4 x5 x6 x7 long fits =
    let at = λ (j : ℕ). slice_index x0 j ∷ slice_index x1 j ∷ slice_index x2 j ∷ slice_index x3 j ∷ slice_index x4 j ∷ slice_index x5 j ∷ slice_index x6 j ∷ slice_index x7 j ∷ [] in
    lanes_same (λ j. bits_to_byte (slice_index (lanes (λ i. bits_to_byte (at i) 0)) j ∷ slice_index (lanes (λ i. bits_to_byte (at i) 1)) j ∷ slice_index (lanes (λ i. bits_to_byte (at i) 2)) j ∷ slice_index (lanes (λ i. bits_to_byte (at i) 3)) j ∷ slice_index (lanes (λ i. bits_to_byte (at i) 4)) j ∷ slice_index (lanes (λ i. bits_to_byte (at i) 5)) j ∷ slice_index (lanes (λ i. bits_to_byte (at i) 6)) j ∷ slice_index (lanes (λ i. bits_to_byte (at i) 7)) j ∷ []) 5) (slice_index x5)
    (λ j h.
    let f0 = lanes_at (λ i. bits_to_byte (at i) 0) j h in
    let f1 = lanes_at (λ i. bits_to_byte (at i) 1) j h in
    let f2 = lanes_at (λ i. bits_to_byte (at i) 2) j h in
    let f3 = lanes_at (λ i. bits_to_byte (at i) 3) j h in
    let f4 = lanes_at (λ i. bits_to_byte (at i) 4) j h in
    let f5 = lanes_at (λ i. bits_to_byte (at i) 5) j h in
    let f6 = lanes_at (λ i. bits_to_byte (at i) 6) j h in
    let f7 = lanes_at (λ i. bits_to_byte (at i) 7) j h in
    let columns : slice_index (lanes (λ i. bits_to_byte (at i) 0)) j ∷ slice_index (lanes (λ i. bits_to_byte (at i) 1)) j ∷ slice_index (lanes (λ i. bits_to_byte (at i) 2)) j ∷ slice_index (lanes (λ i. bits_to_byte (at i) 3)) j ∷ slice_index (lanes (λ i. bits_to_byte (at i) 4)) j ∷ slice_index (lanes (λ i. bits_to_byte (at i) 5)) j ∷ slice_index (lanes (λ i. bits_to_byte (at i) 6)) j ∷ slice_index (lanes (λ i. bits_to_byte (at i) 7)) j ∷ [] ≡ bits_to_byte (at j) 0 ∷ bits_to_byte (at j) 1 ∷ bits_to_byte (at j) 2 ∷ bits_to_byte (at j) 3 ∷ bits_to_byte (at j) 4 ∷ bits_to_byte (at j) 5 ∷ bits_to_byte (at j) 6 ∷ bits_to_byte (at j) 7 ∷ [] = cc in
    ap (λ t. bits_to_byte t 5) columns
    ∙ twice_5 (slice_index x0 j) (slice_index x1 j) (slice_index x2 j) (slice_index x3 j) (slice_index x4 j) (slice_index x5 j) (slice_index x6 j) (slice_index x7 j) (lane_below x5 long fits j h))
    ∙ sym (lanes_whole x5 long)

twice_6 : (x0 x1 x2 x3 x4 x5 x6 x7 : ℕ) → x6 < 256 → let x = x0 ∷ x1 ∷ x2 ∷ x3 ∷ x4 ∷ x5 ∷ x6 ∷ x7 ∷ [] in
    bits_to_byte (bits_to_byte x 0 ∷ bits_to_byte x 1 ∷ bits_to_byte x 2 ∷ bits_to_byte x 3 ∷ bits_to_byte x 4 ∷ bits_to_byte x 5 ∷ bits_to_byte x 6 ∷ bits_to_byte x 7 ∷ []) 6 ≡ x6
twice_6 x0 x1 x2 x3 x4 x5 x6 x7 below =
    let x = x0 ∷ x1 ∷ x2 ∷ x3 ∷ x4 ∷ x5 ∷ x6 ∷ x7 ∷ [] in
    let e0 = bit_of_6 (bit_at x0 0) (bit_at x1 0) (bit_at x2 0) (bit_at x3 0) (bit_at x4 0) (bit_at x5 0) (bit_at x6 0) (bit_at x7 0) (bit_at-lt x0 0) (bit_at-lt x1 0) (bit_at-lt x2 0) (bit_at-lt x3 0) (bit_at-lt x4 0) (bit_at-lt x5 0) (bit_at-lt x6 0) (bit_at-lt x7 0) in
    let e1 = bit_of_6 (bit_at x0 1) (bit_at x1 1) (bit_at x2 1) (bit_at x3 1) (bit_at x4 1) (bit_at x5 1) (bit_at x6 1) (bit_at x7 1) (bit_at-lt x0 1) (bit_at-lt x1 1) (bit_at-lt x2 1) (bit_at-lt x3 1) (bit_at-lt x4 1) (bit_at-lt x5 1) (bit_at-lt x6 1) (bit_at-lt x7 1) in
    let e2 = bit_of_6 (bit_at x0 2) (bit_at x1 2) (bit_at x2 2) (bit_at x3 2) (bit_at x4 2) (bit_at x5 2) (bit_at x6 2) (bit_at x7 2) (bit_at-lt x0 2) (bit_at-lt x1 2) (bit_at-lt x2 2) (bit_at-lt x3 2) (bit_at-lt x4 2) (bit_at-lt x5 2) (bit_at-lt x6 2) (bit_at-lt x7 2) in
    let e3 = bit_of_6 (bit_at x0 3) (bit_at x1 3) (bit_at x2 3) (bit_at x3 3) (bit_at x4 3) (bit_at x5 3) (bit_at x6 3) (bit_at x7 3) (bit_at-lt x0 3) (bit_at-lt x1 3) (bit_at-lt x2 3) (bit_at-lt x3 3) (bit_at-lt x4 3) (bit_at-lt x5 3) (bit_at-lt x6 3) (bit_at-lt x7 3) in
    let e4 = bit_of_6 (bit_at x0 4) (bit_at x1 4) (bit_at x2 4) (bit_at x3 4) (bit_at x4 4) (bit_at x5 4) (bit_at x6 4) (bit_at x7 4) (bit_at-lt x0 4) (bit_at-lt x1 4) (bit_at-lt x2 4) (bit_at-lt x3 4) (bit_at-lt x4 4) (bit_at-lt x5 4) (bit_at-lt x6 4) (bit_at-lt x7 4) in
    let e5 = bit_of_6 (bit_at x0 5) (bit_at x1 5) (bit_at x2 5) (bit_at x3 5) (bit_at x4 5) (bit_at x5 5) (bit_at x6 5) (bit_at x7 5) (bit_at-lt x0 5) (bit_at-lt x1 5) (bit_at-lt x2 5) (bit_at-lt x3 5) (bit_at-lt x4 5) (bit_at-lt x5 5) (bit_at-lt x6 5) (bit_at-lt x7 5) in
    let e6 = bit_of_6 (bit_at x0 6) (bit_at x1 6) (bit_at x2 6) (bit_at x3 6) (bit_at x4 6) (bit_at x5 6) (bit_at x6 6) (bit_at x7 6) (bit_at-lt x0 6) (bit_at-lt x1 6) (bit_at-lt x2 6) (bit_at-lt x3 6) (bit_at-lt x4 6) (bit_at-lt x5 6) (bit_at-lt x6 6) (bit_at-lt x7 6) in
    let e7 = bit_of_6 (bit_at x0 7) (bit_at x1 7) (bit_at x2 7) (bit_at x3 7) (bit_at x4 7) (bit_at x5 7) (bit_at x6 7) (bit_at x7 7) (bit_at-lt x0 7) (bit_at-lt x1 7) (bit_at-lt x2 7) (bit_at-lt x3 7) (bit_at-lt x4 7) (bit_at-lt x5 7) (bit_at-lt x6 7) (bit_at-lt x7 7) in
    let e : bit_at (bits_to_byte x 0) 6 ∷ bit_at (bits_to_byte x 1) 6 ∷ bit_at (bits_to_byte x 2) 6 ∷ bit_at (bits_to_byte x 3) 6 ∷ bit_at (bits_to_byte x 4) 6 ∷ bit_at (bits_to_byte x 5) 6 ∷ bit_at (bits_to_byte x 6) 6 ∷ bit_at (bits_to_byte x 7) 6 ∷ [] ≡ bits_of x6 = cc in
    ap (number_l 2) e ∙ byte_whole x6 below

pub back_6 : (x0 x1 x2 x3 x4 x5 x6 x7 : List ℕ) → length x6 ≡ 16 → Each1 (Fits w8) x6 → block (map (block (x0 ∷ x1 ∷ x2 ∷ x3 ∷ x4 ∷ x5 ∷ x6 ∷ x7 ∷ [])) (range_with_len 0 8)) 6 ≡ x6
unfolding block
back_6 x0 x1 x2 x3 x4 x5 x6 x7 long fits =
    let at = λ (j : ℕ). slice_index x0 j ∷ slice_index x1 j ∷ slice_index x2 j ∷ slice_index x3 j ∷ slice_index x4 j ∷ slice_index x5 j ∷ slice_index x6 j ∷ slice_index x7 j ∷ [] in
    lanes_same (λ j. bits_to_byte (slice_index (lanes (λ i. bits_to_byte (at i) 0)) j ∷ slice_index (lanes (λ i. bits_to_byte (at i) 1)) j ∷ slice_index (lanes (λ i. bits_to_byte (at i) 2)) j ∷ slice_index (lanes (λ i. bits_to_byte (at i) 3)) j ∷ slice_index (lanes (λ i. bits_to_byte (at i) 4)) j ∷ slice_index (lanes (λ i. bits_to_byte (at i) 5)) j ∷ slice_index (lanes (λ i. bits_to_byte (at i) 6)) j ∷ slice_index (lanes (λ i. bits_to_byte (at i) 7)) j ∷ []) 6) (slice_index x6)
    (λ j h.
    let f0 = lanes_at (λ i. bits_to_byte (at i) 0) j h in
    let f1 = lanes_at (λ i. bits_to_byte (at i) 1) j h in
    let f2 = lanes_at (λ i. bits_to_byte (at i) 2) j h in
    let f3 = lanes_at (λ i. bits_to_byte (at i) 3) j h in
    let f4 = lanes_at (λ i. bits_to_byte (at i) 4) j h in
    let f5 = lanes_at (λ i. bits_to_byte (at i) 5) j h in
    let f6 = lanes_at (λ i. bits_to_byte (at i) 6) j h in
    let f7 = lanes_at (λ i. bits_to_byte (at i) 7) j h in
    let columns : slice_index (lanes (λ i. bits_to_byte (at i) 0)) j ∷ slice_index (lanes (λ i. bits_to_byte (at i) 1)) j ∷ slice_index (lanes (λ i. bits_to_byte (at i) 2)) j ∷ slice_index (lanes (λ i. bits_to_byte (at i) 3)) j ∷ slice_index (lanes (λ i. bits_to_byte (at i) 4)) j ∷ slice_index (lanes (λ i. bits_to_byte (at i) 5)) j ∷ slice_index (lanes (λ i. bits_to_byte (at i) 6)) j ∷ slice_index (lanes (λ i. bits_to_byte (at i) 7)) j ∷ [] ≡ bits_to_byte (at j) 0 ∷ bits_to_byte (at j) 1 ∷ bits_to_byte (at j) 2 ∷ bits_to_byte (at j) 3 ∷ bits_to_byte (at j) 4 ∷ bits_to_byte (at j) 5 ∷ bits_to_byte (at j) 6 ∷ bits_to_byte (at j) 7 ∷ [] = cc in
    ap (λ t. bits_to_byte t 6) columns
    ∙ twice_6 (slice_index x0 j) (slice_index x1 j) (slice_index x2 j) (slice_index x3 j) (slice_index x4 j) (slice_index x5 j) (slice_index x6 j) (slice_index x7 j) (lane_below x6 long fits j h))
    ∙ sym (lanes_whole x6 long)

twice_7 : (x0 x1 x2 x3 x4 x5 x6 x7 : ℕ) → x7 < 256 → let x = x0 ∷ x1 ∷ x2 ∷ x3 ∷ x4 ∷ x5 ∷ x6 ∷ x7 ∷ [] in
    bits_to_byte (bits_to_byte x 0 ∷ bits_to_byte x 1 ∷ bits_to_byte x 2 ∷ bits_to_byte x 3 ∷ bits_to_byte x 4 ∷ bits_to_byte x 5 ∷ bits_to_byte x 6 ∷ bits_to_byte x 7 ∷ []) 7 ≡ x7
twice_7 x0 x1 x2 x3 x4 x5 x6 x7 below =
    let x = x0 ∷ x1 ∷ x2 ∷ x3 ∷ x4 ∷ x5 ∷ x6 ∷ x7 ∷ [] in
    let e0 = bit_of_7 (bit_at x0 0) (bit_at x1 0) (bit_at x2 0) (bit_at x3 0) (bit_at x4 0) (bit_at x5 0) (bit_at x6 0) (bit_at x7 0) (bit_at-lt x0 0) (bit_at-lt x1 0) (bit_at-lt x2 0) (bit_at-lt x3 0) (bit_at-lt x4 0) (bit_at-lt x5 0) (bit_at-lt x6 0) (bit_at-lt x7 0) in
    let e1 = bit_of_7 (bit_at x0 1) (bit_at x1 1) (bit_at x2 1) (bit_at x3 1) (bit_at x4 1) (bit_at x5 1) (bit_at x6 1) (bit_at x7 1) (bit_at-lt x0 1) (bit_at-lt x1 1) (bit_at-lt x2 1) (bit_at-lt x3 1) (bit_at-lt x4 1) (bit_at-lt x5 1) (bit_at-lt x6 1) (bit_at-lt x7 1) in
    let e2 = bit_of_7 (bit_at x0 2) (bit_at x1 2) (bit_at x2 2) (bit_at x3 2) (bit_at x4 2) (bit_at x5 2) (bit_at x6 2) (bit_at x7 2) (bit_at-lt x0 2) (bit_at-lt x1 2) (bit_at-lt x2 2) (bit_at-lt x3 2) (bit_at-lt x4 2) (bit_at-lt x5 2) (bit_at-lt x6 2) (bit_at-lt x7 2) in
    let e3 = bit_of_7 (bit_at x0 3) (bit_at x1 3) (bit_at x2 3) (bit_at x3 3) (bit_at x4 3) (bit_at x5 3) (bit_at x6 3) (bit_at x7 3) (bit_at-lt x0 3) (bit_at-lt x1 3) (bit_at-lt x2 3) (bit_at-lt x3 3) (bit_at-lt x4 3) (bit_at-lt x5 3) (bit_at-lt x6 3) (bit_at-lt x7 3) in
    let e4 = bit_of_7 (bit_at x0 4) (bit_at x1 4) (bit_at x2 4) (bit_at x3 4) (bit_at x4 4) (bit_at x5 4) (bit_at x6 4) (bit_at x7 4) (bit_at-lt x0 4) (bit_at-lt x1 4) (bit_at-lt x2 4) (bit_at-lt x3 4) (bit_at-lt x4 4) (bit_at-lt x5 4) (bit_at-lt x6 4) (bit_at-lt x7 4) in
    let e5 = bit_of_7 (bit_at x0 5) (bit_at x1 5) (bit_at x2 5) (bit_at x3 5) (bit_at x4 5) (bit_at x5 5) (bit_at x6 5) (bit_at x7 5) (bit_at-lt x0 5) (bit_at-lt x1 5) (bit_at-lt x2 5) (bit_at-lt x3 5) (bit_at-lt x4 5) (bit_at-lt x5 5) (bit_at-lt x6 5) (bit_at-lt x7 5) in
    let e6 = bit_of_7 (bit_at x0 6) (bit_at x1 6) (bit_at x2 6) (bit_at x3 6) (bit_at x4 6) (bit_at x5 6) (bit_at x6 6) (bit_at x7 6) (bit_at-lt x0 6) (bit_at-lt x1 6) (bit_at-lt x2 6) (bit_at-lt x3 6) (bit_at-lt x4 6) (bit_at-lt x5 6) (bit_at-lt x6 6) (bit_at-lt x7 6) in
    let e7 = bit_of_7 (bit_at x0 7) (bit_at x1 7) (bit_at x2 7) (bit_at x3 7) (bit_at x4 7) (bit_at x5 7) (bit_at x6 7) (bit_at x7 7) (bit_at-lt x0 7) (bit_at-lt x1 7) (bit_at-lt x2 7) (bit_at-lt x3 7) (bit_at-lt x4 7) (bit_at-lt x5 7) (bit_at-lt x6 7) (bit_at-lt x7 7) in
    let e : bit_at (bits_to_byte x 0) 7 ∷ bit_at (bits_to_byte x 1) 7 ∷ bit_at (bits_to_byte x 2) 7 ∷ bit_at (bits_to_byte x 3) 7 ∷ bit_at (bits_to_byte x 4) 7 ∷ bit_at (bits_to_byte x 5) 7 ∷ bit_at (bits_to_byte x 6) 7 ∷ bit_at (bits_to_byte x 7) 7 ∷ [] ≡ bits_of x7 = cc in
    ap (number_l 2) e ∙ byte_whole x7 below

pub back_7 : (x0 x1 x2 x3 x4 x5 x6 x7 : List ℕ) → length x7 ≡ 16 → Each1 (Fits w8) x7 → block (map (block (x0 ∷ x1 ∷ x2 ∷ x3 ∷ x4 ∷ x5 ∷ x6 ∷ x7 ∷ [])) (range_with_len 0 8)) 7 ≡ x7
unfolding block
back_7 x0 x1 x2 x3 x4 x5 x6 x7 long fits =
    let at = λ (j : ℕ). slice_index x0 j ∷ slice_index x1 j ∷ slice_index x2 j ∷ slice_index x3 j ∷ slice_index x4 j ∷ slice_index x5 j ∷ slice_index x6 j ∷ slice_index x7 j ∷ [] in
    lanes_same (λ j. bits_to_byte (slice_index (lanes (λ i. bits_to_byte (at i) 0)) j ∷ slice_index (lanes (λ i. bits_to_byte (at i) 1)) j ∷ slice_index (lanes (λ i. bits_to_byte (at i) 2)) j ∷ slice_index (lanes (λ i. bits_to_byte (at i) 3)) j ∷ slice_index (lanes (λ i. bits_to_byte (at i) 4)) j ∷ slice_index (lanes (λ i. bits_to_byte (at i) 5)) j ∷ slice_index (lanes (λ i. bits_to_byte (at i) 6)) j ∷ slice_index (lanes (λ i. bits_to_byte (at i) 7)) j ∷ []) 7) (slice_index x7)
    (λ j h.
    let f0 = lanes_at (λ i. bits_to_byte (at i) 0) j h in
    let f1 = lanes_at (λ i. bits_to_byte (at i) 1) j h in
    let f2 = lanes_at (λ i. bits_to_byte (at i) 2) j h in
    let f3 = lanes_at (λ i. bits_to_byte (at i) 3) j h in
    let f4 = lanes_at (λ i. bits_to_byte (at i) 4) j h in
    let f5 = lanes_at (λ i. bits_to_byte (at i) 5) j h in
    let f6 = lanes_at (λ i. bits_to_byte (at i) 6) j h in
    let f7 = lanes_at (λ i. bits_to_byte (at i) 7) j h in
    let columns : slice_index (lanes (λ i. bits_to_byte (at i) 0)) j ∷ slice_index (lanes (λ i. bits_to_byte (at i) 1)) j ∷ slice_index (lanes (λ i. bits_to_byte (at i) 2)) j ∷ slice_index (lanes (λ i. bits_to_byte (at i) 3)) j ∷ slice_index (lanes (λ i. bits_to_byte (at i) 4)) j ∷ slice_index (lanes (λ i. bits_to_byte (at i) 5)) j ∷ slice_index (lanes (λ i. bits_to_byte (at i) 6)) j ∷ slice_index (lanes (λ i. bits_to_byte (at i) 7)) j ∷ [] ≡ bits_to_byte (at j) 0 ∷ bits_to_byte (at j) 1 ∷ bits_to_byte (at j) 2 ∷ bits_to_byte (at j) 3 ∷ bits_to_byte (at j) 4 ∷ bits_to_byte (at j) 5 ∷ bits_to_byte (at j) 6 ∷ bits_to_byte (at j) 7 ∷ [] = cc in
    ap (λ t. bits_to_byte t 7) columns
    ∙ twice_7 (slice_index x0 j) (slice_index x1 j) (slice_index x2 j) (slice_index x3 j) (slice_index x4 j) (slice_index x5 j) (slice_index x6 j) (slice_index x7 j) (lane_below x7 long fits j h))
    ∙ sym (lanes_whole x7 long)
