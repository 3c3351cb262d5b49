-- What each row is after three rounds of swaps.
use Rattle.std.proofs.Common.{◌≡◌, ℕ, List, [], ◌∷◌, slice_index, ◌∙◌, ap}
use Rattle.std.specs.Int.{bit_at}
use Rattle.std.specs.Simd.Lanes.{number_l}
use Rattle.aes_wide.specs.Planes.{lanes, block}
use Rattle.aes_wide.proofs.Lanes.{lanes_same, at_lane}
use Rattle.aes_wide.specs.Swaps.{low_1, high_1, low_2, high_2, low_4, high_4}
use Rattle.aes_wide.proofs.SwapLemmas.{bits_low_1, bits_high_1, bits_low_2, bits_high_2, low_4_is, high_4_is}

row_0 : (x0 x1 x2 x3 x4 x5 x6 x7 : ℕ) → low_4 (low_2 (low_1 x0 x1) (low_1 x2 x3)) (low_2 (low_1 x4 x5) (low_1 x6 x7)) ≡ number_l 2 (bit_at x0 0 ∷ bit_at x1 0 ∷ bit_at x2 0 ∷ bit_at x3 0 ∷ bit_at x4 0 ∷ bit_at x5 0 ∷ bit_at x6 0 ∷ bit_at x7 0 ∷ [])
row_0 x0 x1 x2 x3 x4 x5 x6 x7 =
    let r0 = bits_low_1 x0 x1 in
    let r2 = bits_low_1 x2 x3 in
    let s0 = bits_low_2 (low_1 x0 x1) (low_1 x2 x3) in
    let r4 = bits_low_1 x4 x5 in
    let r6 = bits_low_1 x6 x7 in
    let s4 = bits_low_2 (low_1 x4 x5) (low_1 x6 x7) in
    let e : bit_at (low_2 (low_1 x0 x1) (low_1 x2 x3)) 0 ∷ bit_at (low_2 (low_1 x0 x1) (low_1 x2 x3)) 1 ∷ bit_at (low_2 (low_1 x0 x1) (low_1 x2 x3)) 2 ∷ bit_at (low_2 (low_1 x0 x1) (low_1 x2 x3)) 3 ∷ bit_at (low_2 (low_1 x4 x5) (low_1 x6 x7)) 0 ∷ bit_at (low_2 (low_1 x4 x5) (low_1 x6 x7)) 1 ∷ bit_at (low_2 (low_1 x4 x5) (low_1 x6 x7)) 2 ∷ bit_at (low_2 (low_1 x4 x5) (low_1 x6 x7)) 3 ∷ [] ≡ bit_at x0 0 ∷ bit_at x1 0 ∷ bit_at x2 0 ∷ bit_at x3 0 ∷ bit_at x4 0 ∷ bit_at x5 0 ∷ bit_at x6 0 ∷ bit_at x7 0 ∷ [] = cc in
    low_4_is (low_2 (low_1 x0 x1) (low_1 x2 x3)) (low_2 (low_1 x4 x5) (low_1 x6 x7)) ∙ ap (number_l 2) e

row_1 : (x0 x1 x2 x3 x4 x5 x6 x7 : ℕ) → low_4 (low_2 (high_1 x0 x1) (high_1 x2 x3)) (low_2 (high_1 x4 x5) (high_1 x6 x7)) ≡ number_l 2 (bit_at x0 1 ∷ bit_at x1 1 ∷ bit_at x2 1 ∷ bit_at x3 1 ∷ bit_at x4 1 ∷ bit_at x5 1 ∷ bit_at x6 1 ∷ bit_at x7 1 ∷ [])
row_1 x0 x1 x2 x3 x4 x5 x6 x7 =
    let r1 = bits_high_1 x0 x1 in
    let r3 = bits_high_1 x2 x3 in
    let s1 = bits_low_2 (high_1 x0 x1) (high_1 x2 x3) in
    let r5 = bits_high_1 x4 x5 in
    let r7 = bits_high_1 x6 x7 in
    let s5 = bits_low_2 (high_1 x4 x5) (high_1 x6 x7) in
    let e : bit_at (low_2 (high_1 x0 x1) (high_1 x2 x3)) 0 ∷ bit_at (low_2 (high_1 x0 x1) (high_1 x2 x3)) 1 ∷ bit_at (low_2 (high_1 x0 x1) (high_1 x2 x3)) 2 ∷ bit_at (low_2 (high_1 x0 x1) (high_1 x2 x3)) 3 ∷ bit_at (low_2 (high_1 x4 x5) (high_1 x6 x7)) 0 ∷ bit_at (low_2 (high_1 x4 x5) (high_1 x6 x7)) 1 ∷ bit_at (low_2 (high_1 x4 x5) (high_1 x6 x7)) 2 ∷ bit_at (low_2 (high_1 x4 x5) (high_1 x6 x7)) 3 ∷ [] ≡ bit_at x0 1 ∷ bit_at x1 1 ∷ bit_at x2 1 ∷ bit_at x3 1 ∷ bit_at x4 1 ∷ bit_at x5 1 ∷ bit_at x6 1 ∷ bit_at x7 1 ∷ [] = cc in
    low_4_is (low_2 (high_1 x0 x1) (high_1 x2 x3)) (low_2 (high_1 x4 x5) (high_1 x6 x7)) ∙ ap (number_l 2) e

row_2 : (x0 x1 x2 x3 x4 x5 x6 x7 : ℕ) → low_4 (high_2 (low_1 x0 x1) (low_1 x2 x3)) (high_2 (low_1 x4 x5) (low_1 x6 x7)) ≡ number_l 2 (bit_at x0 2 ∷ bit_at x1 2 ∷ bit_at x2 2 ∷ bit_at x3 2 ∷ bit_at x4 2 ∷ bit_at x5 2 ∷ bit_at x6 2 ∷ bit_at x7 2 ∷ [])
row_2 x0 x1 x2 x3 x4 x5 x6 x7 =
    let r0 = bits_low_1 x0 x1 in
    let r2 = bits_low_1 x2 x3 in
    let s2 = bits_high_2 (low_1 x0 x1) (low_1 x2 x3) in
    let r4 = bits_low_1 x4 x5 in
    let r6 = bits_low_1 x6 x7 in
    let s6 = bits_high_2 (low_1 x4 x5) (low_1 x6 x7) in
    let e : bit_at (high_2 (low_1 x0 x1) (low_1 x2 x3)) 0 ∷ bit_at (high_2 (low_1 x0 x1) (low_1 x2 x3)) 1 ∷ bit_at (high_2 (low_1 x0 x1) (low_1 x2 x3)) 2 ∷ bit_at (high_2 (low_1 x0 x1) (low_1 x2 x3)) 3 ∷ bit_at (high_2 (low_1 x4 x5) (low_1 x6 x7)) 0 ∷ bit_at (high_2 (low_1 x4 x5) (low_1 x6 x7)) 1 ∷ bit_at (high_2 (low_1 x4 x5) (low_1 x6 x7)) 2 ∷ bit_at (high_2 (low_1 x4 x5) (low_1 x6 x7)) 3 ∷ [] ≡ bit_at x0 2 ∷ bit_at x1 2 ∷ bit_at x2 2 ∷ bit_at x3 2 ∷ bit_at x4 2 ∷ bit_at x5 2 ∷ bit_at x6 2 ∷ bit_at x7 2 ∷ [] = cc in
    low_4_is (high_2 (low_1 x0 x1) (low_1 x2 x3)) (high_2 (low_1 x4 x5) (low_1 x6 x7)) ∙ ap (number_l 2) e

row_3 : (x0 x1 x2 x3 x4 x5 x6 x7 : ℕ) → low_4 (high_2 (high_1 x0 x1) (high_1 x2 x3)) (high_2 (high_1 x4 x5) (high_1 x6 x7)) ≡ number_l 2 (bit_at x0 3 ∷ bit_at x1 3 ∷ bit_at x2 3 ∷ bit_at x3 3 ∷ bit_at x4 3 ∷ bit_at x5 3 ∷ bit_at x6 3 ∷ bit_at x7 3 ∷ [])
row_3 x0 x1 x2 x3 x4 x5 x6 x7 =
    let r1 = bits_high_1 x0 x1 in
    let r3 = bits_high_1 x2 x3 in
    let s3 = bits_high_2 (high_1 x0 x1) (high_1 x2 x3) in
    let r5 = bits_high_1 x4 x5 in
    let r7 = bits_high_1 x6 x7 in
    let s7 = bits_high_2 (high_1 x4 x5) (high_1 x6 x7) in
    let e : bit_at (high_2 (high_1 x0 x1) (high_1 x2 x3)) 0 ∷ bit_at (high_2 (high_1 x0 x1) (high_1 x2 x3)) 1 ∷ bit_at (high_2 (high_1 x0 x1) (high_1 x2 x3)) 2 ∷ bit_at (high_2 (high_1 x0 x1) (high_1 x2 x3)) 3 ∷ bit_at (high_2 (high_1 x4 x5) (high_1 x6 x7)) 0 ∷ bit_at (high_2 (high_1 x4 x5) (high_1 x6 x7)) 1 ∷ bit_at (high_2 (high_1 x4 x5) (high_1 x6 x7)) 2 ∷ bit_at (high_2 (high_1 x4 x5) (high_1 x6 x7)) 3 ∷ [] ≡ bit_at x0 3 ∷ bit_at x1 3 ∷ bit_at x2 3 ∷ bit_at x3 3 ∷ bit_at x4 3 ∷ bit_at x5 3 ∷ bit_at x6 3 ∷ bit_at x7 3 ∷ [] = cc in
    low_4_is (high_2 (high_1 x0 x1) (high_1 x2 x3)) (high_2 (high_1 x4 x5) (high_1 x6 x7)) ∙ ap (number_l 2) e

row_4 : (x0 x1 x2 x3 x4 x5 x6 x7 : ℕ) → high_4 (low_2 (low_1 x0 x1) (low_1 x2 x3)) (low_2 (low_1 x4 x5) (low_1 x6 x7)) ≡ number_l 2 (bit_at x0 4 ∷ bit_at x1 4 ∷ bit_at x2 4 ∷ bit_at x3 4 ∷ bit_at x4 4 ∷ bit_at x5 4 ∷ bit_at x6 4 ∷ bit_at x7 4 ∷ [])
row_4 x0 x1 x2 x3 x4 x5 x6 x7 =
    let r0 = bits_low_1 x0 x1 in
    let r2 = bits_low_1 x2 x3 in
    let s0 = bits_low_2 (low_1 x0 x1) (low_1 x2 x3) in
    let r4 = bits_low_1 x4 x5 in
    let r6 = bits_low_1 x6 x7 in
    let s4 = bits_low_2 (low_1 x4 x5) (low_1 x6 x7) in
    let e : bit_at (low_2 (low_1 x0 x1) (low_1 x2 x3)) 4 ∷ bit_at (low_2 (low_1 x0 x1) (low_1 x2 x3)) 5 ∷ bit_at (low_2 (low_1 x0 x1) (low_1 x2 x3)) 6 ∷ bit_at (low_2 (low_1 x0 x1) (low_1 x2 x3)) 7 ∷ bit_at (low_2 (low_1 x4 x5) (low_1 x6 x7)) 4 ∷ bit_at (low_2 (low_1 x4 x5) (low_1 x6 x7)) 5 ∷ bit_at (low_2 (low_1 x4 x5) (low_1 x6 x7)) 6 ∷ bit_at (low_2 (low_1 x4 x5) (low_1 x6 x7)) 7 ∷ [] ≡ bit_at x0 4 ∷ bit_at x1 4 ∷ bit_at x2 4 ∷ bit_at x3 4 ∷ bit_at x4 4 ∷ bit_at x5 4 ∷ bit_at x6 4 ∷ bit_at x7 4 ∷ [] = cc in
    high_4_is (low_2 (low_1 x0 x1) (low_1 x2 x3)) (low_2 (low_1 x4 x5) (low_1 x6 x7)) ∙ ap (number_l 2) e

row_5 : (x0 x1 x2 x3 x4 x5 x6 x7 : ℕ) → high_4 (low_2 (high_1 x0 x1) (high_1 x2 x3)) (low_2 (high_1 x4 x5) (high_1 x6 x7)) ≡ number_l 2 (bit_at x0 5 ∷ bit_at x1 5 ∷ bit_at x2 5 ∷ bit_at x3 5 ∷ bit_at x4 5 ∷ bit_at x5 5 ∷ bit_at x6 5 ∷ bit_at x7 5 ∷ [])
row_5 x0 x1 x2 x3 x4 x5 x6 x7 =
    let r1 = bits_high_1 x0 x1 in
    let r3 = bits_high_1 x2 x3 in
    let s1 = bits_low_2 (high_1 x0 x1) (high_1 x2 x3) in
    let r5 = bits_high_1 x4 x5 in
    let r7 = bits_high_1 x6 x7 in
    let s5 = bits_low_2 (high_1 x4 x5) (high_1 x6 x7) in
    let e : bit_at (low_2 (high_1 x0 x1) (high_1 x2 x3)) 4 ∷ bit_at (low_2 (high_1 x0 x1) (high_1 x2 x3)) 5 ∷ bit_at (low_2 (high_1 x0 x1) (high_1 x2 x3)) 6 ∷ bit_at (low_2 (high_1 x0 x1) (high_1 x2 x3)) 7 ∷ bit_at (low_2 (high_1 x4 x5) (high_1 x6 x7)) 4 ∷ bit_at (low_2 (high_1 x4 x5) (high_1 x6 x7)) 5 ∷ bit_at (low_2 (high_1 x4 x5) (high_1 x6 x7)) 6 ∷ bit_at (low_2 (high_1 x4 x5) (high_1 x6 x7)) 7 ∷ [] ≡ bit_at x0 5 ∷ bit_at x1 5 ∷ bit_at x2 5 ∷ bit_at x3 5 ∷ bit_at x4 5 ∷ bit_at x5 5 ∷ bit_at x6 5 ∷ bit_at x7 5 ∷ [] = cc in
    high_4_is (low_2 (high_1 x0 x1) (high_1 x2 x3)) (low_2 (high_1 x4 x5) (high_1 x6 x7)) ∙ ap (number_l 2) e

row_6 : (x0 x1 x2 x3 x4 x5 x6 x7 : ℕ) → high_4 (high_2 (low_1 x0 x1) (low_1 x2 x3)) (high_2 (low_1 x4 x5) (low_1 x6 x7)) ≡ number_l 2 (bit_at x0 6 ∷ bit_at x1 6 ∷ bit_at x2 6 ∷ bit_at x3 6 ∷ bit_at x4 6 ∷ bit_at x5 6 ∷ bit_at x6 6 ∷ bit_at x7 6 ∷ [])
row_6 x0 x1 x2 x3 x4 x5 x6 x7 =
    let r0 = bits_low_1 x0 x1 in
    let r2 = bits_low_1 x2 x3 in
    let s2 = bits_high_2 (low_1 x0 x1) (low_1 x2 x3) in
    let r4 = bits_low_1 x4 x5 in
    let r6 = bits_low_1 x6 x7 in
    let s6 = bits_high_2 (low_1 x4 x5) (low_1 x6 x7) in
    let e : bit_at (high_2 (low_1 x0 x1) (low_1 x2 x3)) 4 ∷ bit_at (high_2 (low_1 x0 x1) (low_1 x2 x3)) 5 ∷ bit_at (high_2 (low_1 x0 x1) (low_1 x2 x3)) 6 ∷ bit_at (high_2 (low_1 x0 x1) (low_1 x2 x3)) 7 ∷ bit_at (high_2 (low_1 x4 x5) (low_1 x6 x7)) 4 ∷ bit_at (high_2 (low_1 x4 x5) (low_1 x6 x7)) 5 ∷ bit_at (high_2 (low_1 x4 x5) (low_1 x6 x7)) 6 ∷ bit_at (high_2 (low_1 x4 x5) (low_1 x6 x7)) 7 ∷ [] ≡ bit_at x0 6 ∷ bit_at x1 6 ∷ bit_at x2 6 ∷ bit_at x3 6 ∷ bit_at x4 6 ∷ bit_at x5 6 ∷ bit_at x6 6 ∷ bit_at x7 6 ∷ [] = cc in
    high_4_is (high_2 (low_1 x0 x1) (low_1 x2 x3)) (high_2 (low_1 x4 x5) (low_1 x6 x7)) ∙ ap (number_l 2) e

row_7 : (x0 x1 x2 x3 x4 x5 x6 x7 : ℕ) → high_4 (high_2 (high_1 x0 x1) (high_1 x2 x3)) (high_2 (high_1 x4 x5) (high_1 x6 x7)) ≡ number_l 2 (bit_at x0 7 ∷ bit_at x1 7 ∷ bit_at x2 7 ∷ bit_at x3 7 ∷ bit_at x4 7 ∷ bit_at x5 7 ∷ bit_at x6 7 ∷ bit_at x7 7 ∷ [])
row_7 x0 x1 x2 x3 x4 x5 x6 x7 =
    let r1 = bits_high_1 x0 x1 in
    let r3 = bits_high_1 x2 x3 in
    let s3 = bits_high_2 (high_1 x0 x1) (high_1 x2 x3) in
    let r5 = bits_high_1 x4 x5 in
    let r7 = bits_high_1 x6 x7 in
    let s7 = bits_high_2 (high_1 x4 x5) (high_1 x6 x7) in
    let e : bit_at (high_2 (high_1 x0 x1) (high_1 x2 x3)) 4 ∷ bit_at (high_2 (high_1 x0 x1) (high_1 x2 x3)) 5 ∷ bit_at (high_2 (high_1 x0 x1) (high_1 x2 x3)) 6 ∷ bit_at (high_2 (high_1 x0 x1) (high_1 x2 x3)) 7 ∷ bit_at (high_2 (high_1 x4 x5) (high_1 x6 x7)) 4 ∷ bit_at (high_2 (high_1 x4 x5) (high_1 x6 x7)) 5 ∷ bit_at (high_2 (high_1 x4 x5) (high_1 x6 x7)) 6 ∷ bit_at (high_2 (high_1 x4 x5) (high_1 x6 x7)) 7 ∷ [] ≡ bit_at x0 7 ∷ bit_at x1 7 ∷ bit_at x2 7 ∷ bit_at x3 7 ∷ bit_at x4 7 ∷ bit_at x5 7 ∷ bit_at x6 7 ∷ bit_at x7 7 ∷ [] = cc in
    high_4_is (high_2 (high_1 x0 x1) (high_1 x2 x3)) (high_2 (high_1 x4 x5) (high_1 x6 x7)) ∙ ap (number_l 2) e

pub plane_0 : (x0 x1 x2 x3 x4 x5 x6 x7 z0 z4 y0 y2 y4 y6 w0 : List ℕ) →
    y0 ≡ lanes (λ j. low_1 (slice_index x0 j) (slice_index x1 j)) →
    y2 ≡ lanes (λ j. low_1 (slice_index x2 j) (slice_index x3 j)) →
    y4 ≡ lanes (λ j. low_1 (slice_index x4 j) (slice_index x5 j)) →
    y6 ≡ lanes (λ j. low_1 (slice_index x6 j) (slice_index x7 j)) →
    z0 ≡ lanes (λ j. low_2 (slice_index y0 j) (slice_index y2 j)) →
    z4 ≡ lanes (λ j. low_2 (slice_index y4 j) (slice_index y6 j)) →
    w0 ≡ lanes (λ j. low_4 (slice_index z0 j) (slice_index z4 j)) →
    w0 ≡ block (x0 ∷ x1 ∷ x2 ∷ x3 ∷ x4 ∷ x5 ∷ x6 ∷ x7 ∷ []) 0
unfolding block
plane_0 x0 x1 x2 x3 x4 x5 x6 x7 z0 z4 y0 y2 y4 y6 w0 ey0 ey2 ey4 ey6 ez0 ez4 ew0 =
    ew0
    ∙ lanes_same (λ j. low_4 (slice_index z0 j) (slice_index z4 j)) (λ j. number_l 2 (bit_at (slice_index x0 j) 0 ∷ bit_at (slice_index x1 j) 0 ∷ bit_at (slice_index x2 j) 0 ∷ bit_at (slice_index x3 j) 0 ∷ bit_at (slice_index x4 j) 0 ∷ bit_at (slice_index x5 j) 0 ∷ bit_at (slice_index x6 j) 0 ∷ bit_at (slice_index x7 j) 0 ∷ []))
    (λ j below.
    let az0 = at_lane z0 (λ j. low_2 (slice_index y0 j) (slice_index y2 j)) j ez0 below in
    let az4 = at_lane z4 (λ j. low_2 (slice_index y4 j) (slice_index y6 j)) j ez4 below in
    let ay0 = at_lane y0 (λ j. low_1 (slice_index x0 j) (slice_index x1 j)) j ey0 below in
    let ay2 = at_lane y2 (λ j. low_1 (slice_index x2 j) (slice_index x3 j)) j ey2 below in
    let ay4 = at_lane y4 (λ j. low_1 (slice_index x4 j) (slice_index x5 j)) j ey4 below in
    let ay6 = at_lane y6 (λ j. low_1 (slice_index x6 j) (slice_index x7 j)) j ey6 below in
    let r = row_0 (slice_index x0 j) (slice_index x1 j) (slice_index x2 j) (slice_index x3 j) (slice_index x4 j) (slice_index x5 j) (slice_index x6 j) (slice_index x7 j) in
    (cc))

pub plane_1 : (x0 x1 x2 x3 x4 x5 x6 x7 z1 z5 y1 y3 y5 y7 w1 : List ℕ) →
    y1 ≡ lanes (λ j. high_1 (slice_index x0 j) (slice_index x1 j)) →
    y3 ≡ lanes (λ j. high_1 (slice_index x2 j) (slice_index x3 j)) →
    y5 ≡ lanes (λ j. high_1 (slice_index x4 j) (slice_index x5 j)) →
    y7 ≡ lanes (λ j. high_1 (slice_index x6 j) (slice_index x7 j)) →
    z1 ≡ lanes (λ j. low_2 (slice_index y1 j) (slice_index y3 j)) →
    z5 ≡ lanes (λ j. low_2 (slice_index y5 j) (slice_index y7 j)) →
    w1 ≡ lanes (λ j. low_4 (slice_index z1 j) (slice_index z5 j)) →
    w1 ≡ block (x0 ∷ x1 ∷ x2 ∷ x3 ∷ x4 ∷ x5 ∷ x6 ∷ x7 ∷ []) 1
unfolding block
plane_1 x0 x1 x2 x3 x4 x5 x6 x7 z1 z5 y1 y3 y5 y7 w1 ey1 ey3 ey5 ey7 ez1 ez5 ew1 =
    ew1
    ∙ lanes_same (λ j. low_4 (slice_index z1 j) (slice_index z5 j)) (λ j. number_l 2 (bit_at (slice_index x0 j) 1 ∷ bit_at (slice_index x1 j) 1 ∷ bit_at (slice_index x2 j) 1 ∷ bit_at (slice_index x3 j) 1 ∷ bit_at (slice_index x4 j) 1 ∷ bit_at (slice_index x5 j) 1 ∷ bit_at (slice_index x6 j) 1 ∷ bit_at (slice_index x7 j) 1 ∷ []))
    (λ j below.
    let az1 = at_lane z1 (λ j. low_2 (slice_index y1 j) (slice_index y3 j)) j ez1 below in
    let az5 = at_lane z5 (λ j. low_2 (slice_index y5 j) (slice_index y7 j)) j ez5 below in
    let ay1 = at_lane y1 (λ j. high_1 (slice_index x0 j) (slice_index x1 j)) j ey1 below in
    let ay3 = at_lane y3 (λ j. high_1 (slice_index x2 j) (slice_index x3 j)) j ey3 below in
    let ay5 = at_lane y5 (λ j. high_1 (slice_index x4 j) (slice_index x5 j)) j ey5 below in
    let ay7 = at_lane y7 (λ j. high_1 (slice_index x6 j) (slice_index x7 j)) j ey7 below in
    let r = row_1 (slice_index x0 j) (slice_index x1 j) (slice_index x2 j) (slice_index x3 j) (slice_index x4 j) (slice_index x5 j) (slice_index x6 j) (slice_index x7 j) in
    (cc))

pub plane_2 : (x0 x1 x2 x3 x4 x5 x6 x7 z2 z6 y0 y2 y4 y6 w2 : List ℕ) →
    y0 ≡ lanes (λ j. low_1 (slice_index x0 j) (slice_index x1 j)) →
    y2 ≡ lanes (λ j. low_1 (slice_index x2 j) (slice_index x3 j)) →
    y4 ≡ lanes (λ j. low_1 (slice_index x4 j) (slice_index x5 j)) →
    y6 ≡ lanes (λ j. low_1 (slice_index x6 j) (slice_index x7 j)) →
    z2 ≡ lanes (λ j. high_2 (slice_index y0 j) (slice_index y2 j)) →
    z6 ≡ lanes (λ j. high_2 (slice_index y4 j) (slice_index y6 j)) →
    w2 ≡ lanes (λ j. low_4 (slice_index z2 j) (slice_index z6 j)) →
    w2 ≡ block (x0 ∷ x1 ∷ x2 ∷ x3 ∷ x4 ∷ x5 ∷ x6 ∷ x7 ∷ []) 2
unfolding block
plane_2 x0 x1 x2 x3 x4 x5 x6 x7 z2 z6 y0 y2 y4 y6 w2 ey0 ey2 ey4 ey6 ez2 ez6 ew2 =
    ew2
    ∙ lanes_same (λ j. low_4 (slice_index z2 j) (slice_index z6 j)) (λ j. number_l 2 (bit_at (slice_index x0 j) 2 ∷ bit_at (slice_index x1 j) 2 ∷ bit_at (slice_index x2 j) 2 ∷ bit_at (slice_index x3 j) 2 ∷ bit_at (slice_index x4 j) 2 ∷ bit_at (slice_index x5 j) 2 ∷ bit_at (slice_index x6 j) 2 ∷ bit_at (slice_index x7 j) 2 ∷ []))
    (λ j below.
    let az2 = at_lane z2 (λ j. high_2 (slice_index y0 j) (slice_index y2 j)) j ez2 below in
    let az6 = at_lane z6 (λ j. high_2 (slice_index y4 j) (slice_index y6 j)) j ez6 below in
    let ay0 = at_lane y0 (λ j. low_1 (slice_index x0 j) (slice_index x1 j)) j ey0 below in
    let ay2 = at_lane y2 (λ j. low_1 (slice_index x2 j) (slice_index x3 j)) j ey2 below in
    let ay4 = at_lane y4 (λ j. low_1 (slice_index x4 j) (slice_index x5 j)) j ey4 below in
    let ay6 = at_lane y6 (λ j. low_1 (slice_index x6 j) (slice_index x7 j)) j ey6 below in
    let r = row_2 (slice_index x0 j) (slice_index x1 j) (slice_index x2 j) (slice_index x3 j) (slice_index x4 j) (slice_index x5 j) (slice_index x6 j) (slice_index x7 j) in
    (cc))

pub plane_3 : (x0 x1 x2 x3 x4 x5 x6 x7 z3 z7 y1 y3 y5 y7 w3 : List ℕ) →
    y1 ≡ lanes (λ j. high_1 (slice_index x0 j) (slice_index x1 j)) →
    y3 ≡ lanes (λ j. high_1 (slice_index x2 j) (slice_index x3 j)) →
    y5 ≡ lanes (λ j. high_1 (slice_index x4 j) (slice_index x5 j)) →
    y7 ≡ lanes (λ j. high_1 (slice_index x6 j) (slice_index x7 j)) →
    z3 ≡ lanes (λ j. high_2 (slice_index y1 j) (slice_index y3 j)) →
    z7 ≡ lanes (λ j. high_2 (slice_index y5 j) (slice_index y7 j)) →
    w3 ≡ lanes (λ j. low_4 (slice_index z3 j) (slice_index z7 j)) →
    w3 ≡ block (x0 ∷ x1 ∷ x2 ∷ x3 ∷ x4 ∷ x5 ∷ x6 ∷ x7 ∷ []) 3
unfolding block
plane_3 x0 x1 x2 x3 x4 x5 x6 x7 z3 z7 y1 y3 y5 y7 w3 ey1 ey3 ey5 ey7 ez3 ez7 ew3 =
    ew3
    ∙ lanes_same (λ j. low_4 (slice_index z3 j) (slice_index z7 j)) (λ j. number_l 2 (bit_at (slice_index x0 j) 3 ∷ bit_at (slice_index x1 j) 3 ∷ bit_at (slice_index x2 j) 3 ∷ bit_at (slice_index x3 j) 3 ∷ bit_at (slice_index x4 j) 3 ∷ bit_at (slice_index x5 j) 3 ∷ bit_at (slice_index x6 j) 3 ∷ bit_at (slice_index x7 j) 3 ∷ []))
    (λ j below.
    let az3 = at_lane z3 (λ j. high_2 (slice_index y1 j) (slice_index y3 j)) j ez3 below in
    let az7 = at_lane z7 (λ j. high_2 (slice_index y5 j) (slice_index y7 j)) j ez7 below in
    let ay1 = at_lane y1 (λ j. high_1 (slice_index x0 j) (slice_index x1 j)) j ey1 below in
    let ay3 = at_lane y3 (λ j. high_1 (slice_index x2 j) (slice_index x3 j)) j ey3 below in
    let ay5 = at_lane y5 (λ j. high_1 (slice_index x4 j) (slice_index x5 j)) j ey5 below in
    let ay7 = at_lane y7 (λ j. high_1 (slice_index x6 j) (slice_index x7 j)) j ey7 below in
    let r = row_3 (slice_index x0 j) (slice_index x1 j) (slice_index x2 j) (slice_index x3 j) (slice_index x4 j) (slice_index x5 j) (slice_index x6 j) (slice_index x7 j) in
    (cc))

pub plane_4 : (x0 x1 x2 x3 x4 x5 x6 x7 z0 z4 y0 y2 y4 y6 w4 : List ℕ) →
    y0 ≡ lanes (λ j. low_1 (slice_index x0 j) (slice_index x1 j)) →
    y2 ≡ lanes (λ j. low_1 (slice_index x2 j) (slice_index x3 j)) →
    y4 ≡ lanes (λ j. low_1 (slice_index x4 j) (slice_index x5 j)) →
    y6 ≡ lanes (λ j. low_1 (slice_index x6 j) (slice_index x7 j)) →
    z0 ≡ lanes (λ j. low_2 (slice_index y0 j) (slice_index y2 j)) →
    z4 ≡ lanes (λ j. low_2 (slice_index y4 j) (slice_index y6 j)) →
    w4 ≡ lanes (λ j. high_4 (slice_index z0 j) (slice_index z4 j)) →
    w4 ≡ block (x0 ∷ x1 ∷ x2 ∷ x3 ∷ x4 ∷ x5 ∷ x6 ∷ x7 ∷ []) 4
unfolding block
plane_4 x0 x1 x2 x3 x4 x5 x6 x7 z0 z4 y0 y2 y4 y6 w4 ey0 ey2 ey4 ey6 ez0 ez4 ew4 =
    ew4
    ∙ lanes_same (λ j. high_4 (slice_index z0 j) (slice_index z4 j)) (λ j. number_l 2 (bit_at (slice_index x0 j) 4 ∷ bit_at (slice_index x1 j) 4 ∷ bit_at (slice_index x2 j) 4 ∷ bit_at (slice_index x3 j) 4 ∷ bit_at (slice_index x4 j) 4 ∷ bit_at (slice_index x5 j) 4 ∷ bit_at (slice_index x6 j) 4 ∷ bit_at (slice_index x7 j) 4 ∷ []))
    (λ j below.
    let az0 = at_lane z0 (λ j. low_2 (slice_index y0 j) (slice_index y2 j)) j ez0 below in
    let az4 = at_lane z4 (λ j. low_2 (slice_index y4 j) (slice_index y6 j)) j ez4 below in
    let ay0 = at_lane y0 (λ j. low_1 (slice_index x0 j) (slice_index x1 j)) j ey0 below in
    let ay2 = at_lane y2 (λ j. low_1 (slice_index x2 j) (slice_index x3 j)) j ey2 below in
    let ay4 = at_lane y4 (λ j. low_1 (slice_index x4 j) (slice_index x5 j)) j ey4 below in
    let ay6 = at_lane y6 (λ j. low_1 (slice_index x6 j) (slice_index x7 j)) j ey6 below in
    let r = row_4 (slice_index x0 j) (slice_index x1 j) (slice_index x2 j) (slice_index x3 j) (slice_index x4 j) (slice_index x5 j) (slice_index x6 j) (slice_index x7 j) in
    (cc))

pub plane_5 : (x0 x1 x2 x3 x4 x5 x6 x7 z1 z5 y1 y3 y5 y7 w5 : List ℕ) →
    y1 ≡ lanes (λ j. high_1 (slice_index x0 j) (slice_index x1 j)) →
    y3 ≡ lanes (λ j. high_1 (slice_index x2 j) (slice_index x3 j)) →
    y5 ≡ lanes (λ j. high_1 (slice_index x4 j) (slice_index x5 j)) →
    y7 ≡ lanes (λ j. high_1 (slice_index x6 j) (slice_index x7 j)) →
    z1 ≡ lanes (λ j. low_2 (slice_index y1 j) (slice_index y3 j)) →
    z5 ≡ lanes (λ j. low_2 (slice_index y5 j) (slice_index y7 j)) →
    w5 ≡ lanes (λ j. high_4 (slice_index z1 j) (slice_index z5 j)) →
    w5 ≡ block (x0 ∷ x1 ∷ x2 ∷ x3 ∷ x4 ∷ x5 ∷ x6 ∷ x7 ∷ []) 5
unfolding block
plane_5 x0 x1 x2 x3 x4 x5 x6 x7 z1 z5 y1 y3 y5 y7 w5 ey1 ey3 ey5 ey7 ez1 ez5 ew5 =
    ew5
    ∙ lanes_same (λ j. high_4 (slice_index z1 j) (slice_index z5 j)) (λ j. number_l 2 (bit_at (slice_index x0 j) 5 ∷ bit_at (slice_index x1 j) 5 ∷ bit_at (slice_index x2 j) 5 ∷ bit_at (slice_index x3 j) 5 ∷ bit_at (slice_index x4 j) 5 ∷ bit_at (slice_index x5 j) 5 ∷ bit_at (slice_index x6 j) 5 ∷ bit_at (slice_index x7 j) 5 ∷ []))
    (λ j below.
    let az1 = at_lane z1 (λ j. low_2 (slice_index y1 j) (slice_index y3 j)) j ez1 below in
    let az5 = at_lane z5 (λ j. low_2 (slice_index y5 j) (slice_index y7 j)) j ez5 below in
    let ay1 = at_lane y1 (λ j. high_1 (slice_index x0 j) (slice_index x1 j)) j ey1 below in
    let ay3 = at_lane y3 (λ j. high_1 (slice_index x2 j) (slice_index x3 j)) j ey3 below in
    let ay5 = at_lane y5 (λ j. high_1 (slice_index x4 j) (slice_index x5 j)) j ey5 below in
    let ay7 = at_lane y7 (λ j. high_1 (slice_index x6 j) (slice_index x7 j)) j ey7 below in
    let r = row_5 (slice_index x0 j) (slice_index x1 j) (slice_index x2 j) (slice_index x3 j) (slice_index x4 j) (slice_index x5 j) (slice_index x6 j) (slice_index x7 j) in
    (cc))

pub plane_6 : (x0 x1 x2 x3 x4 x5 x6 x7 z2 z6 y0 y2 y4 y6 w6 : List ℕ) →
    y0 ≡ lanes (λ j. low_1 (slice_index x0 j) (slice_index x1 j)) →
    y2 ≡ lanes (λ j. low_1 (slice_index x2 j) (slice_index x3 j)) →
    y4 ≡ lanes (λ j. low_1 (slice_index x4 j) (slice_index x5 j)) →
    y6 ≡ lanes (λ j. low_1 (slice_index x6 j) (slice_index x7 j)) →
    z2 ≡ lanes (λ j. high_2 (slice_index y0 j) (slice_index y2 j)) →
    z6 ≡ lanes (λ j. high_2 (slice_index y4 j) (slice_index y6 j)) →
    w6 ≡ lanes (λ j. high_4 (slice_index z2 j) (slice_index z6 j)) →
    w6 ≡ block (x0 ∷ x1 ∷ x2 ∷ x3 ∷ x4 ∷ x5 ∷ x6 ∷ x7 ∷ []) 6
unfolding block
plane_6 x0 x1 x2 x3 x4 x5 x6 x7 z2 z6 y0 y2 y4 y6 w6 ey0 ey2 ey4 ey6 ez2 ez6 ew6 =
    ew6
    ∙ lanes_same (λ j. high_4 (slice_index z2 j) (slice_index z6 j)) (λ j. number_l 2 (bit_at (slice_index x0 j) 6 ∷ bit_at (slice_index x1 j) 6 ∷ bit_at (slice_index x2 j) 6 ∷ bit_at (slice_index x3 j) 6 ∷ bit_at (slice_index x4 j) 6 ∷ bit_at (slice_index x5 j) 6 ∷ bit_at (slice_index x6 j) 6 ∷ bit_at (slice_index x7 j) 6 ∷ []))
    (λ j below.
    let az2 = at_lane z2 (λ j. high_2 (slice_index y0 j) (slice_index y2 j)) j ez2 below in
    let az6 = at_lane z6 (λ j. high_2 (slice_index y4 j) (slice_index y6 j)) j ez6 below in
    let ay0 = at_lane y0 (λ j. low_1 (slice_index x0 j) (slice_index x1 j)) j ey0 below in
    let ay2 = at_lane y2 (λ j. low_1 (slice_index x2 j) (slice_index x3 j)) j ey2 below in
    let ay4 = at_lane y4 (λ j. low_1 (slice_index x4 j) (slice_index x5 j)) j ey4 below in
    let ay6 = at_lane y6 (λ j. low_1 (slice_index x6 j) (slice_index x7 j)) j ey6 below in
    let r = row_6 (slice_index x0 j) (slice_index x1 j) (slice_index x2 j) (slice_index x3 j) (slice_index x4 j) (slice_index x5 j) (slice_index x6 j) (slice_index x7 j) in
    (cc))

pub plane_7 : (x0 x1 x2 x3 x4 x5 x6 x7 z3 z7 y1 y3 y5 y7 w7 : List ℕ) →
    y1 ≡ lanes (λ j. high_1 (slice_index x0 j) (slice_index x1 j)) →
    y3 ≡ lanes (λ j. high_1 (slice_index x2 j) (slice_index x3 j)) →
    y5 ≡ lanes (λ j. high_1 (slice_index x4 j) (slice_index x5 j)) →
    y7 ≡ lanes (λ j. high_1 (slice_index x6 j) (slice_index x7 j)) →
    z3 ≡ lanes (λ j. high_2 (slice_index y1 j) (slice_index y3 j)) →
    z7 ≡ lanes (λ j. high_2 (slice_index y5 j) (slice_index y7 j)) →
    w7 ≡ lanes (λ j. high_4 (slice_index z3 j) (slice_index z7 j)) →
    w7 ≡ block (x0 ∷ x1 ∷ x2 ∷ x3 ∷ x4 ∷ x5 ∷ x6 ∷ x7 ∷ []) 7
unfolding block
plane_7 x0 x1 x2 x3 x4 x5 x6 x7 z3 z7 y1 y3 y5 y7 w7 ey1 ey3 ey5 ey7 ez3 ez7 ew7 =
    ew7
    ∙ lanes_same (λ j. high_4 (slice_index z3 j) (slice_index z7 j)) (λ j. number_l 2 (bit_at (slice_index x0 j) 7 ∷ bit_at (slice_index x1 j) 7 ∷ bit_at (slice_index x2 j) 7 ∷ bit_at (slice_index x3 j) 7 ∷ bit_at (slice_index x4 j) 7 ∷ bit_at (slice_index x5 j) 7 ∷ bit_at (slice_index x6 j) 7 ∷ bit_at (slice_index x7 j) 7 ∷ []))
    (λ j below.
    let az3 = at_lane z3 (λ j. high_2 (slice_index y1 j) (slice_index y3 j)) j ez3 below in
    let az7 = at_lane z7 (λ j. high_2 (slice_index y5 j) (slice_index y7 j)) j ez7 below in
    let ay1 = at_lane y1 (λ j. high_1 (slice_index x0 j) (slice_index x1 j)) j ey1 below in
    let ay3 = at_lane y3 (λ j. high_1 (slice_index x2 j) (slice_index x3 j)) j ey3 below in
    let ay5 = at_lane y5 (λ j. high_1 (slice_index x4 j) (slice_index x5 j)) j ey5 below in
    let ay7 = at_lane y7 (λ j. high_1 (slice_index x6 j) (slice_index x7 j)) j ey7 below in
    let r = row_7 (slice_index x0 j) (slice_index x1 j) (slice_index x2 j) (slice_index x3 j) (slice_index x4 j) (slice_index x5 j) (slice_index x6 j) (slice_index x7 j) in
    (cc))
