-- Eight blocks to eight planes, and back.
use Rattle.std.proofs.Common.{◌≡◌, ℕ, zero, suc, ◌<◌, List, [], ◌∷◌, map, slice_index, slice_index_or, length, refl, sym, subst, arith, Fits, w8}
use Rattle.std.specs.List.{range_with_len}
use Rattle.std.specs.Simd.Lanes.{Each1}
use Rattle.std.proofs.lemmas.List.FromFn.{fill_by_all}
use Rattle.aes_wide.specs.Planes.{lanes, block}
use Rattle.aes_wide.specs.Swaps.{low_1, high_1, low_2, high_2, low_4, high_4}
use Rattle.aes_wide.proofs.TurnLemmas.{plane_0, plane_1, plane_2, plane_3, plane_4, plane_5, plane_6, plane_7}
use Rattle.aes_wide.proofs.TwiceLemmas.{back_0, back_1, back_2, back_3, back_4, back_5, back_6, back_7}

pub turned_about : (x0 x1 x2 x3 x4 x5 x6 x7 y0 y1 y2 y3 y4 y5 y6 y7 z0 z1 z2 z3 z4 z5 z6 z7 w0 w1 w2 w3 w4 w5 w6 w7 : List ℕ) →
    y0 ≡ lanes (λ j. low_1 (slice_index x0 j) (slice_index x1 j)) →
    y1 ≡ lanes (λ j. high_1 (slice_index x0 j) (slice_index x1 j)) →
    y2 ≡ lanes (λ j. low_1 (slice_index x2 j) (slice_index x3 j)) →
    y3 ≡ lanes (λ j. high_1 (slice_index x2 j) (slice_index x3 j)) →
    y4 ≡ lanes (λ j. low_1 (slice_index x4 j) (slice_index x5 j)) →
    y5 ≡ lanes (λ j. high_1 (slice_index x4 j) (slice_index x5 j)) →
    y6 ≡ lanes (λ j. low_1 (slice_index x6 j) (slice_index x7 j)) →
    y7 ≡ lanes (λ j. high_1 (slice_index x6 j) (slice_index x7 j)) →
    z0 ≡ lanes (λ j. low_2 (slice_index y0 j) (slice_index y2 j)) →
    z1 ≡ lanes (λ j. low_2 (slice_index y1 j) (slice_index y3 j)) →
    z2 ≡ lanes (λ j. high_2 (slice_index y0 j) (slice_index y2 j)) →
    z3 ≡ lanes (λ j. high_2 (slice_index y1 j) (slice_index y3 j)) →
    z4 ≡ lanes (λ j. low_2 (slice_index y4 j) (slice_index y6 j)) →
    z5 ≡ lanes (λ j. low_2 (slice_index y5 j) (slice_index y7 j)) →
    z6 ≡ lanes (λ j. high_2 (slice_index y4 j) (slice_index y6 j)) →
    z7 ≡ lanes (λ j. high_2 (slice_index y5 j) (slice_index y7 j)) →
    w0 ≡ lanes (λ j. low_4 (slice_index z0 j) (slice_index z4 j)) →
    w1 ≡ lanes (λ j. low_4 (slice_index z1 j) (slice_index z5 j)) →
    w2 ≡ lanes (λ j. low_4 (slice_index z2 j) (slice_index z6 j)) →
    w3 ≡ lanes (λ j. low_4 (slice_index z3 j) (slice_index z7 j)) →
    w4 ≡ lanes (λ j. high_4 (slice_index z0 j) (slice_index z4 j)) →
    w5 ≡ lanes (λ j. high_4 (slice_index z1 j) (slice_index z5 j)) →
    w6 ≡ lanes (λ j. high_4 (slice_index z2 j) (slice_index z6 j)) →
    w7 ≡ lanes (λ j. high_4 (slice_index z3 j) (slice_index z7 j)) →
    w0 ∷ w1 ∷ w2 ∷ w3 ∷ w4 ∷ w5 ∷ w6 ∷ w7 ∷ [] ≡ map (block (x0 ∷ x1 ∷ x2 ∷ x3 ∷ x4 ∷ x5 ∷ x6 ∷ x7 ∷ [])) (range_with_len 0 8)
turned_about x0 x1 x2 x3 x4 x5 x6 x7 y0 y1 y2 y3 y4 y5 y6 y7 z0 z1 z2 z3 z4 z5 z6 z7 w0 w1 w2 w3 w4 w5 w6 w7 ey0 ey1 ey2 ey3 ey4 ey5 ey6 ey7 ez0 ez1 ez2 ez3 ez4 ez5 ez6 ez7 ew0 ew1 ew2 ew3 ew4 ew5 ew6 ew7 =
    let p0 = plane_0 x0 x1 x2 x3 x4 x5 x6 x7 z0 z4 y0 y2 y4 y6 w0 ey0 ey2 ey4 ey6 ez0 ez4 ew0 in
    let p1 = plane_1 x0 x1 x2 x3 x4 x5 x6 x7 z1 z5 y1 y3 y5 y7 w1 ey1 ey3 ey5 ey7 ez1 ez5 ew1 in
    let p2 = plane_2 x0 x1 x2 x3 x4 x5 x6 x7 z2 z6 y0 y2 y4 y6 w2 ey0 ey2 ey4 ey6 ez2 ez6 ew2 in
    let p3 = plane_3 x0 x1 x2 x3 x4 x5 x6 x7 z3 z7 y1 y3 y5 y7 w3 ey1 ey3 ey5 ey7 ez3 ez7 ew3 in
    let p4 = plane_4 x0 x1 x2 x3 x4 x5 x6 x7 z0 z4 y0 y2 y4 y6 w4 ey0 ey2 ey4 ey6 ez0 ez4 ew4 in
    let p5 = plane_5 x0 x1 x2 x3 x4 x5 x6 x7 z1 z5 y1 y3 y5 y7 w5 ey1 ey3 ey5 ey7 ez1 ez5 ew5 in
    let p6 = plane_6 x0 x1 x2 x3 x4 x5 x6 x7 z2 z6 y0 y2 y4 y6 w6 ey0 ey2 ey4 ey6 ez2 ez6 ew6 in
    let p7 = plane_7 x0 x1 x2 x3 x4 x5 x6 x7 z3 z7 y1 y3 y5 y7 w7 ey1 ey3 ey5 ey7 ez3 ez7 ew7 in
    cc

-- what the rows of planes of blocks are
pub back_of : (x0 x1 x2 x3 x4 x5 x6 x7 : List ℕ) → ((b : ℕ) → b < 8 → length (slice_index_or (x0 ∷ x1 ∷ x2 ∷ x3 ∷ x4 ∷ x5 ∷ x6 ∷ x7 ∷ []) b []) ≡ 16) → ((b : ℕ) → b < 8 → Each1 (Fits w8) (slice_index_or (x0 ∷ x1 ∷ x2 ∷ x3 ∷ x4 ∷ x5 ∷ x6 ∷ x7 ∷ []) b [])) →
    (b : ℕ) → b < 8 → block (map (block (x0 ∷ x1 ∷ x2 ∷ x3 ∷ x4 ∷ x5 ∷ x6 ∷ x7 ∷ [])) (range_with_len 0 8)) b ≡ slice_index_or (x0 ∷ x1 ∷ x2 ∷ x3 ∷ x4 ∷ x5 ∷ x6 ∷ x7 ∷ []) b []
back_of x0 x1 x2 x3 x4 x5 x6 x7 long fits zero h = back_0 x0 x1 x2 x3 x4 x5 x6 x7 (long 0 h) (fits 0 h)
back_of x0 x1 x2 x3 x4 x5 x6 x7 long fits (suc zero) h = back_1 x0 x1 x2 x3 x4 x5 x6 x7 (long 1 h) (fits 1 h)
back_of x0 x1 x2 x3 x4 x5 x6 x7 long fits (suc (suc zero)) h = back_2 x0 x1 x2 x3 x4 x5 x6 x7 (long 2 h) (fits 2 h)
back_of x0 x1 x2 x3 x4 x5 x6 x7 long fits (suc (suc (suc zero))) h = back_3 x0 x1 x2 x3 x4 x5 x6 x7 (long 3 h) (fits 3 h)
back_of x0 x1 x2 x3 x4 x5 x6 x7 long fits (suc (suc (suc (suc zero)))) h = back_4 x0 x1 x2 x3 x4 x5 x6 x7 (long 4 h) (fits 4 h)
back_of x0 x1 x2 x3 x4 x5 x6 x7 long fits (suc (suc (suc (suc (suc zero))))) h = back_5 x0 x1 x2 x3 x4 x5 x6 x7 (long 5 h) (fits 5 h)
back_of x0 x1 x2 x3 x4 x5 x6 x7 long fits (suc (suc (suc (suc (suc (suc zero)))))) h = back_6 x0 x1 x2 x3 x4 x5 x6 x7 (long 6 h) (fits 6 h)
back_of x0 x1 x2 x3 x4 x5 x6 x7 long fits (suc (suc (suc (suc (suc (suc (suc zero))))))) h = back_7 x0 x1 x2 x3 x4 x5 x6 x7 (long 7 h) (fits 7 h)
back_of x0 x1 x2 x3 x4 x5 x6 x7 long fits (suc (suc (suc (suc (suc (suc (suc (suc b)))))))) h = absurd (omega arith)

pub back : (x : List (List ℕ)) → length x ≡ 8 → ((b : ℕ) → b < 8 → length (slice_index_or x b []) ≡ 16) → ((b : ℕ) → b < 8 → Each1 (Fits w8) (slice_index_or x b [])) →
    (b : ℕ) → b < 8 → block (map (block x) (range_with_len 0 8)) b ≡ slice_index_or x b []
back x eight long fits b h =
    let get = λ (i : ℕ). slice_index_or x i [] in
    let listed : x ≡ map get (range_with_len 0 8) = fill_by_all get x 8 [] eight (λ k _. refl) in
    let goal : List (List ℕ) → Type 0 = λ t. block (map (block t) (range_with_len 0 8)) b ≡ slice_index_or t b [] in
    let longs : List (List ℕ) → Type 0 = λ t. (b : ℕ) → b < 8 → length (slice_index_or t b []) ≡ 16 in
    let bytes : List (List ℕ) → Type 0 = λ t. (b : ℕ) → b < 8 → Each1 (Fits w8) (slice_index_or t b []) in
    subst goal (sym listed)
    (back_of (get 0) (get 1) (get 2) (get 3) (get 4) (get 5) (get 6) (get 7) (subst longs listed long) (subst bytes listed fits) b h)
