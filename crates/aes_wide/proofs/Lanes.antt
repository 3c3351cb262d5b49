-- Sixteen lanes.
use Rattle.std.proofs.Common.{◌≡◌, ℕ, zero, suc, ◌<◌, nat_lt, Bool, true, false, cond, List, [], ◌∷◌, ◌++◌, length, slice_index, refl, ◌∙◌, ap, arith, Fits, w8}
use Rattle.std.proofs.Math.Path.{fun_ext}
use Rattle.std.proofs.lemmas.Bool.{ltb-true}
use Rattle.std.specs.Simd.Lanes.{Each1}
use Rattle.std.proofs.lemmas.Simd.{Each1-get_or}
use Rattle.std.proofs.lemmas.List.FromFn.{fill_by_all}
use Rattle.aes_wide.specs.Circuit.{Gate, run, circuit}
use Rattle.aes_wide.specs.Planes.{lanes, made, column}

pub lanes_at : (f : ℕ → ℕ) (j : ℕ) → j < 16 → slice_index (lanes f) j ≡ f j
unfolding lanes
lanes_at f zero h = refl
lanes_at f (suc zero) h = refl
lanes_at f (suc (suc zero)) h = refl
lanes_at f (suc (suc (suc zero))) h = refl
lanes_at f (suc (suc (suc (suc zero)))) h = refl
lanes_at f (suc (suc (suc (suc (suc zero))))) h = refl
lanes_at f (suc (suc (suc (suc (suc (suc zero)))))) h = refl
lanes_at f (suc (suc (suc (suc (suc (suc (suc zero))))))) h = refl
lanes_at f (suc (suc (suc (suc (suc (suc (suc (suc zero)))))))) h = refl
lanes_at f (suc (suc (suc (suc (suc (suc (suc (suc (suc zero))))))))) h = refl
lanes_at f (suc (suc (suc (suc (suc (suc (suc (suc (suc (suc zero)))))))))) h = refl
lanes_at f (suc (suc (suc (suc (suc (suc (suc (suc (suc (suc (suc zero))))))))))) h = refl
lanes_at f (suc (suc (suc (suc (suc (suc (suc (suc (suc (suc (suc (suc zero)))))))))))) h = refl
lanes_at f (suc (suc (suc (suc (suc (suc (suc (suc (suc (suc (suc (suc (suc zero))))))))))))) h = refl
lanes_at f (suc (suc (suc (suc (suc (suc (suc (suc (suc (suc (suc (suc (suc (suc zero)))))))))))))) h = refl
lanes_at f (suc (suc (suc (suc (suc (suc (suc (suc (suc (suc (suc (suc (suc (suc (suc zero))))))))))))))) h = refl
lanes_at f (suc (suc (suc (suc (suc (suc (suc (suc (suc (suc (suc (suc (suc (suc (suc (suc j)))))))))))))))) h = absurd (omega arith)

pub at_lane : (xs : List ℕ) (f : ℕ → ℕ) (j : ℕ) → xs ≡ lanes f → j < 16 → slice_index xs j ≡ f j
at_lane xs f j e h = ap (λ t. slice_index t j) e ∙ lanes_at f j h

pub lanes_whole : (xs : List ℕ) → length xs ≡ 16 → xs ≡ lanes (slice_index xs)
unfolding lanes
lanes_whole xs h = fill_by_all (slice_index xs) xs 16 0 h (λ k _. refl)

pub lane_below : (xs : List ℕ) → length xs ≡ 16 → Each1 (Fits w8) xs → (j : ℕ) → j < 16 → slice_index xs j < 256
lane_below xs long fits j below = let within : j < length xs = omega arith in (Each1-get_or (Fits w8) xs j 0 within fits).fits

cond_same : (t : Bool) (a b : ℕ) → (t ≡ true → a ≡ b) → cond t a 0 ≡ cond t b 0
cond_same true a b h = h refl
cond_same false a b h = refl

abbrev within : (ℕ → ℕ) → ℕ → ℕ
within f j = cond (nat_lt j 16) (f j) 0

-- lanes that agree are equal
pub lanes_same : (f g : ℕ → ℕ) → ((j : ℕ) → j < 16 → f j ≡ g j) → lanes f ≡ lanes g
unfolding lanes
lanes_same f g h =
    let e : within f ≡ within g = fun_ext (λ j. cond_same (nat_lt j 16) (f j) (g j) (λ t. h j (ltb-true j 16 t))) in
    ap lanes e

-- the lanes at an index, of what a circuit made
pub column_made : (gates : List Gate) (outs : List ℕ) (x : List (List ℕ)) (j : ℕ) → j < 16 → column (made gates outs x) j ≡ circuit gates outs (column x j)
column_made gates [] x j h = refl
column_made gates (k ∷ outs) x j h =
    ap (λ y. y ∷ column (made gates outs x) j) (lanes_at (λ i. slice_index (run gates (column x i)) k) j h)
    ∙ ap (λ ys. slice_index (run gates (column x j)) k ∷ ys) (column_made gates outs x j h)

pub column_both : (x y : List (List ℕ)) (j : ℕ) → column (x ++ y) j ≡ column x j ++ column y j
column_both [] y j = refl
column_both (p ∷ x) y j = ap (λ t. slice_index p j ∷ t) (column_both x y j)
