-- The look-ups of the tower, and that they give the S-box, by computing.
use Rattle.std.proofs.Common.{◌≡◌, ℕ, suc, ◌+◌, ◌*◌, ◌/◌, ◌<◌, ◌≤◌, ◌==◌, Bool, true, nat_le, nat_lt, ◌||◌, List, [], ◌∷◌, length, map, refl, ◌∙◌, arith, Fits, w8}
use lib.Dec.{T}
use Rattle.std.specs.Int.Bits.{bit_xor}
use Rattle.std.specs.Simd.Lanes.{Each1, zip2}
use Rattle.std.proofs.lemmas.Bool.{agree_below, agree_below_at, and_parts}
use Rattle.std.proofs.lemmas.Simd.{SwzOk, swz_l, SwzOk-from_Each1, zip2_of_maps, map-map}
use Rattle.aes_core.specs.Field.{x_times, times_bits, times, inverse_up_to, inverse, affine, sub_byte}
use Rattle.aes_core.specs.Tower.{is_place, are_places, look, low, high, to_tower, over_high, over_both, first, second, out}
use Rattle.aes_core.specs.Laws.FieldLaws.{same_at}

-- ---- a look-up

pub look_is : (xs js : List ℕ) (i : ℕ) → i + length js ≤ 16 → swz_l w8 16 xs i js ≡ map (look xs) js
look_is xs [] i h = refl
look_is xs (j ∷ js) i h =
    let row : 16 * (i / 16) + j ≡ j = omega arith in
    rw (row, look_is xs js (suc i) (omega arith)) refl

is_true : (b : Bool) → b ≡ true → T b
is_true b e = rw e tt

each_place : (js : List ℕ) → are_places js ≡ true → Each1 (λ j. T (nat_le 128 j || nat_lt j 16)) js
each_place [] h = tt
each_place (j ∷ js) h =
    let both = and_parts (is_place j) (are_places js) h in
    (is_true (is_place j) both.0, each_place js both.1)

pub look_ok : (js : List ℕ) → length js ≡ 16 → are_places js ≡ true → SwzOk w8 16 16 0 js
look_ok js size h = SwzOk-from_Each1 w8 16 1 16 0 js refl (omega arith) (each_place js h)

-- ---- bytes

pub places_ok : (g : ℕ → ℕ) (xs : List ℕ) → agree_below (λ b. is_place (g b)) (λ _. true) 256 ≡ true → Each1 (Fits w8) xs → are_places (map g xs) ≡ true
places_ok g [] all fits = refl
places_ok g (x ∷ xs) all fits =
    let here : is_place (g x) ≡ true = agree_below_at (λ b. is_place (g b)) (λ _. true) 256 x all (fits.0).fits in
    rw (here, places_ok g xs all fits.1) refl

pub map_same : (f g : ℕ → ℕ) (xs : List ℕ) → ((b : ℕ) → b < 256 → f b ≡ g b) → Each1 (Fits w8) xs → map f xs ≡ map g xs
map_same f g [] same fits = refl
map_same f g (x ∷ xs) same fits = rw (same x (fits.0).fits, map_same f g xs same fits.1) refl

pub low_places : agree_below (λ b. is_place (low b)) (λ _. true) 256 ≡ true
low_places = refl

pub high_places : agree_below (λ b. is_place (high b)) (λ _. true) 256 ≡ true
high_places = refl

pub both_places : agree_below (λ b. is_place (bit_xor (high b) (low b))) (λ _. true) 256 ≡ true
both_places = refl

pub over_high_places : agree_below (λ b. is_place (over_high b)) (λ _. true) 256 ≡ true
over_high_places = refl

pub over_both_places : agree_below (λ b. is_place (over_both b)) (λ _. true) 256 ≡ true
over_both_places = refl

pub first_places : agree_below (λ b. is_place (first b)) (λ _. true) 256 ≡ true
unfolding first
first_places = refl

pub second_places : agree_below (λ b. is_place (second b)) (λ _. true) 256 ≡ true
unfolding second
second_places = refl

-- ---- the S-box

boxed_same : agree_below (λ b. bit_xor (out (to_tower b)) 0x63 == sub_byte b) (λ _. true) 256 ≡ true
unfolding out first second to_tower sub_byte affine inverse inverse_up_to times times_bits x_times
boxed_same = refl

pub boxed_at : (b : ℕ) → b < 256 → bit_xor (out (to_tower b)) 0x63 ≡ sub_byte b
boxed_at b below = same_at (λ k. bit_xor (out (to_tower k)) 0x63) sub_byte 256 b boxed_same below

-- ---- vectors

pub sum_of_looks : (t u : List ℕ) (g h : ℕ → ℕ) (x a b : List ℕ) → a ≡ map (look t) (map g x) → b ≡ map (look u) (map h x) →
    zip2 bit_xor a b ≡ map (λ v. bit_xor (look t (g v)) (look u (h v))) x
sum_of_looks t u g h x a b is_a is_b =
    zip2_of_maps bit_xor (λ v. look t (g v)) (λ v. look u (h v)) x (is_a ∙ map-map (look t) g x) (is_b ∙ map-map (look u) h x)

pub sum_of_look : (t : List ℕ) (g h : ℕ → ℕ) (x a b : List ℕ) → a ≡ map (look t) (map g x) → b ≡ map h x → zip2 bit_xor a b ≡ map (λ v. bit_xor (look t (g v)) (h v)) x
sum_of_look t g h x a b is_a is_b = zip2_of_maps bit_xor (λ v. look t (g v)) h x (is_a ∙ map-map (look t) g x) is_b
