-- Two rows interleaved.
use Rattle.std.proofs.Common.{◌≡◌, ℕ, zero, suc, ◌+◌, ◌-◌, ◌*◌, ◌/◌, ◌%◌, ◌<◌, ◌≤◌, ◌==◌, List, [], ◌∷◌, ◌++◌, length, get_or, true, refl, ap, ◌∙◌, arith}
use Rattle.std.proofs.Math.ListN.{set}
use Rattle.std.proofs.lemmas.List.{get_or-map, get_or-append_right, get_or_append_left}
use Rattle.std.proofs.lemmas.Bool.{agree_below, agree_below_at}
use lib.Lanes.{pick_l}
use Rattle.ghash.specs.Lanes.{byte_in, IsRow, IsGrid}
use Rattle.ghash.proofs.Linear.{same_at}
use Rattle.ghash.proofs.Gather.{Filled, one_filled}

abbrev pub first : List ℕ
first = 0 ∷ 16 ∷ 1 ∷ 17 ∷ 2 ∷ 18 ∷ 3 ∷ 19 ∷ 4 ∷ 20 ∷ 5 ∷ 21 ∷ 6 ∷ 22 ∷ 7 ∷ 23 ∷ []

abbrev pub second : List ℕ
second = 8 ∷ 24 ∷ 9 ∷ 25 ∷ 10 ∷ 26 ∷ 11 ∷ 27 ∷ 12 ∷ 28 ∷ 13 ∷ 29 ∷ 14 ∷ 30 ∷ 15 ∷ 31 ∷ []

first_places : agree_below (λ l. get_or first l 0 == 16 * (l % 2) + (0 + l / 2)) (λ _. true) 16 ≡ true
first_places = refl

second_places : agree_below (λ l. get_or second l 0 == 16 * (l % 2) + (8 + l / 2)) (λ _. true) 16 ≡ true
second_places = refl

-- a place in the one or in the other
joined : (u v : List ℕ) (r k : ℕ) → length u ≡ 16 → r < 2 → k < 16 → (x : List (List ℕ)) (i : ℕ) → u ≡ get_or x i [] → v ≡ get_or x (i + 8) []
    → get_or (u ++ v) (16 * r + k) 0 ≡ byte_in x (r * 8 + i) k
joined u v zero k len h j x i eu ev =
    let place : 16 * 0 + k ≡ k = omega arith in
    let row : 0 * 8 + i ≡ i = omega arith in
    rw (place, row) (get_or_append_left u v 0 k (omega arith) ∙ ap (λ (t : List ℕ). get_or t k 0) eu)
joined u v (suc zero) k len h j x i eu ev =
    let place : 16 * suc zero + k - 16 ≡ k = omega arith in
    let row : i + 8 ≡ suc zero * 8 + i = omega arith in
    get_or-append_right u v 16 (16 * suc zero + k) 0 len (omega arith)
    ∙ ap (λ (n : ℕ). get_or v n 0) place ∙ ap (λ (t : List ℕ). get_or t k 0) ev ∙ ap (λ (n : ℕ). byte_in x n k) row
joined u v (suc (suc r)) k len h j x i eu ev = absurd (omega arith)

picked : (x : List (List ℕ)) (i from : ℕ) (ks : List ℕ) → IsGrid x → i < 8 → from ≤ 8 → length ks ≡ 16
    → ((l : ℕ) → l < 16 → get_or ks l 0 ≡ 16 * (l % 2) + (from + l / 2))
    → (l : ℕ) → l < 16 → get_or (pick_l 0 (get_or x i [] ++ get_or x (i + 8) []) ks) l 0 ≡ byte_in x ((l % 2) * 8 + i) (from + l / 2)
picked x i from ks g h f len places l k =
    get_or-map (λ n. get_or (get_or x i [] ++ get_or x (i + 8) []) n 0) ks l 0 0 (omega arith)
    ∙ ap (λ (n : ℕ). get_or (get_or x i [] ++ get_or x (i + 8) []) n 0) (places l k)
    ∙ joined (get_or x i []) (get_or x (i + 8) []) (l % 2) (from + l / 2) (g.rows i (omega arith)).count (omega arith) (omega arith) x i refl refl

picked_row : (x : List (List ℕ)) (i from : ℕ) (row : List ℕ) → IsGrid x → i < 8 → from ≤ 8 → length row ≡ 16
    → ((l : ℕ) → l < 16 → get_or row l 0 ≡ byte_in x ((l % 2) * 8 + i) (from + l / 2)) → IsRow row
picked_row x i from row g h f len is = record {
  count = len;
  bytes = λ l k. rw (is l k) ((g.rows ((l % 2) * 8 + i) (omega arith)).bytes (from + l / 2) (omega arith));
}

abbrev pub weave : List (List ℕ) → ℕ → ℕ → ℕ
weave x p l = byte_in x ((l % 2) * 8 + p / 2) ((p % 2) * 8 + l / 2)

pub two_filled : (x y : List (List ℕ)) (i : ℕ) → IsGrid x → i < 8 → Filled y (2 * i) (weave x)
    → Filled (set (set y (2 * i) (pick_l 0 (get_or x i [] ++ get_or x (i + 8) []) first)) (2 * i + 1) (pick_l 0 (get_or x i [] ++ get_or x (i + 8) []) second)) (2 * (i + 1)) (weave x)
two_filled x y i g h filled =
    let evens = picked x i 0 first g h (omega arith) refl (λ l k. same_at (λ l. get_or first l 0) (λ l. 16 * (l % 2) + (0 + l / 2)) 16 l first_places k) in
    let odds = picked x i 8 second g h (omega arith) refl (λ l k. same_at (λ l. get_or second l 0) (λ l. 16 * (l % 2) + (8 + l / 2)) 16 l second_places k) in
    let even_row : 2 * i / 2 ≡ i = omega arith in
    let even_half : (2 * i) % 2 * 8 ≡ 0 = omega arith in
    let odd_row : (2 * i + 1) / 2 ≡ i = omega arith in
    let odd_half : (2 * i + 1) % 2 * 8 ≡ 8 = omega arith in
    let end : 2 * i + 1 + 1 ≡ 2 * (i + 1) = omega arith in
    let one : Filled (set y (2 * i) (pick_l 0 (get_or x i [] ++ get_or x (i + 8) []) first)) (2 * i + 1) (weave x) =
    one_filled y (2 * i) (pick_l 0 (get_or x i [] ++ get_or x (i + 8) []) first) (weave x) filled (omega arith) (picked_row x i 0 (pick_l 0 (get_or x i [] ++ get_or x (i + 8) []) first) g h (omega arith) refl evens)
    (λ l k. rw (even_row, even_half) (evens l k)) in
    rw end at (one_filled (set y (2 * i) (pick_l 0 (get_or x i [] ++ get_or x (i + 8) []) first)) (2 * i + 1) (pick_l 0 (get_or x i [] ++ get_or x (i + 8) []) second) (weave x) one (omega arith)
    (picked_row x i 8 (pick_l 0 (get_or x i [] ++ get_or x (i + 8) []) second) g h (omega arith) refl odds) (λ l k. rw (odd_row, odd_half) (odds l k)))

-- ---- four times woven is turned

abbrev back_row : ℕ → ℕ → ℕ
back_row p l = (l % 2) * 8 + p / 2

abbrev back_lane : ℕ → ℕ → ℕ
back_lane p l = (p % 2) * 8 + l / 2

abbrev four_row : ℕ → ℕ → ℕ
four_row p l = back_row (back_row (back_row (back_row p l) (back_lane p l)) (back_lane (back_row p l) (back_lane p l))) (back_lane (back_row (back_row p l) (back_lane p l)) (back_lane (back_row p l) (back_lane p l)))

abbrev four_lane : ℕ → ℕ → ℕ
four_lane p l = back_lane (back_row (back_row (back_row p l) (back_lane p l)) (back_lane (back_row p l) (back_lane p l))) (back_lane (back_row (back_row p l) (back_lane p l)) (back_lane (back_row p l) (back_lane p l)))

rows_agree : agree_below (λ p. agree_below (λ l. four_row p l == l) (λ _. true) 16) (λ _. true) 16 ≡ true
rows_agree = refl

lanes_agree : agree_below (λ p. agree_below (λ l. four_lane p l == p) (λ _. true) 16) (λ _. true) 16 ≡ true
lanes_agree = refl

rows_at : (p l : ℕ) → p < 16 → l < 16 → four_row p l ≡ l
rows_at p l hp hl = same_at (λ l. four_row p l) (λ l. l) 16 l (agree_below_at (λ p. agree_below (λ l. four_row p l == l) (λ _. true) 16) (λ _. true) 16 p rows_agree hp) hl

lanes_at : (p l : ℕ) → p < 16 → l < 16 → four_lane p l ≡ p
lanes_at p l hp hl = same_at (λ l. four_lane p l) (λ l. p) 16 l (agree_below_at (λ p. agree_below (λ l. four_lane p l == p) (λ _. true) 16) (λ _. true) 16 p lanes_agree hp) hl

pub turned_is : (x a b c y : List (List ℕ))
    → ((p l : ℕ) → p < 16 → l < 16 → byte_in a p l ≡ byte_in x ((l % 2) * 8 + p / 2) ((p % 2) * 8 + l / 2))
    → ((p l : ℕ) → p < 16 → l < 16 → byte_in b p l ≡ byte_in a ((l % 2) * 8 + p / 2) ((p % 2) * 8 + l / 2))
    → ((p l : ℕ) → p < 16 → l < 16 → byte_in c p l ≡ byte_in b ((l % 2) * 8 + p / 2) ((p % 2) * 8 + l / 2))
    → ((p l : ℕ) → p < 16 → l < 16 → byte_in y p l ≡ byte_in c ((l % 2) * 8 + p / 2) ((p % 2) * 8 + l / 2))
    → (p l : ℕ) → p < 16 → l < 16 → byte_in y p l ≡ byte_in x l p
turned_is x a b c y wa wb wc wy p l hp hl =
    wy p l hp hl
    ∙ wc (back_row p l) (back_lane p l) (omega arith) (omega arith)
    ∙ wb (back_row (back_row p l) (back_lane p l)) (back_lane (back_row p l) (back_lane p l)) (omega arith) (omega arith)
    ∙ wa (back_row (back_row (back_row p l) (back_lane p l)) (back_lane (back_row p l) (back_lane p l))) (back_lane (back_row (back_row p l) (back_lane p l)) (back_lane (back_row p l) (back_lane p l))) (omega arith) (omega arith)
    ∙ ap (λ (n : ℕ). byte_in x n (four_lane p l)) (rows_at p l hp hl) ∙ ap (λ (n : ℕ). byte_in x l n) (lanes_at p l hp hl)
