-- A round on one block in the tower is the standard's round.
use Rattle.std.proofs.Common.{◌≡◌, ℕ, ◌+◌, ◌*◌, ◌%◌, ◌<◌, ◌==◌, true, List, [], ◌∷◌, map, length, replicate, refl, sym, ◌∙◌, ap, arith, Fits, w8}
use Rattle.std.specs.Int.Bits.{bit_xor, xor_assoc, xor_zero_r}
use Rattle.std.specs.Simd.Lanes.{Each1}
use Rattle.std.proofs.lemmas.Nat.{xor_comm}
use Rattle.std.proofs.lemmas.Bool.{agree_below, agree_below_at}
use Rattle.std.proofs.lemmas.Bool.Decides.{Decides-eqb}
use Rattle.aes_core.specs.Block.{IsBytes, IsBlock}
use Rattle.aes_core.specs.Field.{x_times, times_bits, times, inverse_up_to, inverse, affine, sub_byte}
use Rattle.aes_core.specs.State.{byte_at, state_of, sub_bytes, shift_rows, mixed, mix_columns, add_round_key}
use Rattle.aes_core.specs.Tower.{to_tower, first, second, once, twice, out}
use Rattle.aes_core.specs.Laws.FieldLaws.{same_at, x_times_byte, sum_byte, sub_byte_byte, times_sum, mixed_byte, sum4_of, add_undone}
use Rattle.aes_core.specs.Laws.StateLaws.{block_is, bytes_cons, bytes_none}
use Rattle.aes_core.specs.Laws.XorSums.{interchange, same_sums}
use Rattle.aes_core.specs.Laws.XorSums.Sum.{None_of, Term, Both}
use Rattle.aes_wide.specs.Steps.{turned, constant}
use Rattle.aes_wide.specs.Single.{towered}
use Rattle.aes_wide.proofs.Standing.{sub_shifted}
use Rattle.aes_wide.proofs.StepLemmas.{same_states}

pub row_block : (xs : List ℕ) → length xs ≡ 16 → Each1 (Fits w8) xs → IsBlock xs
row_block xs long fits = record { whole = long; bytes = row_bytes xs fits }
  where
    row_bytes : (ys : List ℕ) → Each1 (Fits w8) ys → IsBytes ys
    row_bytes [] h = bytes_none
    row_bytes (y ∷ ys) h = bytes_cons y ys (h.0).fits (row_bytes ys h.1)

-- ---- bytes in the tower

pairs_same : agree_below (λ a. agree_below (λ b. to_tower (bit_xor a b) == bit_xor (to_tower a) (to_tower b)) (λ _. true) 256) (λ _. true) 256 ≡ true
unfolding to_tower
pairs_same = refl

pub tower_sum : (a b : ℕ) → a < 256 → b < 256 → bit_xor (to_tower a) (to_tower b) ≡ to_tower (bit_xor a b)
tower_sum a b la lb =
    sym ((Decides-eqb (to_tower (bit_xor a b)) (bit_xor (to_tower a) (to_tower b))).0
    (agree_below_at (λ n. to_tower (bit_xor a n) == bit_xor (to_tower a) (to_tower n)) (λ _. true) 256 b
    (agree_below_at (λ m. agree_below (λ n. to_tower (bit_xor m n) == bit_xor (to_tower m) (to_tower n)) (λ _. true) 256) (λ _. true) 256 a pairs_same la) lb))

-- the S-box without its constant
abbrev pub boxed : ℕ → ℕ
boxed b = bit_xor (sub_byte b) 0x63

boxed_byte : (b : ℕ) → b < 256 → boxed b < 256
boxed_byte b below = sum_byte (sub_byte b) 0x63 (sub_byte_byte b below) (omega arith)

once_same : agree_below (λ b. once (to_tower b) == to_tower (boxed b)) (λ _. true) 256 ≡ true
unfolding once first second to_tower sub_byte affine inverse inverse_up_to times times_bits x_times
once_same = refl

once_at : (b : ℕ) → b < 256 → once (to_tower b) ≡ to_tower (boxed b)
once_at b below = same_at (λ k. once (to_tower k)) (λ k. to_tower (boxed k)) 256 b once_same below

twice_same : agree_below (λ b. twice (to_tower b) == to_tower (x_times (boxed b))) (λ _. true) 256 ≡ true
unfolding twice first second to_tower sub_byte affine inverse inverse_up_to times times_bits x_times
twice_same = refl

twice_at : (b : ℕ) → b < 256 → twice (to_tower b) ≡ to_tower (x_times (boxed b))
twice_at b below = same_at (λ k. twice (to_tower k)) (λ k. to_tower (x_times (boxed k))) 256 b twice_same below

out_same : agree_below (λ b. out (to_tower b) == boxed b) (λ _. true) 256 ≡ true
unfolding out first second to_tower sub_byte affine inverse inverse_up_to times times_bits x_times
out_same = refl

out_at : (b : ℕ) → b < 256 → out (to_tower b) ≡ boxed b
out_at b below = same_at (λ k. out (to_tower k)) boxed 256 b out_same below

-- ---- MixColumns

mixed_plain : (a b c d : ℕ) → bit_xor (bit_xor (bit_xor (x_times a) b) (bit_xor (x_times b) c)) d ≡ mixed a b c d
unfolding mixed times times_bits
mixed_plain a b c d =
    same_sums (a ∷ b ∷ c ∷ d ∷ x_times a ∷ x_times b ∷ [])
    (Both (Both (Both (Term 4) (Term 1)) (Both (Term 5) (Term 2))) (Term 3))
    (sum4_of (Both (Term 4) None_of) (Both (Term 1) (Both (Term 5) None_of)) (Term 2) (Term 3))
    refl

mixed_moved : (a b c d u : ℕ) → a < 256 → b < 256 → u < 256 → mixed (bit_xor a u) (bit_xor b u) (bit_xor c u) (bit_xor d u) ≡ bit_xor (mixed a b c d) (mixed u u u u)
unfolding mixed
mixed_moved a b c d u la lb lu =
    rw (times_sum 2 a u la lu, times_sum 3 b u lb lu, interchange (times 2 a) (times 2 u) (times 3 b) (times 3 u))
    (ap (λ t. bit_xor t (bit_xor d u)) (interchange (bit_xor (times 2 a) (times 3 b)) (bit_xor (times 2 u) (times 3 u)) c u)
    ∙ interchange (bit_xor (bit_xor (times 2 a) (times 3 b)) c) (bit_xor (bit_xor (times 2 u) (times 3 u)) u) d u)

constant_mixed : mixed 0x63 0x63 0x63 0x63 ≡ 0x63
unfolding mixed times times_bits x_times
constant_mixed = refl

round_byte : (a b c d k : ℕ) → a < 256 → b < 256 → c < 256 → d < 256 → k < 256 →
    bit_xor (bit_xor (bit_xor (bit_xor (to_tower (x_times a)) (to_tower b)) (bit_xor (to_tower (x_times b)) (to_tower c))) (to_tower d)) (to_tower (bit_xor k 0x63))
    ≡ to_tower (bit_xor (mixed (bit_xor a 0x63) (bit_xor b 0x63) (bit_xor c 0x63) (bit_xor d 0x63)) k)
round_byte a b c d k la lb lc ld lk =
    let lu : 0x63 < 256 = omega arith in
    let p : ℕ = bit_xor (x_times a) b in
    let q : ℕ = bit_xor (x_times b) c in
    let lp : p < 256 = sum_byte (x_times a) b (x_times_byte a la) lb in
    let lq : q < 256 = sum_byte (x_times b) c (x_times_byte b lb) lc in
    let m : ℕ = mixed a b c d in
    let lm : m < 256 = mixed_byte a b c d la lb lc ld in
    let first : bit_xor (to_tower (x_times a)) (to_tower b) ≡ to_tower p = tower_sum (x_times a) b (x_times_byte a la) lb in
    let next : bit_xor (to_tower (x_times b)) (to_tower c) ≡ to_tower q = tower_sum (x_times b) c (x_times_byte b lb) lc in
    let both : bit_xor (to_tower p) (to_tower q) ≡ to_tower (bit_xor p q) = tower_sum p q lp lq in
    let all : bit_xor (to_tower (bit_xor p q)) (to_tower d) ≡ to_tower m = tower_sum (bit_xor p q) d (sum_byte p q lp lq) ld ∙ ap to_tower (mixed_plain a b c d) in
    let keyed : bit_xor (to_tower m) (to_tower (bit_xor k 0x63)) ≡ to_tower (bit_xor m (bit_xor k 0x63)) = tower_sum m (bit_xor k 0x63) lm (sum_byte k 0x63 lk lu) in
    let moved : bit_xor m (bit_xor k 0x63) ≡ bit_xor (bit_xor m 0x63) k = ap (λ t. bit_xor m t) (xor_comm k 0x63) ∙ sym (xor_assoc m 0x63 k) in
    let constants : bit_xor m 0x63 ≡ mixed (bit_xor a 0x63) (bit_xor b 0x63) (bit_xor c 0x63) (bit_xor d 0x63) =
    sym (mixed_moved a b c d 0x63 la lb lu ∙ ap (λ t. bit_xor m t) constant_mixed) in
    ap (λ t. bit_xor (bit_xor (bit_xor t (bit_xor (to_tower (x_times b)) (to_tower c))) (to_tower d)) (to_tower (bit_xor k 0x63))) first
    ∙ ap (λ t. bit_xor (bit_xor (bit_xor (to_tower p) t) (to_tower d)) (to_tower (bit_xor k 0x63))) next
    ∙ ap (λ t. bit_xor (bit_xor t (to_tower d)) (to_tower (bit_xor k 0x63))) both
    ∙ ap (λ t. bit_xor t (to_tower (bit_xor k 0x63))) all
    ∙ keyed
    ∙ ap to_tower (moved ∙ ap (λ t. bit_xor t k) constants)

-- ---- blocks

pub constant_row : replicate 16 0x63 ≡ constant
unfolding constant state_of
constant_row = refl

pub summed_long : (a b : List ℕ) → length (add_round_key a b) ≡ 16
unfolding add_round_key state_of
summed_long a b = refl

pub map_towered : (s : List ℕ) → length s ≡ 16 → map to_tower s ≡ towered s
unfolding towered state_of
map_towered s long = ap (map to_tower) (block_is s long)

pub shifted_towered : (s : List ℕ) → shift_rows (towered s) ≡ towered (shift_rows s)
unfolding shift_rows towered state_of
shifted_towered s = refl

abbrev once_block : List ℕ → List ℕ
once_block x = state_of (λ r c. to_tower (boxed (byte_at x r c)))

abbrev twice_block : List ℕ → List ℕ
twice_block x = state_of (λ r c. to_tower (x_times (boxed (byte_at x r c))))

once_is : (x : List ℕ) → IsBytes x → map once (towered x) ≡ once_block x
unfolding towered state_of
once_is x h = same_states (λ r c. once (to_tower (byte_at x r c))) (λ r c. to_tower (boxed (byte_at x r c))) (λ r c. once_at (byte_at x r c) (h (r + 4 * c)))

twice_is : (x : List ℕ) → IsBytes x → map twice (towered x) ≡ twice_block x
unfolding towered state_of
twice_is x h = same_states (λ r c. twice (to_tower (byte_at x r c))) (λ r c. to_tower (x_times (boxed (byte_at x r c)))) (λ r c. twice_at (byte_at x r c) (h (r + 4 * c)))

out_is : (x : List ℕ) → IsBytes x → map out (towered x) ≡ state_of (λ r c. boxed (byte_at x r c))
unfolding towered state_of
out_is x h = same_states (λ r c. out (to_tower (byte_at x r c))) (λ r c. boxed (byte_at x r c)) (λ r c. out_at (byte_at x r c) (h (r + 4 * c)))

abbrev half : List ℕ → List ℕ → List ℕ
half once twice = add_round_key twice (turned 1 once)

mixed_lane : (x k : List ℕ) (r c : ℕ) → IsBytes x → IsBytes k →
    bit_xor (bit_xor (bit_xor (bit_xor (to_tower (x_times (boxed (byte_at x r c)))) (to_tower (boxed (byte_at x ((r + 1) % 4) c))))
    (bit_xor (to_tower (x_times (boxed (byte_at x ((r + 1) % 4) c)))) (to_tower (boxed (byte_at x ((r + 2) % 4) c))))) (to_tower (boxed (byte_at x ((r + 3) % 4) c))))
    (to_tower (bit_xor (byte_at k r c) 0x63))
    ≡ to_tower (bit_xor (mixed (sub_byte (byte_at x r c)) (sub_byte (byte_at x ((r + 1) % 4) c)) (sub_byte (byte_at x ((r + 2) % 4) c)) (sub_byte (byte_at x ((r + 3) % 4) c))) (byte_at k r c))
mixed_lane x k r c h l =
    let e : (n : ℕ) → bit_xor (boxed n) 0x63 ≡ sub_byte n = λ n. add_undone (sub_byte n) 0x63 in
    let low : (i : ℕ) → boxed (byte_at x i c) < 256 = λ i. boxed_byte (byte_at x i c) (h (i + 4 * c)) in
    let whole =
    round_byte (boxed (byte_at x r c)) (boxed (byte_at x ((r + 1) % 4) c)) (boxed (byte_at x ((r + 2) % 4) c)) (boxed (byte_at x ((r + 3) % 4) c)) (byte_at k r c)
    (low r) (low ((r + 1) % 4)) (low ((r + 2) % 4)) (low ((r + 3) % 4)) (l (r + 4 * c)) in
    whole
    ∙ ap (λ t. to_tower (bit_xor (mixed t (bit_xor (boxed (byte_at x ((r + 1) % 4) c)) 0x63) (bit_xor (boxed (byte_at x ((r + 2) % 4) c)) 0x63) (bit_xor (boxed (byte_at x ((r + 3) % 4) c)) 0x63)) (byte_at k r c))) (e (byte_at x r c))
    ∙ ap (λ t. to_tower (bit_xor (mixed (sub_byte (byte_at x r c)) t (bit_xor (boxed (byte_at x ((r + 2) % 4) c)) 0x63) (bit_xor (boxed (byte_at x ((r + 3) % 4) c)) 0x63)) (byte_at k r c))) (e (byte_at x ((r + 1) % 4) c))
    ∙ ap (λ t. to_tower (bit_xor (mixed (sub_byte (byte_at x r c)) (sub_byte (byte_at x ((r + 1) % 4) c)) t (bit_xor (boxed (byte_at x ((r + 3) % 4) c)) 0x63)) (byte_at k r c))) (e (byte_at x ((r + 2) % 4) c))
    ∙ ap (λ t. to_tower (bit_xor (mixed (sub_byte (byte_at x r c)) (sub_byte (byte_at x ((r + 1) % 4) c)) (sub_byte (byte_at x ((r + 2) % 4) c)) t) (byte_at k r c))) (e (byte_at x ((r + 3) % 4) c))

mixed_is : (x k : List ℕ) → IsBytes x → IsBytes k →
    add_round_key (add_round_key (add_round_key (half (once_block x) (twice_block x)) (turned 1 (half (once_block x) (twice_block x)))) (turned 3 (once_block x))) (towered (add_round_key k constant))
    ≡ towered (add_round_key (mix_columns (sub_bytes x)) k)
unfolding add_round_key turned towered mix_columns sub_bytes constant state_of
mixed_is x k h l =
    same_states
    (λ r c. bit_xor (bit_xor (bit_xor (bit_xor (to_tower (x_times (boxed (byte_at x r c)))) (to_tower (boxed (byte_at x ((r + 1) % 4) c))))
    (bit_xor (to_tower (x_times (boxed (byte_at x ((r + 1) % 4) c)))) (to_tower (boxed (byte_at x ((r + 2) % 4) c))))) (to_tower (boxed (byte_at x ((r + 3) % 4) c))))
    (to_tower (bit_xor (byte_at k r c) 0x63)))
    (λ r c. to_tower (bit_xor (mixed (sub_byte (byte_at x r c)) (sub_byte (byte_at x ((r + 1) % 4) c)) (sub_byte (byte_at x ((r + 2) % 4) c)) (sub_byte (byte_at x ((r + 3) % 4) c))) (byte_at k r c)))
    (λ r c. mixed_lane x k r c h l)

-- the sums of a round in the order in which they are made
other_order : (h t k g : ℕ) → bit_xor (bit_xor h (bit_xor t k)) g ≡ bit_xor (bit_xor (bit_xor h g) t) k
other_order h t k g =
    same_sums (h ∷ t ∷ k ∷ g ∷ []) (Both (Both (Term 0) (Both (Term 1) (Term 2))) (Term 3)) (Both (Both (Both (Term 0) (Term 3)) (Term 1)) (Term 2)) refl

other_block : (h t k g : List ℕ) → add_round_key (add_round_key h (add_round_key t k)) g ≡ add_round_key (add_round_key (add_round_key h g) t) k
unfolding add_round_key state_of
other_block h t k g =
    same_states (λ r c. bit_xor (bit_xor (byte_at h r c) (bit_xor (byte_at t r c) (byte_at k r c))) (byte_at g r c))
    (λ r c. bit_xor (bit_xor (bit_xor (byte_at h r c) (byte_at g r c)) (byte_at t r c)) (byte_at k r c))
    (λ r c. other_order (byte_at h r c) (byte_at t r c) (byte_at k r c) (byte_at g r c))

once_shifted : (s : List ℕ) → shift_rows (once_block s) ≡ once_block (shift_rows s)
unfolding shift_rows state_of
once_shifted s = refl

twice_shifted : (s : List ℕ) → shift_rows (twice_block s) ≡ twice_block (shift_rows s)
unfolding shift_rows state_of
twice_shifted s = refl

-- a round, from what its steps gave
pub round_is : (s k y a d : List ℕ) → IsBytes s → IsBytes (shift_rows s) → IsBytes k → y ≡ towered s → a ≡ map once y → d ≡ map twice y →
    add_round_key (add_round_key (half (shift_rows a) (shift_rows d)) (add_round_key (turned 3 (shift_rows a)) (towered (add_round_key k constant)))) (turned 1 (half (shift_rows a) (shift_rows d)))
    ≡ towered (add_round_key (mix_columns (shift_rows (sub_bytes s))) k)
round_is s k y a d h hs l is is_a is_d =
    let x = shift_rows s in
    let ea : shift_rows a ≡ once_block x = ap shift_rows (is_a ∙ ap (map once) is ∙ once_is s h) ∙ once_shifted s in
    let ed : shift_rows d ≡ twice_block x = ap shift_rows (is_d ∙ ap (map twice) is ∙ twice_is s h) ∙ twice_shifted s in
    let e = half (shift_rows a) (shift_rows d) in
    other_block e (turned 3 (shift_rows a)) (towered (add_round_key k constant)) (turned 1 e)
    ∙ rw (ea, ed) (mixed_is x k hs l)
    ∙ ap (λ t. towered (add_round_key (mix_columns t) k)) (sub_shifted s)

last_lane : (s k : ℕ) → bit_xor (bit_xor s 0x63) (bit_xor k 0x63) ≡ bit_xor s k
last_lane s k = interchange s 0x63 k 0x63 ∙ xor_zero_r (bit_xor s k)

last_block : (x k : List ℕ) → add_round_key (state_of (λ r c. boxed (byte_at x r c))) (add_round_key k constant) ≡ add_round_key (sub_bytes x) k
unfolding add_round_key sub_bytes constant state_of
last_block x k =
    same_states (λ r c. bit_xor (boxed (byte_at x r c)) (bit_xor (byte_at k r c) 0x63)) (λ r c. bit_xor (sub_byte (byte_at x r c)) (byte_at k r c))
    (λ r c. last_lane (sub_byte (byte_at x r c)) (byte_at k r c))

pub last_is : (s k shifted a : List ℕ) → IsBytes (shift_rows s) → shifted ≡ towered (shift_rows s) → a ≡ map out shifted →
    add_round_key a (add_round_key k constant) ≡ add_round_key (shift_rows (sub_bytes s)) k
last_is s k shifted a h is is_a =
    let x = shift_rows s in
    ap (λ t. add_round_key t (add_round_key k constant)) (is_a ∙ ap (map out) is ∙ out_is x h) ∙ last_block x k ∙ ap (λ t. add_round_key t k) (sub_shifted s)

summed_lane : (a b : ℕ) → a < 256 → b < 256 → bit_xor (to_tower a) (to_tower b) ≡ to_tower (bit_xor a b)
summed_lane a b la lb = tower_sum a b la lb

-- the first round key
pub begun_in_tower : (x k : List ℕ) → IsBytes x → IsBytes k → add_round_key (towered x) (towered k) ≡ towered (add_round_key x k)
unfolding add_round_key towered state_of
begun_in_tower x k h l =
    same_states (λ r c. bit_xor (to_tower (byte_at x r c)) (to_tower (byte_at k r c))) (λ r c. to_tower (bit_xor (byte_at x r c) (byte_at k r c)))
    (λ r c. summed_lane (byte_at x r c) (byte_at k r c) (h (r + 4 * c)) (l (r + 4 * c)))
