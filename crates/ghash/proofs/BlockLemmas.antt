-- An element by its bytes is the block read as a number, and back.
use Rattle.std.proofs.Common.{◌≡◌, ℕ, zero, suc, ◌+◌, ◌-◌, ◌*◌, ◌/◌, ◌%◌, ◌^◌, ◌<◌, ◌≤◌, List, [], length, get_or, refl, sym, ap, ◌∙◌, arith, get_or-set_other, get_or-set_same, inl, inr}
use Rattle.std.proofs.lemmas.Nat.{pow-add, pow_pos}
use Rattle.std.proofs.Math.Nat.{div-div-eq-div-mul}
use Rattle.std.specs.Int.{w128, from_be_bytes, to_be_bytes}
use Rattle.std.specs.Int.RustNames.{bit_xor}
use Rattle.ghash.specs.Field.{element, block_of, shifted}
use Rattle.ghash.specs.Lanes.{gathered, byte_in, lane_of, IsRow, IsGrid}
use Rattle.std.proofs.Math.ListN.{set}
use Rattle.std.proofs.lemmas.Bool.{cases_eq}
use Rattle.ghash.proofs.Gather.{shifted_even, sum_apart, gathered-same, gathered-xor, Filled, zeros, zero_grid, set_grid}

-- the number of n bytes, high byte first
abbrev number : (ℕ → ℕ) → ℕ → ℕ
number f zero = 0
number f (suc n) = number f n * 256 + f n

one_byte : (b n : ℕ) → n < 16 → b < 256 → shifted (b * 2 ^ 120) (8 * n) ≡ b * 2 ^ (120 - 8 * n)
one_byte b n h small =
    let places : 120 - 8 * n + 8 * n ≡ 120 = omega arith in
    let power : 2 ^ (120 - 8 * n + 8 * n) ≡ 2 ^ (120 - 8 * n) * 2 ^ (8 * n) = pow-add 2 (120 - 8 * n) (8 * n) in
    let split : 2 ^ 120 ≡ 2 ^ (120 - 8 * n) * 2 ^ (8 * n) = ap (λ (t : ℕ). 2 ^ t) (sym places) ∙ power in
    let whole : b * 2 ^ 120 ≡ b * 2 ^ (120 - 8 * n) * 2 ^ (8 * n) = ap (λ (t : ℕ). b * t) split ∙ regroup b (2 ^ (120 - 8 * n)) (2 ^ (8 * n)) in
    ap (λ (t : ℕ). shifted t (8 * n)) whole ∙ shifted_even (b * 2 ^ (120 - 8 * n)) (8 * n)
  where
    regroup : (b p q : ℕ) → b * (p * q) ≡ b * p * q
    regroup b p q = omega arith

gathered_number : (f : ℕ → ℕ) (n : ℕ) → n ≤ 16 → ((k : ℕ) → k < n → f k < 256) → gathered f n ≡ number f n * 2 ^ (128 - 8 * n)
unfolding gathered
gathered_number f zero h small = refl
gathered_number f (suc n) h small =
    let byte : f n < 256 = small n (omega arith) in
    let place : 128 - 8 * n ≡ 120 - 8 * n + 8 = omega arith in
    let after : 128 - 8 * suc n ≡ 120 - 8 * n = omega arith in
    let power : 2 ^ (120 - 8 * n + 8) ≡ 2 ^ (120 - 8 * n) * 2 ^ 8 = pow-add 2 (120 - 8 * n) 8 in
    let before : number f n * 2 ^ (128 - 8 * n) ≡ number f n * 2 ^ (120 - 8 * n + 8) = ap (λ (t : ℕ). number f n * 2 ^ t) place in
    let room : f n * 2 ^ (120 - 8 * n) < 2 ^ (120 - 8 * n + 8) = rw power (room_8 (f n) (2 ^ (120 - 8 * n)) byte (pow_pos (120 - 8 * n))) in
    rw (gathered_number f n (omega arith) (λ k l. small k (omega arith)), one_byte (f n) n (omega arith) byte, before)
    (sym (sum_apart (number f n) (f n * 2 ^ (120 - 8 * n)) (120 - 8 * n + 8) room)
    ∙ rw (power, after) (regroup (number f n) (f n) (2 ^ (120 - 8 * n))))
  where
    room_8 : (b p : ℕ) → b < 256 → 0 < p → b * p < p * 2 ^ 8
    room_8 b p h k = grind arith

    regroup : (m b p : ℕ) → m * (p * 2 ^ 8) + b * p ≡ (m * 256 + b) * p
    regroup m b p = omega arith

number_is : (bytes : List ℕ) → number (λ p. get_or bytes p 0) 16 ≡ from_be_bytes w128 bytes
number_is bytes = omega arith

pub block_element : (block : List ℕ) → ((p : ℕ) → p < 16 → get_or block p 0 < 256) → gathered (λ p. get_or block p 0) 16 ≡ element block
unfolding element
block_element block small =
    let one : number (λ p. get_or block p 0) 16 * 2 ^ (128 - 8 * 16) ≡ number (λ p. get_or block p 0) 16 = omega arith in
    gathered_number (λ p. get_or block p 0) 16 (omega arith) small ∙ one ∙ number_is block

-- ---- the bytes of a number

number_of_bytes : (v n : ℕ) → v < 2 ^ 128 → n ≤ 16 → number (λ p. v / 256 ^ (15 - p) % 256) n ≡ v / 256 ^ (16 - n)
number_of_bytes v zero h k = omega arith
number_of_bytes v (suc n) h k =
    let place : 16 - n ≡ suc (15 - n) = omega arith in
    let after : 15 - n ≡ 16 - suc n = omega arith in
    let power : 256 ^ suc (15 - n) ≡ 256 ^ (15 - n) * 256 = omega arith in
    let twice : v / (256 ^ (15 - n) * 256) ≡ v / 256 ^ (15 - n) / 256 = sym (div-div-eq-div-mul v (256 ^ (15 - n)) 256) in
    let whole : v / 256 ^ (15 - n) / 256 * 256 + v / 256 ^ (15 - n) % 256 ≡ v / 256 ^ (15 - n) = omega arith in
    ap (λ (t : ℕ). t * 256 + v / 256 ^ (15 - n) % 256) (number_of_bytes v n h (omega arith) ∙ ap (λ (t : ℕ). v / 256 ^ t) place ∙ ap (λ (t : ℕ). v / t) power ∙ twice) ∙ whole ∙ ap (λ (t : ℕ). v / 256 ^ t) after

bytes_at : (v : ℕ) (p : ℕ) → p < 16 → get_or (to_be_bytes w128 v) p 0 ≡ v / 256 ^ (15 - p) % 256
bytes_at v zero h = refl
bytes_at v (suc zero) h = refl
bytes_at v (suc (suc zero)) h = refl
bytes_at v (suc (suc (suc zero))) h = refl
bytes_at v (suc (suc (suc (suc zero)))) h = refl
bytes_at v (suc (suc (suc (suc (suc zero))))) h = refl
bytes_at v (suc (suc (suc (suc (suc (suc zero)))))) h = refl
bytes_at v (suc (suc (suc (suc (suc (suc (suc zero))))))) h = refl
bytes_at v (suc (suc (suc (suc (suc (suc (suc (suc zero)))))))) h = refl
bytes_at v (suc (suc (suc (suc (suc (suc (suc (suc (suc zero))))))))) h = refl
bytes_at v (suc (suc (suc (suc (suc (suc (suc (suc (suc (suc zero)))))))))) h = refl
bytes_at v (suc (suc (suc (suc (suc (suc (suc (suc (suc (suc (suc zero))))))))))) h = refl
bytes_at v (suc (suc (suc (suc (suc (suc (suc (suc (suc (suc (suc (suc zero)))))))))))) h = refl
bytes_at v (suc (suc (suc (suc (suc (suc (suc (suc (suc (suc (suc (suc (suc zero))))))))))))) h = refl
bytes_at v (suc (suc (suc (suc (suc (suc (suc (suc (suc (suc (suc (suc (suc (suc zero)))))))))))))) h = refl
bytes_at v (suc (suc (suc (suc (suc (suc (suc (suc (suc (suc (suc (suc (suc (suc (suc zero))))))))))))))) h = omega arith
bytes_at v (suc (suc (suc (suc (suc (suc (suc (suc (suc (suc (suc (suc (suc (suc (suc (suc p)))))))))))))))) h = absurd (omega arith)

pub value_back : (v : ℕ) → v < 2 ^ 128 → gathered (λ p. get_or (block_of v) p 0) 16 ≡ v
unfolding block_of
value_back v h =
    let one : number (λ p. v / 256 ^ (15 - p) % 256) 16 * 2 ^ (128 - 8 * 16) ≡ number (λ p. v / 256 ^ (15 - p) % 256) 16 = omega arith in
    let last : v / 256 ^ (16 - 16) ≡ v = omega arith in
    gathered-same (λ p. get_or (to_be_bytes w128 v) p 0) (λ p. v / 256 ^ (15 - p) % 256) 16 (λ p k. bytes_at v p k)
    ∙ gathered_number (λ p. v / 256 ^ (15 - p) % 256) 16 (omega arith) (λ p k. omega arith)
    ∙ one ∙ number_of_bytes v 16 h (omega arith) ∙ last

-- ---- values in lanes

-- the first n rows are the bytes of the values
pub record Valued (grid : List (List ℕ)) (n : ℕ) (values : List ℕ) : Type 0 where
  pub grid_is : IsGrid grid
  pub values_are : (l : ℕ) → l < n → gathered (λ p. byte_in grid l p) 16 ≡ get_or values l 0

pub none_valued : (values : List ℕ) → Valued zeros 0 values
none_valued values = record { grid_is = zero_grid; values_are = λ l h. absurd (omega arith) }

pub one_valued : (grid : List (List ℕ)) (n : ℕ) (row : List ℕ) (values : List ℕ) → Valued grid n values → n < 16 → IsRow row
    → gathered (λ p. get_or row p 0) 16 ≡ get_or values n 0 → Valued (set grid n row) (n + 1) values
one_valued grid n row values v h r is =
    let within : n < length grid = omega (arith, v.grid_is.count) in
    record {
      grid_is = set_grid grid n row v.grid_is h r;
      values_are = λ l k. elim (cases_eq l n) [
        | inl same ↦ rw (same, get_or-set_same) is
        | inr ne ↦ rw get_or-set_other (v.values_are l (omega arith))
      ];
    }

pub valued_lane : (rows turned : List (List ℕ)) (values : List ℕ) (n : ℕ) → Valued rows n values → 16 ≤ n
    → ((p l : ℕ) → p < 16 → l < 16 → byte_in turned p l ≡ byte_in rows l p) → (l : ℕ) → l < 16 → lane_of turned l ≡ get_or values l 0
unfolding lane_of
valued_lane rows turned values n v end places l h =
    gathered-same (λ p. byte_in turned p l) (λ p. byte_in rows l p) 16 (λ p k. places p l k h) ∙ v.values_are l (omega arith)

-- a row of what is turned holds the element of its lane
pub row_lane : (grid turned : List (List ℕ)) → ((p l : ℕ) → p < 16 → l < 16 → byte_in turned p l ≡ byte_in grid l p)
    → (l : ℕ) → l < 16 → gathered (λ p. byte_in turned l p) 16 ≡ lane_of grid l
unfolding lane_of
row_lane grid turned places l h = gathered-same (λ p. byte_in turned l p) (λ p. byte_in grid p l) 16 (λ p k. places l p h k)

pub block_lane : (blocks rows turned : List (List ℕ)) (at : ℕ) → IsGrid rows
    → ((p l : ℕ) → p < 16 → l < 16 → byte_in rows p l ≡ byte_in blocks (at + p) l)
    → ((p l : ℕ) → p < 16 → l < 16 → byte_in turned p l ≡ byte_in rows l p)
    → (l : ℕ) → l < 16 → lane_of turned l ≡ element (get_or blocks (at + l) [])
unfolding lane_of
block_lane blocks rows turned at g loaded places l h =
    gathered-same (λ p. byte_in turned p l) (λ p. byte_in blocks (at + l) p) 16 (λ p k. places p l k h ∙ loaded l p h k)
    ∙ block_element (get_or blocks (at + l) []) (λ p k. rw (← loaded l p h k) ((g.rows l h).bytes p k))

pub added_lane : (a b out : List (List ℕ)) (n : ℕ) → Filled out n (λ p l. bit_xor (byte_in a p l) (byte_in b p l)) → 16 ≤ n
    → (l : ℕ) → l < 16 → lane_of out l ≡ bit_xor (lane_of a l) (lane_of b l)
unfolding lane_of
added_lane a b out n filled end l h =
    gathered-same (λ p. byte_in out p l) (λ p. bit_xor (byte_in a p l) (byte_in b p l)) 16 (λ p k. filled.bytes p l (omega arith) h)
    ∙ gathered-xor (λ p. byte_in a p l) (λ p. byte_in b p l) 16
