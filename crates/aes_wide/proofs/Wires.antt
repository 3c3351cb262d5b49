-- A circuit on planes is the circuit on each bit.
use Rattle.std.proofs.Common.{◌≡◌, ℕ, zero, suc, ◌/◌, ◌%◌, ◌^◌, List, [], ◌∷◌, ◌++◌, map, slice_index, refl, ◌∙◌, ap, arith}
use Rattle.std.specs.Int.{bit_at}
use Rattle.std.specs.Int.Bits.{bit_xor}
use lib.Bits.{bit_and}
use Rattle.std.proofs.lemmas.Nat.{xor_shr, xor_mod, and_shr, and_mod}
use Rattle.aes_wide.specs.Circuit.{Gate, wire_of, run, picked, circuit}
use Rattle.aes_wide.specs.Circuit.Gate.{Xor, And}

pub bit_of_sum : (a b i : ℕ) → bit_at (bit_xor a b) i ≡ bit_xor (bit_at a i) (bit_at b i)
bit_of_sum a b i = ap (λ n. n % 2) (xor_shr a b i) ∙ xor_mod (a / 2 ^ i) (b / 2 ^ i) 1

pub bit_of_product : (a b i : ℕ) → bit_at (bit_and a b) i ≡ bit_and (bit_at a i) (bit_at b i)
bit_of_product a b i = ap (λ n. n % 2) (and_shr a b i) ∙ and_mod (a / 2 ^ i) (b / 2 ^ i) 1

pub bit_of_zero : (i : ℕ) → bit_at 0 i ≡ 0
bit_of_zero i = omega arith

-- bit i of each
abbrev pub bits : ℕ → List ℕ → List ℕ
bits i ws = map (λ w. bit_at w i) ws

bit_of_wire : (i : ℕ) (ws : List ℕ) (k : ℕ) → bit_at (slice_index ws k) i ≡ slice_index (bits i ws) k
bit_of_wire i [] k = bit_of_zero i
bit_of_wire i (w ∷ ws) zero = refl
bit_of_wire i (w ∷ ws) (suc k) = bit_of_wire i ws k

gate_bits : (i : ℕ) (g : Gate) (ws : List ℕ) → bit_at (wire_of g ws) i ≡ wire_of g (bits i ws)
gate_bits i (Xor l r) ws =
    bit_of_sum (slice_index ws l) (slice_index ws r) i
    ∙ ap (λ n. bit_xor n (bit_at (slice_index ws r) i)) (bit_of_wire i ws l)
    ∙ ap (λ n. bit_xor (slice_index (bits i ws) l) n) (bit_of_wire i ws r)
gate_bits i (And l r) ws =
    bit_of_product (slice_index ws l) (slice_index ws r) i
    ∙ ap (λ n. bit_and n (bit_at (slice_index ws r) i)) (bit_of_wire i ws l)
    ∙ ap (λ n. bit_and (slice_index (bits i ws) l) n) (bit_of_wire i ws r)

bits_append : (i : ℕ) (xs ys : List ℕ) → bits i (xs ++ ys) ≡ bits i xs ++ bits i ys
bits_append i [] ys = refl
bits_append i (x ∷ xs) ys = ap (λ t. bit_at x i ∷ t) (bits_append i xs ys)

run_bits : (i : ℕ) (gates : List Gate) (ws : List ℕ) → bits i (run gates ws) ≡ run gates (bits i ws)
unfolding run
run_bits i [] ws = refl
run_bits i (g ∷ gates) ws =
    run_bits i gates (ws ++ wire_of g ws ∷ [])
    ∙ ap (λ t. run gates t) (bits_append i ws (wire_of g ws ∷ []) ∙ ap (λ y. bits i ws ++ y ∷ []) (gate_bits i g ws))

picked_bits : (i : ℕ) (outs ws : List ℕ) → bits i (picked outs ws) ≡ picked outs (bits i ws)
picked_bits i [] ws = refl
picked_bits i (k ∷ outs) ws =
    ap (λ y. y ∷ bits i (picked outs ws)) (bit_of_wire i ws k)
    ∙ ap (λ ys. slice_index (bits i ws) k ∷ ys) (picked_bits i outs ws)

pub circuit_bits : (i : ℕ) (gates : List Gate) (outs ws : List ℕ) → bits i (circuit gates outs ws) ≡ circuit gates outs (bits i ws)
circuit_bits i gates outs ws = picked_bits i outs (run gates ws) ∙ ap (picked outs) (run_bits i gates ws)

pub bits_both : (i : ℕ) (xs ys : List ℕ) → bits i (xs ++ ys) ≡ bits i xs ++ bits i ys
bits_both i xs ys = bits_append i xs ys
