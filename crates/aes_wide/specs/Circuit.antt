-- A circuit of sums and products of bits, as a list of gates.
use Rattle.std.specs.Prelude.{ℕ, List, [], ◌∷◌, ◌++◌, map, slice_index, bit_xor, bit_and}

-- a gate, on the wires at two indexes
pub data Gate : Type 0 where
  Xor : (left : ℕ) (right : ℕ) → Gate
  And : (left : ℕ) (right : ℕ) → Gate

-- what a gate makes of the wires so far
abbrev pub wire_of : Gate → List ℕ → ℕ
wire_of (Xor left right) wires = bit_xor (slice_index wires left) (slice_index wires right)
wire_of (And left right) wires = bit_and (slice_index wires left) (slice_index wires right)

-- the wires after the gates
unfoldable pub run : List Gate → List ℕ → List ℕ
run [] wires = wires
run (gate ∷ gates) wires = run gates (wires ++ wire_of gate wires ∷ [])

-- the wires at these indexes
abbrev pub picked : List ℕ → List ℕ → List ℕ
picked outs wires = map (λ k. slice_index wires k) outs

-- what the circuit makes of its inputs
abbrev pub circuit : List Gate → List ℕ → List ℕ → List ℕ
circuit gates outs inputs = picked outs (run gates inputs)
