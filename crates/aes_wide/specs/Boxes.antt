-- The S-box without its constant as a circuit on the bits of a byte, the lowest first.
use Rattle.std.specs.Prelude.{ℕ, List, ◌++◌}
use Rattle.aes_wide.specs.Circuit.{circuit}
use Rattle.aes_wide.specs.Gates.{top_gates, top_outs, shared_gates, shared_outs, inverted_gates, inverted_outs, products_gates, products_outs, bottom_gates, bottom_outs, unlinear_gates, unlinear_outs}

abbrev pub top_wires : List ℕ → List ℕ
top_wires x = circuit top_gates top_outs x

-- from the first sums on
abbrev pub later_wires : List ℕ → List ℕ
later_wires y =
    circuit bottom_gates bottom_outs (circuit products_gates products_outs (circuit inverted_gates inverted_outs (circuit shared_gates shared_outs y) ++ y))

unfoldable pub box_wires : List ℕ → List ℕ
box_wires x = later_wires (top_wires x)

-- the linear part of the inverse of the affine map, on the bits of a byte
unfoldable pub unlinear_wires : List ℕ → List ℕ
unlinear_wires x = circuit unlinear_gates unlinear_outs x

-- the inverse S-box of the sum with the constant: the S-box without its constant between two linear maps
unfoldable pub unbox_wires : List ℕ → List ℕ
unbox_wires x = unlinear_wires (box_wires (unlinear_wires x))
