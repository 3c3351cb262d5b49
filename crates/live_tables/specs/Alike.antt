-- Two lists that are alike: as many elements, each related to the one at its place.
use Rattle.std.specs.Prelude.{List, [], ◌∷◌, Option, Some, None}

module _ {A B : Type 0} (R : A → B → Type 0) where
  abbrev pub Alike : List A → List B → Type 0
  Alike [] [] = Unit {0}
  Alike (x ∷ xs) (y ∷ ys) = R x y × Alike xs ys
  Alike [] (y ∷ ys) = ⊥
  Alike (x ∷ xs) [] = ⊥

  -- what two look-ups found is alike
  abbrev pub BothFound : Option A → Option B → Type 0
  BothFound None None = Unit {0}
  BothFound (Some x) (Some y) = R x y
  BothFound None (Some y) = ⊥
  BothFound (Some x) None = ⊥
