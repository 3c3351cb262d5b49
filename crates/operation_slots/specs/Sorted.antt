-- A list in the order of a number, made from any list.
use Rattle.std.specs.Prelude.{ℕ, nat_lt, List, [], ◌∷◌, if◌then◌else◌}

module _ {A : Type 0} (key : A → ℕ) where
  -- one more, where it goes
  abbrev pub placed : A → List A → List A
  placed x [] = x ∷ []
  placed x (y ∷ ys) = if nat_lt (key x) (key y) then x ∷ (y ∷ ys) else y ∷ placed x ys

  abbrev pub in_order : List A → List A
  in_order [] = []
  in_order (x ∷ xs) = placed x (in_order xs)
