-- Types whose values are equal in one way alone.
use Rattle.std.specs.Prelude.{◌≡◌}

abbrev pub IsEqualInOneWay : Type 0 → Type 0
IsEqualInOneWay A = (x y : A) → IsProp (x ≡ y)
