-- What a pass knows of its front of a history.
use Rattle.std.specs.Prelude.{◌≡◌, ◌⊎◌, ℕ, ◌++◌, List, [], ◌∷◌, Some, length}
use mathlib.Core.List.{IsPrefix}
use Rattle.turn_lock.specs.declared.view.Hand.{Hand}
use Rattle.turn_lock.specs.Rule.{own}

-- the front f begins g, and has all that the pass n made in g
pub record IsFrontOf {E : Type 0} (maker : E → ℕ) (n : ℕ) (f g : List E) : Type 0 where
  pub begins : IsPrefix f g
  pub owned : own maker n f ≡ own maker n g

-- the front f begins g, and what the pass n made in g is what it made in f, and then these
pub record Extends {E : Type 0} (maker : E → ℕ) (n : ℕ) (f g more : List E) : Type 0 where
  pub begins : IsPrefix f g
  pub grown : own maker n g ≡ own maker n f ++ more

-- the pass n made all of these
abbrev pub AllMade : {E : Type 0} → (E → ℕ) → ℕ → List E → Type 0
AllMade maker n [] = Unit {0}
AllMade maker n (e ∷ es) = (maker e ≡ n) × AllMade maker n es

-- a history has so many entries more, which the pass n made
pub record Appends {E : Type 0} (maker : E → ℕ) (n count : ℕ) (old now : List E) : Type 0 where
  pub more : List E
  pub grown : now ≡ old ++ more
  pub long : length more ≡ count
  pub made : AllMade maker n more

-- a hand with this number has this front
abbrev pub HasHand : {E K : Type 0} → List (Hand E K) → ℕ → List E → Type 0
HasHand [] n front = ⊥
HasHand (h ∷ hs) n front = ((h.number ≡ Some n) × (h.front ≡ front)) ⊎ HasHand hs n front
