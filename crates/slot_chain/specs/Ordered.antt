-- Lists in the order of a number, in which a halving finds what has a number.
use Rattle.std.specs.Prelude.{◌≡◌, ◌<◌, ◌≤◌, ℕ, List, [], ◌∷◌, map, length, get_or, ⊤}
use Rattle.std.specs.Coded.{×_prop, Unit-prop, le_prop}

-- all of these are greater than a number
abbrev pub IsAbove : ℕ → List ℕ → Type 0
IsAbove n [] = ⊤
IsAbove n (k ∷ ks) = (n < k) × IsAbove n ks

-- each is greater than those before it
abbrev pub IsRising : List ℕ → Type 0
IsRising [] = ⊤
IsRising (k ∷ ks) = IsAbove k ks × IsRising ks

-- there is one proof of each, so that a struct can keep it
pub IsAbove-prop : (n : ℕ) (ks : List ℕ) → IsProp (IsAbove n ks)
IsAbove-prop n [] = Unit-prop
IsAbove-prop n (k ∷ ks) = ×_prop le_prop (IsAbove-prop n ks)

pub IsRising-prop : (ks : List ℕ) → IsProp (IsRising ks)
IsRising-prop [] = Unit-prop
IsRising-prop (k ∷ ks) = ×_prop (IsAbove-prop k ks) (IsRising-prop ks)

module _ {A : Type 0} (key : A → ℕ) where
  -- their numbers rise, so none comes twice
  abbrev pub IsOrdered : List A → Type 0
  IsOrdered xs = IsRising (map key xs)

  -- what stands at this place has the number
  pub record IsAt (xs : List A) (n at : ℕ) : Type 0 where
    pub within : at < length xs
    pub named : (d : A) → key (get_or xs at d) ≡ n

  -- it would go to this place: less before it, and more from it on
  pub record IsGap (xs : List A) (n at : ℕ) : Type 0 where
    pub within : at ≤ length xs
    pub below : (j : ℕ) (d : A) → j < at → key (get_or xs j d) < n
    pub above : (j : ℕ) (d : A) → at ≤ j → j < length xs → n < key (get_or xs j d)
