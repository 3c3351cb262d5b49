-- What a crash may leave of a disk, as sets of images, and how they move at a call.
use Rattle.std.specs.Prelude.{◌⊎◌, ℕ, ◌≤◌, List}

-- each member of the new set comes by a step from a member of the old one
abbrev pub Follows : (List ℕ → List ℕ → Type 0) → (List ℕ → Type 0) → (List ℕ → Type 0) → Type 0
Follows step old new = (c : List ℕ) → new c → (b : List ℕ) × old b × step b c

-- Time goes on in a call. What a crash since any moment t might have left is what it might have left before the call, or what it may leave now.
pub record Elapses (before now : ℕ) (past since : ℕ → List ℕ → Type 0) (images : List ℕ → Type 0) : Type 0 where
  pub later : before ≤ now
  pub nothing_else : (t : ℕ) (c : List ℕ) → since t c → past t c ⊎ images c
  pub keeps : (t : ℕ) (c : List ℕ) → past t c → since t c
