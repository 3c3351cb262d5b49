-- Disks that tell nothing.
use Rattle.std.specs.Prelude.{◌≡◌, ℕ, List, Option, Some, None}

pub none_is_some : (c : List ℕ) → ◌≡◌ {A = Option (List ℕ)} None (Some c) → ⊥
none_is_some c told = cc
