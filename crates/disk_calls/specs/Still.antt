-- A disk of which nothing waits for a sync, and what is read of it.
use Rattle.std.specs.Prelude.{◌≡◌, ℕ, ◌-◌, min, List, length, take, drop}
use Rattle.ks_outside.specs.declared.disk.Disk.{Ghosts}
use Rattle.ks_outside.specs.Images.{AllImages}
use Rattle.disk_calls.specs.Ahead.{IsAhead}

-- nothing waits for a sync: each image is what a read gives
abbrev pub IsStill : {D : Type 0} → Ghosts D → D → Type 0
IsStill g disk = AllImages g disk (IsAhead g disk)

-- the first n bytes of `out` are those of an image from a place on, and n is as many as there are and fit
pub record Fills (at n : ℕ) (out image : List ℕ) : Type 0 where
  pub bytes : take n out ≡ take n (drop at image)
  pub count : n ≡ min (length out) (length image - at)
