-- What the next sync makes of a disk. `IsAhead` is the one word that names what a read gives; all above a disk goes by it.
use Rattle.std.specs.Prelude.{◌≡◌, ℕ, List, Some}
use Rattle.ks_outside.specs.declared.disk.Disk.{Ghosts}

-- what a read gives, and so what the next sync makes of the disk
abbrev pub IsAhead : {D : Type 0} → Ghosts D → D → List ℕ → Type 0
IsAhead g disk image = g.content disk ≡ Some image
