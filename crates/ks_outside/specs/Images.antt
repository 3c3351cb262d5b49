-- Words for the layers above a disk. Each is over all that the trait tells (`D.Disk`), so that no layer names what a read gives.
use Rattle.std.specs.Prelude.{◌≡◌, ◌⊎◌, ℕ, ◌≤◌, List, Bool, is_some}
use Rattle.ks_outside.specs.Faults.{CountsFaults}
use Rattle.ks_outside.specs.Ranges.{Torn}
use Rattle.ks_outside.specs.declared.disk.Disk.{Ghosts}

-- each image that a crash may leave now has P
abbrev pub AllImages : {D : Type 0} → Ghosts D → D → (List ℕ → Type 0) → Type 0
AllImages g disk P = (c : List ℕ) → g.images disk c → P c

-- at each moment since the old one, each image has P
abbrev pub AtEachMoment : {D : Type 0} → Ghosts D → D → D → (List ℕ → Type 0) → Type 0
AtEachMoment g old new P = (c : List ℕ) → g.images_since new (g.moment old) c → P c

-- Between the old disk and the new one each image that came has P. It is said of every earlier moment t, so that the parts of a run join.
pub record Passes {D : Type 0} (g : Ghosts D) (old new : D) (P : List ℕ → Type 0) : Type 0 where
  pub later : g.moment old ≤ g.moment new
  pub since : (t : ℕ) (c : List ℕ) → g.images_since new t c → g.images_since old t c ⊎ P c

-- what a torn write over an image of the disk may leave
abbrev pub TornFrom : {D : Type 0} → Ghosts D → D → ℕ → ℕ → List ℕ → Type 0
TornFrom g disk at n c = (b : List ℕ) × g.images disk b × Torn at n b c

-- whether the disk tells what a read gives
abbrev pub tells : {D : Type 0} → Ghosts D → D → Bool
tells g disk = is_some (g.content disk)

-- What each call of a disk leaves alone, also one that writes: a sure disk stays sure, and it goes on telling what a read gives, or
-- nothing. Its count of faults never falls; it rose where a call of the disk failed, and stayed where none did.
pub record Goes {D : Type 0} (g : Ghosts D) (old new : D) (failed : Bool) : Type 0 where
  pub sure : g.is_sure old → g.is_sure new
  pub telling : tells g new ≡ tells g old
  pub cause : CountsFaults (g.fault_count old) (g.fault_count new) failed

-- What a call leaves alone that writes nothing: the same, and no image came, now or at a moment meanwhile.
pub record Reads {D : Type 0} (g : Ghosts D) (old new : D) (failed : Bool) : Type 0 where
  pub goes : Goes g old new failed
  pub images : AllImages g new (g.images old)
  pub passes : Passes g old new (g.images old)
