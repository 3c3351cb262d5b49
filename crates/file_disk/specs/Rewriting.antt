-- Writing again what a failed sync may have lost, as calls of a real file.
use Rattle.std.specs.Prelude.{◌≡◌, ◌≤◌, ◌⊎◌, ℕ, zero, suc, ◌+◌, sum, List, [], ◌∷◌, take, Bool, true, false, Option, Some, None}
use Rattle.file_disk.specs.declared.real_file.RealFile.{Ghosts}
use Rattle.file_disk.specs.declared.unsynced.Unsynced.{Unsynced}

module _ {F : Type 0} (g : Ghosts F) where
  -- One piece: what a read gave was written where it stands, and nothing where no byte stands. None where the read failed, or the write.
  abbrev pub Again : ℕ → Option ℕ → F → F → Type 0
  Again at None old new =
      ((out : List ℕ) × g.did_read old new at out None)
      ⊎ ((mid : F) × (out : List ℕ) × (n : ℕ) × g.did_read old mid at out (Some n) × g.did_write mid new at (take n out) false)
  Again at (Some zero) old new = (out : List ℕ) × g.did_read old new at out (Some 0)
  Again at (Some (suc n)) old new =
      (mid : F) × (out : List ℕ) × g.did_read old mid at out (Some (suc n)) × g.did_write mid new at (take (suc n) out) true

  -- pieces of these lengths, the last one first, one behind the other from a place on
  abbrev pub Pieces : ℕ → List ℕ → F → F → Type 0
  Pieces from [] old new = new ≡ old
  Pieces from (n ∷ before) old new = (mid : F) × Pieces from before old mid × Again (from + sum before) (Some n) mid new

  -- The bytes from one place up to another were written again, as far as the file has them; or a call failed, which ended it.
  abbrev pub WroteAgain : ℕ → ℕ → F → F → Bool → Type 0
  WroteAgain from end old new true =
      (counts : List ℕ)
      × ((Pieces from counts old new × (end ≤ from + sum counts)) ⊎ ((mid : F) × Pieces from counts old mid × Again (from + sum counts) (Some 0) mid new))
  WroteAgain from end old new false = (counts : List ℕ) × (mid : F) × Pieces from counts old mid × Again (from + sum counts) None mid new

  -- one sync that is good where it answers so, behind what was written again
  abbrev pub SyncsBehind : Bool → ℕ → ℕ → F → F → Bool → Type 0
  SyncsBehind false from end old new ok = g.did_sync old new ok
  SyncsBehind true from end old new true = (mid : F) × WroteAgain from end old mid true × g.did_sync mid new true
  SyncsBehind true from end old new false = WroteAgain from end old new false ⊎ ((mid : F) × WroteAgain from end old mid true × g.did_sync mid new false)

  -- A sync: one call of the file, before which the range is written again where a sync failed since the last good one.
  abbrev pub Syncs : Unsynced → F → F → Bool → Type 0
  Syncs range old new ok = SyncsBehind range.is_lost range.from range.end old new ok
