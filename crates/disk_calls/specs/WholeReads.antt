-- The reading of a whole disk: how far it has come, and why it ends.
use Rattle.std.specs.Prelude.{◌≡◌, ℕ, List, length, take, Bool, true, false, Some, Result, Err}
use Rattle.ks_outside.specs.declared.disk.Disk.{Ghosts}
use Rattle.disk_calls.specs.declared.whole.ReadFault.{ReadFault}
use Rattle.disk_calls.specs.declared.whole.ReadFault.TheVariants.{Device}
use Rattle.ks_outside.specs.Images.{AllImages, Passes}

-- whether a call of the disk failed in a reading, by its answer
abbrev pub read_failed : {T : Type 0} → Result T ReadFault → Bool
read_failed (Err Device) = true
read_failed _ = false

-- the bytes so far are a front of what a read gives; since the start nothing was written and no call failed
pub record IsReading {D : Type 0} (g : Ghosts D) (old now : D) (size : ℕ) (bytes : List ℕ) : Type 0 where
  pub synced : (c : List ℕ) → g.images now c → g.content now ≡ Some c
  pub same : g.content now ≡ g.content old
  pub images : AllImages g now (g.images old)
  pub passes : Passes g old now (g.images old)
  pub sure : g.is_sure old → g.is_sure now
  pub faults : g.fault_count now ≡ g.fault_count old
  pub size_is : (c : List ℕ) → g.content now ≡ Some c → size ≡ length c
  pub front : (c : List ℕ) → g.content now ≡ Some c → bytes ≡ take (length bytes) c
