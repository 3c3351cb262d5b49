-- What a history leaves on a disk, and what it says of the disk's faults.
use Rattle.std.specs.Prelude.{◌≡◌, ℕ, ◌+◌, ◌-◌, ◌^◌, ◌<◌, ◌≤◌, Bool, true, false, List, [], ◌∷◌, ◌++◌, if◌then◌else◌}
use Rattle.ks_outside.specs.Faults.{CountsFaults}
use Rattle.ks_outside.specs.Images.{AllImages, AtEachMoment, Passes, tells}
use Rattle.ks_outside.specs.declared.disk.Disk.{Ghosts}
use Rattle.key_database.specs.Store.{StandsFor}
use Rattle.rule_model.specs.declared.entry.Entry.{Entry}
use Rattle.rule_model.specs.declared.entry.Entry.TheVariants.{Acted, Settling}
use Rattle.rule_model.specs.Entries.{History}
use Rattle.rule_model.specs.Settling.{is_disk_fault}
use Rattle.rule_model.specs.Setup.{Setup}
use Rattle.keystore_core.specs.Engine.{MayHold}
use Rattle.keystore_core.specs.Restarting.{is_other_store}

-- a history that another one goes on from
abbrev pub IsFront : History → History → Type 0
IsFront front later = (more : History) × (later ≡ more ++ front)

-- an image stands for a lasting part that may be kept after some front of a history
abbrev pub AtSome : Setup → History → List ℕ → Type 0
AtSome setup later image = (front : History) × IsFront front later × MayHold setup front image

-- an image stands for a lasting part that may be kept after a history between an earlier one and a later one
abbrev pub AtSomeSince : Setup → History → History → List ℕ → Type 0
AtSomeSince setup past later image = (front : History) × IsFront past front × IsFront front later × MayHold setup front image

-- an entry that was answered because a device call of the disk failed
abbrev pub is_failed : Entry → Bool
is_failed (Acted event drawn reply) = is_disk_fault reply
is_failed (Settling settled) = false

-- how many entries are such
abbrev pub failed_of : History → ℕ
failed_of [] = 0
failed_of (entry ∷ past) = if is_failed entry then failed_of past + 1 else failed_of past

-- an entry that was answered because another store was read than the one that is kept
abbrev pub is_estranged : Entry → Bool
is_estranged (Acted event drawn reply) = is_other_store reply
is_estranged (Settling settled) = false

-- how many entries are such
abbrev pub estranged_of : History → ℕ
estranged_of [] = 0
estranged_of (entry ∷ past) = if is_estranged entry then estranged_of past + 1 else estranged_of past

-- A history went on over a disk, and a device call failed or none did. At each moment each image that came stands for what may be
-- kept after a history between the earlier one and the later one. One of its new entries was answered for a failed device call
-- exactly where one failed. Over a disk that tells its content none of them read another store.
pub record KeepsMore {D : Type 0} (d : Ghosts D) (setup : Setup) (old new : D) (past later : History) (failed : Bool) : Type 0 where
  pub front : IsFront past later
  pub passes : Passes d old new (AtSomeSince setup past later)
  pub faults : CountsFaults (d.fault_count old) (d.fault_count new) failed
  pub failures : failed_of later ≡ (if failed then failed_of past + 1 else failed_of past)
  pub telling : tells d new ≡ tells d old
  pub same : tells d old ≡ true → estranged_of later ≡ estranged_of past

-- What a history leaves of a disk since it began. Each image stands for what may be kept after the history; where all images
-- stood for the lasting part at the start when it began, each image at each moment since stands for what may be kept after some
-- front of it. It has at most as many entries that a failed device call answered as the count rose, where the count ends below
-- its greatest value; and where it has none the count stayed. Over a disk that tells its content none of them read another store.
pub record Keeps {D : Type 0} (d : Ghosts D) (setup : Setup) (begin new : D) (history : History) : Type 0 where
  pub holds : AllImages d new (MayHold setup history)
  pub moments : AllImages d begin (StandsFor setup.start) → AtEachMoment d begin new (AtSome setup history)
  pub faults : d.fault_count new < 2 ^ 64 - 1 → failed_of history + d.fault_count begin ≤ d.fault_count new
  pub none : failed_of history ≡ 0 → d.fault_count new ≡ d.fault_count begin
  pub later : d.fault_count begin ≤ d.fault_count new
  pub same : tells d begin ≡ true → estranged_of history ≡ 0
