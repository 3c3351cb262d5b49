-- What a store that was opened holds, and what is fixed in a run over it.
use Rattle.std.proofs.Common.{◌≡◌, ℕ, Bool, List, [], true, false, Result, Ok, Err, refl}
use Rattle.ks_outside.specs.Images.{AllImages, Goes, Passes, Reads, tells}
use Rattle.ks_outside.specs.declared.disk.Disk.{Ghosts as DiskGhosts}
use Rattle.ks_outside.proofs.Joins.{passes_none}
use Rattle.tags.specs.declared.policy.PolicyRow.{PolicyRow}
use Rattle.tags.specs.declared.secrets.DeviceSecrets.{DeviceSecrets}
use Rattle.journal_compact.specs.Formats.{IsOlder}
use Rattle.journal_records.specs.LastingPart.{Lasting}
use Rattle.journal_records.specs.declared.fault.StoreFault.{StoreFault}
use Rattle.journal_records.specs.declared.fault.StoreFault.TheVariants as faults
use Rattle.key_database.specs.Stands.{Brings, ComesFrom, StaysFor, WasThere, held_images}
use Rattle.key_database.specs.Store.{StandsFor}
use Rattle.rule_model.specs.Entries.{History}
use Rattle.rule_model.specs.Setup.{Setup}
use Rattle.rule_model.specs.Stored.{holding_of}
use Rattle.keystore_core.specs.declared.engine.Engine.{Engine}
use Rattle.keystore_core.specs.Engine.{IsOpened, MayHold, StoreStands, lasting_of}

-- nothing was written: each image, now and at each moment since, was there
pub record IsUnwritten {D : Type 0} (d : DiskGhosts D) (old new : D) : Type 0 where
  pub images : AllImages d new (d.images old)
  pub passes : Passes d old new (d.images old)

pub unwritten_of : {D : Type 0} (d : DiskGhosts D) (old new : D) (failed : Bool) → Reads d old new failed → IsUnwritten d old new
unwritten_of d old new failed reads = record { images = reads.images; passes = reads.passes }

-- What an opening leaves of the images, whatever it answers. Each image, now and at each moment since, was there, or stands for what a store of
-- the older format stands for that was there. Where all images stood for one lasting part each stands for it, and where none was of the older
-- format nothing was written.
pub record IsBrought {D : Type 0} (d : DiskGhosts D) (old new : D) : Type 0 where
  pub brings : Brings d old new
  pub stays : (part : Lasting) → AllImages d old (StandsFor part) → StaysFor d old new part
  pub newer : AllImages d old (λ image. IsOlder image → ⊥) → IsUnwritten d old new

-- of a disk that was not called
pub brought_none : {D : Type 0} (d : DiskGhosts D) (disk : D) → IsBrought d disk disk
brought_none d disk = record {
  brings = record { images = λ c image. WasThere image; passes = passes_none d disk (ComesFrom d disk) };
  stays = λ part stood. record { images = stood; passes = passes_none d disk (StandsFor part) };
  newer = λ newer. record { images = λ c image. image; passes = passes_none d disk (d.images disk) };
}

-- what an opening leaves that is refused, by its answer: nothing was written where the bytes are no store
abbrev pub LeavesRefused : {D : Type 0} → DiskGhosts D → D → D → Result Engine StoreFault → Type 0
LeavesRefused d old new (Ok engine) = Unit {0}
LeavesRefused d old new (Err faults.Device) = Unit {0}
LeavesRefused d old new (Err (faults.Corrupted offset)) = IsUnwritten d old new
LeavesRefused d old new (Err faults.Memory) = Unit {0}

-- an opening that was not refused: no call failed, and the disk tells as much as before
pub record IsOpenedFrom {D : Type 0} (d : DiskGhosts D) (old new : D) : Type 0 where
  pub brought : IsBrought d old new
  pub count : d.fault_count new ≡ d.fault_count old
  pub telling : tells d new ≡ tells d old

pub opened_from : {D : Type 0} (d : DiskGhosts D) (old new : D) → IsBrought d old new → Goes d old new false → IsOpenedFrom d old new
opened_from d old new brought goes = record { brought = brought; count = goes.cause.same refl; telling = goes.telling }

-- The store was read, and where it was of the older format it was brought to areas: each image is the store of the start. Where all images
-- stood for one lasting part and the disk tells its content, it is the start's.
pub record IsRead {D : Type 0} (d : DiskGhosts D) (setup : Setup) (old opened : D) : Type 0 where
  pub stands : AllImages d opened (StandsFor setup.start)
  pub finds : (part : Lasting) → AllImages d old (StandsFor part) → tells d old ≡ true → setup.start ≡ part
  pub leaves : IsOpenedFrom d old opened

-- what is fixed in a run is what it was given
pub record IsSetup (setup : Setup) (device : DeviceSecrets) (policy : List PolicyRow) (slots : ℕ) : Type 0 where
  pub device_is : setup.device ≡ device
  pub policy_is : setup.policy ≡ policy
  pub slots_are : setup.slots ≡ slots

-- what is fixed over an engine that was opened
abbrev pub setup_of : DeviceSecrets → List PolicyRow → ℕ → Engine → Setup
setup_of device policy slots engine = record { device = device; policy = policy; slots = slots; start = lasting_of engine }

pub is_opened : (device : DeviceSecrets) (policy : List PolicyRow) (slots : ℕ) (engine : Engine) → IsOpened (setup_of device policy slots engine) device policy slots engine
is_opened device policy slots engine = record { start = refl; device_is = refl; policy_is = refl; slots_are = refl }

-- what the images stand for, where the store and the disk hold what is known by a history
pub store_images : {D : Type 0} (d : DiskGhosts D) (setup : Setup) (engine : Engine) (disk : D) (past : History) → StoreStands d setup engine disk past → AllImages d disk (MayHold setup past)
store_images d setup engine disk past store = held_images d engine.tables.keys disk (holding_of setup past) store

-- the images after an opening are the store of the start
pub opened_images : {D : Type 0} (d : DiskGhosts D) (device : DeviceSecrets) (policy : List PolicyRow) (slots : ℕ) (engine : Engine) (disk : D) → StoreStands d (setup_of device policy slots engine) engine disk [] → AllImages d disk (StandsFor (lasting_of engine))
opened_images d device policy slots engine disk store = store_images d (setup_of device policy slots engine) engine disk [] store
