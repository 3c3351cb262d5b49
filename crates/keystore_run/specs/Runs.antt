-- What the words of a command line do: how a store is made and opened, and how the run over it ends.
use Rattle.std.specs.Prelude.{◌≡◌, ℕ, ◌≤◌, Bool, true, false, List, Option, Some, None, Result, Ok, Err}
use Rattle.ks_outside.specs.Faults.{Rises}
use Rattle.ks_outside.specs.Images.{AllImages, tells}
use Rattle.ks_outside.specs.Shown.{Outside}
use Rattle.ks_outside.specs.declared.disk.Disk.{Ghosts as DiskGhosts}
use Rattle.ks_outside.specs.declared.entropy.Entropy.{Ghosts as EntropyGhosts}
use Rattle.ks_outside.specs.declared.sink.Sink.{Ghosts as SinkGhosts}
use Rattle.ks_outside.specs.declared.source.Source.{Ghosts as SourceGhosts}
use Rattle.tags.specs.declared.policy.PolicyRow.{PolicyRow}
use Rattle.tags.specs.declared.secrets.DeviceSecrets.{DeviceSecrets}
use Rattle.journal_records.specs.LastingPart.{Lasting, empty_lasting}
use Rattle.key_database.specs.Store.{IsBadStore, StandsFor}
use Rattle.rule_model.specs.Setup.{Setup}
use Rattle.journal_records.specs.declared.fault.StoreFault.{StoreFault}
use Rattle.journal_records.specs.declared.fault.StoreFault.TheVariants as faults
use Rattle.keystore_core.specs.Opening.{IsBrought, IsRead, IsSetup, IsUnwritten}
use Rattle.keystore_run.specs.declared.status.Status.{Status}
use Rattle.keystore_run.specs.declared.status.Status.TheVariants as statuses
use Rattle.keystore_run.specs.declared.written.Written.{Written}
use Rattle.keystore_run.specs.declared.words.Form.{Form}
use Rattle.keystore_run.specs.declared.words.Form.TheVariants.{Init, Run, Soak}
use Rattle.keystore_run.specs.Ends.{Ends}
use Rattle.keystore_run.specs.Soak.{Soaks}

-- a count of faults never falls; where it is told that a call failed it rose, and where it is told that none did it stayed
pub record IsCause (before now : ℕ) (told : Option Bool) : Type 0 where
  pub later : before ≤ now
  pub rises : told ≡ Some true → Rises before now
  pub same : told ≡ Some false → now ≡ before

-- what a run is given beside its script: the device's secrets, the policy, the slots, and what it writes
pub record Given : Type 0 where
  pub device : DeviceSecrets
  pub policy : List PolicyRow
  pub slots : ℕ
  pub written : Written

abbrev pub given : DeviceSecrets → List PolicyRow → ℕ → Written → Given
given device policy slots written = record { device = device; policy = policy; slots = slots; written = written }

-- the status of a run whose store was not opened
abbrev pub refusal_of : StoreFault → Status
refusal_of faults.Device = statuses.DiskFault
refusal_of (faults.Corrupted offset) = statuses.Corrupted offset
refusal_of faults.Memory = statuses.Memory

-- the status of a formatting
abbrev pub formatted_as : {E : Type 0} → Result (Unit {0}) E → Status
formatted_as (Ok u) = statuses.Ok
formatted_as (Err e) = statuses.DiskFault

-- what a status alone tells of the disk: that a call of it failed, or that none did
abbrev pub disk_told : Status → Option Bool
disk_told statuses.DiskFault = Some true
disk_told (statuses.Corrupted offset) = Some false
disk_told statuses.Usage = Some false
disk_told _ = None

module _ {D : Type 0} (d : DiskGhosts D) where
  -- the disk was formatted: each image stands for the empty lasting part
  pub record IsFormatted (old new : D) : Type 0 where
    pub empty : AllImages d new (StandsFor empty_lasting)
    pub later : d.moment old ≤ d.moment new
    pub count : d.fault_count new ≡ d.fault_count old
    pub telling : tells d new ≡ tells d old

  -- Each image has this wrong, at this place, no call failed, and nothing was written; this comes over no disk that tells its content where all
  -- images stood for one lasting part.
  pub record IsBad (old new : D) (offset : ℕ) : Type 0 where
    pub bad : AllImages d new (λ image. IsBadStore image offset)
    pub same : d.fault_count new ≡ d.fault_count old
    pub unwritten : IsUnwritten d old new
    pub no_store : (part : Lasting) → AllImages d old (StandsFor part) → tells d old ≡ true → ⊥

  -- why a store was not opened: want of memory, a failed device call, or bytes that are no store
  abbrev pub Refuses : D → D → Status → Type 0
  Refuses old new statuses.Memory = d.fault_count new ≡ d.fault_count old
  Refuses old new statuses.DiskFault = Rises (d.fault_count old) (d.fault_count new)
  Refuses old new (statuses.Corrupted offset) = IsBad old new offset
  Refuses old new _ = ⊥

  -- The store was not opened. What it stood for it stands for at each moment, and nothing was written where it was no store; one of the older
  -- format may have been brought to areas.
  pub record IsRefused (old new : D) (status : Status) : Type 0 where
    pub brought : IsBrought d old new
    pub later : d.fault_count old ≤ d.fault_count new
    pub refuses : Refuses old new status

  -- a device call failed while the disk was formatted
  pub record IsTorn (old new : D) (status : Status) : Type 0 where
    pub is_fault : status ≡ statuses.DiskFault
    pub later : d.fault_count old ≤ d.fault_count new
    pub rises : Rises (d.fault_count old) (d.fault_count new)

  -- what `init` leaves: an empty store, or a fault of the disk
  abbrev pub Formats : D → D → Status → Type 0
  Formats old new statuses.Ok = IsFormatted old new
  Formats old new statuses.DiskFault = IsTorn old new statuses.DiskFault
  Formats old new _ = ⊥

module _ {S K D N : Type 0} (s : SourceGhosts S) (k : SinkGhosts K) (d : DiskGhosts D) (n : EntropyGhosts N) where
  -- nothing was read, written or drawn
  pub record IsUntouched (old new : Outside S K D N) : Type 0 where
    pub source : new.source ≡ old.source
    pub sink : new.sink ≡ old.sink
    pub entropy : new.entropy ≡ old.entropy

  -- the store was opened, and the run over it ended so, where the disk's part is told from the moment `begin` on
  pub record RunsFrom (g : Given) (old : Outside S K D N) (opened begin : D) (new : Outside S K D N) (status : Status) : Type 0 where
    pub setup : Setup
    pub is : IsSetup setup g.device g.policy g.slots
    pub read : IsRead d setup old.disk opened
    pub ends : Ends s k d n g.written setup (record old { disk = begin }) new status

  -- A run over the store that the disk holds: it was opened; or the run ended before that, and nothing was touched. `begin` says for
  -- the disk after the opening from which moment on the disk's part is told.
  pub data Runs (g : Given) (begin : D → D) (old new : Outside S K D N) (status : Status) : Type 0 where
    Opened : (opened : D) → RunsFrom g old opened (begin opened) new status → Runs g begin old new status
    Refused : IsUntouched old new → IsRefused d old.disk new.disk status → Runs g begin old new status

  -- A run over an empty store: the disk was formatted, and the disk's part is told from the opening on, at which each image stood for
  -- the empty lasting part; or the disk failed before.
  pub data RunsFresh (g : Given) (old new : Outside S K D N) (status : Status) : Type 0 where
    Formatted : (formatted : D) → IsFormatted d old.disk formatted → Runs g (λ opened. opened) (record old { disk = formatted }) new status → RunsFresh g old new status
    Unformatted : IsUntouched old new → IsTorn d old.disk new.disk status → RunsFresh g old new status

  -- nothing was read, drawn or asked of the disk
  pub record IsApart (old new : Outside S K D N) : Type 0 where
    pub source : new.source ≡ old.source
    pub disk : new.disk ≡ old.disk
    pub entropy : new.entropy ≡ old.entropy

  -- what a form does; the disk's part of a run over the store that is there is told from the call on
  abbrev pub Does : DeviceSecrets → List PolicyRow → Form → Outside S K D N → Outside S K D N → Status → Type 0
  Does device policy Init old new status = IsUntouched old new × Formats d old.disk new.disk status
  Does device policy (Run false slots written) old new status = Runs (given device policy slots written) (λ opened. old.disk) old new status
  Does device policy (Run true slots written) old new status = RunsFresh (given device policy slots written) old new status
  Does device policy (Soak seed lines) old new status = IsApart old new × Soaks k seed lines old.sink new.sink status
