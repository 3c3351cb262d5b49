-- A store that was opened, and the run over it.
use Rattle.std.proofs.Common.{◌≡◌, ℕ, ◌≤◌, Bool, true, false, [], Option, Some, None, Err, refl, sym, ◌∙◌, subst, arith}
use Rattle.ks_outside.specs.Faults.{Rises}
use Rattle.ks_outside.specs.Images.{AllImages, Goes, tells}
use Rattle.ks_outside.specs.Shown.{Outside}
use Rattle.ks_outside.specs.declared.disk.Disk.{Ghosts as DiskGhosts}
use Rattle.ks_outside.specs.declared.entropy.Entropy.{Ghosts as EntropyGhosts}
use Rattle.ks_outside.specs.declared.sink.Sink.{Ghosts as SinkGhosts}
use Rattle.ks_outside.specs.declared.source.Source.{Ghosts as SourceGhosts}
use Rattle.journal_records.specs.Commits.{open_failed}
use Rattle.journal_records.specs.LastingPart.{Lasting}
use Rattle.key_database.specs.Store.{StandsFor as IsStoreOf}
use Rattle.rule_model.specs.Setup.{Setup}
use Rattle.keystore_core.specs.declared.engine.Engine.{Engine}
use Rattle.journal_records.specs.declared.fault.StoreFault.{StoreFault}
use Rattle.journal_records.specs.declared.fault.StoreFault.TheVariants as faults
use Rattle.keystore_core.specs.Engine.{OpensFor, OpensStore, Stands, StoreStands}
use Rattle.keystore_core.specs.Opening.{IsBrought, IsOpenedFrom, IsRead, LeavesRefused, brought_none}
use Rattle.keystore_run.specs.declared.session.Session.{Session}
use Rattle.keystore_run.specs.declared.status.Status.{Status}
use Rattle.keystore_run.specs.declared.written.Written.{Written}
use Rattle.keystore_run.specs.declared.status.Status.TheVariants as statuses
use Rattle.keystore_run.specs.Ends.{Ends}
use Rattle.keystore_run.specs.Jobs.{JobsStand}
use Rattle.keystore_run.specs.Runs.{Formats, Given, IsCause, IsRefused, Opened, Refused, Runs, RunsFresh, Formatted, Unformatted, disk_told, refusal_of}
use Rattle.keystore_run.specs.Session.{StandsFor, engine_of, jobs_of}

-- a session over an engine that was opened
pub session_stands : {D : Type 0} (d : DiskGhosts D) (setup : Setup) (engine : Engine) (session : Session) (disk : D) → engine_of session ≡ engine → Stands setup engine [] → StoreStands d setup engine disk [] → JobsStand setup (jobs_of session) []
    → StandsFor d setup session disk []
session_stands d setup engine session disk same stands store held = record {
  stands = subst (λ e. Stands setup e []) (sym same) stands;
  store = subst (λ e. StoreStands d setup e disk []) (sym same) store;
  held = held;
}

module _ {D : Type 0} (d : DiskGhosts D) where
  pub opened_none : (disk : D) → IsOpenedFrom d disk disk
  opened_none disk = record { brought = brought_none d disk; count = refl; telling = refl }

  -- a run whose store was not opened, by why it was not
  pub refused : (old new : D) (fault : StoreFault) → IsBrought d old new → LeavesRefused d old new (Err fault) → Goes d old new (open_failed {T = Engine} (Err fault))
      → AllImages d new (λ image. OpensStore image (Err fault)) → ((part : Lasting) → AllImages d old (IsStoreOf part) → tells d old ≡ true → OpensFor part (Err fault))
      → IsRefused d old new (refusal_of fault)
  refused old new faults.Device brought left goes reads finds = record { brought = brought; later = goes.cause.later; refuses = goes.cause.rises refl }
  refused old new (faults.Corrupted offset) brought left goes reads finds =
      record { brought = brought; later = goes.cause.later; refuses = record { bad = reads; same = goes.cause.same refl; unwritten = left; no_store = finds } }
  refused old new faults.Memory brought left goes reads finds = record { brought = brought; later = goes.cause.later; refuses = goes.cause.same refl }

  -- one that found no memory before it called the disk
  pub refused_early : (disk : D) → IsRefused d disk disk statuses.Memory
  refused_early disk = record { brought = brought_none d disk; later = omega arith; refuses = refl }

-- ---- what a status tells of the disk's faults

pub fine : {before now : ℕ} (told : Option Bool) → told ≡ None → before ≤ now → IsCause before now told
fine told e later = record {
  later = later;
  rises = λ t. absurd (let no : ◌≡◌ {A = Option Bool} (Some true) None = sym t ∙ e in cc);
  same = λ t. absurd (let no : ◌≡◌ {A = Option Bool} (Some false) None = sym t ∙ e in cc);
}

-- a call failed
failing : {before now : ℕ} → before ≤ now → Rises before now → IsCause before now (Some true)
failing later rises = record { later = later; rises = λ t. rises; same = λ t. absurd (let no : ◌≡◌ {A = Option Bool} (Some true) (Some false) = t in cc) }

-- none did
faultless : {before now : ℕ} → now ≡ before → IsCause before now (Some false)
faultless same = record { later = omega (arith, same); rises = λ t. absurd (let no : ◌≡◌ {A = Option Bool} (Some false) (Some true) = t in cc); same = λ t. same }

module _ {S K D N : Type 0} (s : SourceGhosts S) (k : SinkGhosts K) (d : DiskGhosts D) (n : EntropyGhosts N) where
  -- what the end of a run says of the disk's faults
  ends_cause : (written : Written) (setup : Setup) (old new : Outside S K D N) (status : Status) → Ends s k d n written setup old new status → IsCause (d.fault_count old.disk) (d.fault_count new.disk) (disk_told status)
  ends_cause written setup old new statuses.Ok ends = fine None refl ends.served.keeps.later
  ends_cause written setup old new statuses.Memory ends = fine None refl ends.keeps.later
  ends_cause written setup old new statuses.ReadFault ends = fine None refl ends.amid.served.keeps.later
  ends_cause written setup old new statuses.WriteFault ends = fine None refl ends.keeps.later
  ends_cause written setup old new (statuses.LineTooLong line) ends = fine None refl ends.amid.served.keeps.later
  ends_cause written setup old new statuses.ScriptTooLong ends = fine None refl ends.amid.served.keeps.later
  ends_cause written setup old new statuses.DiskFault ends = absurd ends
  ends_cause written setup old new statuses.Usage ends = absurd ends
  ends_cause written setup old new (statuses.Corrupted offset) ends = absurd ends
  ends_cause written setup old new statuses.ListenFault ends = absurd ends

  refuses_cause : (old new : D) (status : Status) → IsRefused d old new status → IsCause (d.fault_count old) (d.fault_count new) (disk_told status)
  refuses_cause old new statuses.DiskFault refused = failing refused.later refused.refuses
  refuses_cause old new statuses.Ok refused = fine None refl refused.later
  refuses_cause old new statuses.Memory refused = fine None refl refused.later
  refuses_cause old new statuses.ReadFault refused = fine None refl refused.later
  refuses_cause old new statuses.WriteFault refused = fine None refl refused.later
  refuses_cause old new (statuses.LineTooLong line) refused = fine None refl refused.later
  refuses_cause old new statuses.ScriptTooLong refused = fine None refl refused.later
  refuses_cause old new statuses.Usage refused = absurd refused.refuses
  refuses_cause old new (statuses.Corrupted offset) refused = faultless refused.refuses.same
  refuses_cause old new statuses.ListenFault refused = fine None refl refused.later

  -- a cause since a moment before which no call failed
  cause_since : (told : Option Bool) {before begin now : ℕ} → begin ≡ before → IsCause begin now told → IsCause before now told
  cause_since told {now = now} same cause = subst (λ m. IsCause m now told) same cause

  pub runs_cause : (g : Given) (begin : D → D) (old new : Outside S K D N) (status : Status) → ((setup : Setup) (opened : D) → IsRead d setup old.disk opened → d.fault_count (begin opened) ≡ d.fault_count old.disk)
      → Runs s k d n g begin old new status → IsCause (d.fault_count old.disk) (d.fault_count new.disk) (disk_told status)
  runs_cause g begin old new status same (Opened opened runs) =
      cause_since (disk_told status) (same runs.setup opened runs.read) (ends_cause g.written runs.setup (record old { disk = begin opened }) new status runs.ends)
  runs_cause g begin old new status same (Refused untouched refused) = refuses_cause old.disk new.disk status refused

  pub fresh_cause : (g : Given) (old new : Outside S K D N) (status : Status) → RunsFresh s k d n g old new status → IsCause (d.fault_count old.disk) (d.fault_count new.disk) (disk_told status)
  fresh_cause g old new status (Formatted formatted is runs) =
      cause_since (disk_told status) is.count (runs_cause g (λ opened. opened) (record old { disk = formatted }) new status (λ setup opened read. read.leaves.count) runs)
  fresh_cause g old new status (Unformatted untouched torn) =
      subst (λ x. IsCause (d.fault_count old.disk) (d.fault_count new.disk) (disk_told x)) (sym torn.is_fault) (failing torn.later torn.rises)

  -- a run of a form never ends with the status of words that are none
  ends_usage : (written : Written) (setup : Setup) (old new : Outside S K D N) (status : Status) → Ends s k d n written setup old new status → status ≡ statuses.Usage → ⊥
  ends_usage written setup old new status ends e = subst (Ends s k d n written setup old new) e ends

  pub runs_usage : (g : Given) (begin : D → D) (old new : Outside S K D N) (status : Status) → Runs s k d n g begin old new status → status ≡ statuses.Usage → ⊥
  runs_usage g begin old new status (Opened opened runs) e = ends_usage g.written runs.setup (record old { disk = begin opened }) new status runs.ends e
  runs_usage g begin old new status (Refused untouched refused) e = subst (λ x. IsRefused d old.disk new.disk x → ⊥) (sym e) (λ (is : IsRefused d old.disk new.disk statuses.Usage). is.refuses) refused

  pub fresh_usage : (g : Given) (old new : Outside S K D N) (status : Status) → RunsFresh s k d n g old new status → status ≡ statuses.Usage → ⊥
  fresh_usage g old new status (Formatted formatted is runs) e = runs_usage g (λ opened. opened) (record old { disk = formatted }) new status runs e
  fresh_usage g old new status (Unformatted untouched torn) e = absurd (let no = sym torn.is_fault ∙ e in cc)

-- what a formatting says of the disk's faults
pub formats_cause : {D : Type 0} (d : DiskGhosts D) (old new : D) (status : Status) → Formats d old new status → IsCause (d.fault_count old) (d.fault_count new) (disk_told status)
formats_cause d old new statuses.Ok is = fine None refl (omega (arith, is.count))
formats_cause d old new statuses.DiskFault torn = failing torn.later torn.rises
formats_cause d old new statuses.Memory none = absurd none
formats_cause d old new statuses.Usage none = absurd none
formats_cause d old new statuses.ReadFault none = absurd none
formats_cause d old new statuses.WriteFault none = absurd none
formats_cause d old new (statuses.LineTooLong line) none = absurd none
formats_cause d old new (statuses.Corrupted offset) none = absurd none
formats_cause d old new statuses.ScriptTooLong none = absurd none
formats_cause d old new statuses.ListenFault none = absurd none

pub formats_usage : {D : Type 0} (d : DiskGhosts D) (old new : D) (status : Status) → Formats d old new status → status ≡ statuses.Usage → ⊥
formats_usage d old new status formats e = subst (Formats d old new) e formats
