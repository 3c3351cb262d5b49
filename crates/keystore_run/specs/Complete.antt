-- Completeness of a run: what it gives where no call fails and its script is within the limits.
use Rattle.std.specs.Prelude.{◌≡◌, ℕ, ◌+◌, ◌<◌, Bool, true, false, List, [], ◌∷◌, length, Some}
use Rattle.std.specs.Io.KnownBytes.{IsAtEnd}
use Rattle.ks_outside.specs.Images.{AllImages, tells}
use Rattle.ks_outside.specs.Shown.{Outside, Put}
use Rattle.ks_outside.specs.declared.disk.Disk.{Ghosts as DiskGhosts}
use Rattle.ks_outside.specs.declared.entropy.Entropy.{Ghosts as EntropyGhosts}
use Rattle.ks_outside.specs.declared.sink.Sink.{Ghosts as SinkGhosts}
use Rattle.ks_outside.specs.declared.source.Source.{Ghosts as SourceGhosts}
use Rattle.journal_records.specs.LastingPart.{Lasting, empty_lasting}
use Rattle.key_database.specs.Store.{StandsFor}
use Rattle.rule_model.specs.declared.entry.Entry.TheVariants.{Acted, Settling}
use Rattle.rule_model.specs.Drawn.{undrawn_of}
use Rattle.rule_model.specs.Entries.{History}
use Rattle.rule_model.specs.Legal.{Legal}
use Rattle.rule_model.specs.Setup.{Setup}
use Rattle.keystore_core.specs.Complete.{HasNoFault}
use Rattle.keystore_core.specs.Engine.{MayHold}
use Rattle.keystore_core.specs.Opening.{IsRead, IsSetup}
use Rattle.keystore_run.specs.declared.written.Written.{Written}
use Rattle.keystore_run.specs.declared.status.Status.{Status}
use Rattle.keystore_run.specs.declared.status.Status.TheVariants as statuses
use Rattle.keystore_run.specs.Drawn.{DrewAll}
use Rattle.keystore_run.specs.Follows.{Follows}
use Rattle.keystore_run.specs.KeptStores.{estranged_of, failed_of}
use Rattle.line_members.specs.LineFeeds.{lines_of}
use Rattle.keystore_run.specs.Lines.{AreLines}
use Rattle.keystore_run.specs.Runs.{Given, IsFormatted}
use Rattle.keystore_run.specs.Written.{written_of}
use Rattle.tags.specs.declared.limits.TheConstants.{SCRIPT_BYTES}

-- how many entries settle an earlier change
abbrev pub settlings_of : History → ℕ
settlings_of [] = 0
settlings_of (Acted event drawn reply ∷ past) = settlings_of past
settlings_of (Settling settled ∷ past) = settlings_of past + 1

-- no entry settles an earlier change, and none is answered 4, 8 or 1005: so no such line is in the text that follows it
pub record IsPlain (history : History) : Type 0 where
  pub settlings : settlings_of history ≡ 0
  pub failures : failed_of history ≡ 0
  pub estranged : estranged_of history ≡ 0
  pub undrawn : undrawn_of history ≡ 0

-- what the store of a run stands for when it is opened: what the disk does, or nothing where it is made anew
abbrev pub BeginsWith : {D : Type 0} → DiskGhosts D → Bool → D → Lasting → Type 0
BeginsWith d false disk start = AllImages d disk (StandsFor start)
BeginsWith d true disk start = start ≡ empty_lasting

-- the store of the disk was read, after it was made where it is to be made anew
abbrev pub IsOpenedOn : {D : Type 0} → DiskGhosts D → Bool → Setup → D → Type 0
IsOpenedOn {D = D} d false setup disk = (opened : D) × IsRead d setup disk opened
IsOpenedOn {D = D} d true setup disk = (formatted : D) × (opened : D) × IsFormatted d disk formatted × IsRead d setup formatted opened

module _ {S K D N : Type 0} (s : SourceGhosts S) (k : SinkGhosts K) (d : DiskGhosts D) (n : EntropyGhosts N) where
  -- no call of the source, the sink, the disk or the entropy failed
  pub record AreFaultless (old new : Outside S K D N) : Type 0 where
    pub source : HasNoFault (s.fault_count old.source) (s.fault_count new.source)
    pub sink : HasNoFault (k.fault_count old.sink) (k.fault_count new.sink)
    pub disk : HasNoFault (d.fault_count old.disk) (d.fault_count new.disk)
    pub entropy : HasNoFault (n.fault_count old.entropy) (n.fault_count new.entropy)

  -- The source has these bytes, which are a script within the limits: less than 2^30 bytes, and no line of more than 262,144. The
  -- disk tells its content and is formatted, where it is not formatted by the run.
  pub record IsReady (fresh : Bool) (start : Lasting) (bytes : List ℕ) (old : Outside S K D N) : Type 0 where
    pub told : s.content old.source ≡ Some bytes
    pub few : length bytes < SCRIPT_BYTES
    pub short : AreLines (lines_of bytes)
    pub store : BeginsWith d fresh old.disk start
    pub tells_disk : tells d old.disk ≡ true

  -- all lines of a script were served by a plain legal history, the whole text of its replies or all of its trace was written, and what
  -- it keeps is on the disk
  pub record GivesAll (written : Written) (setup : Setup) (bytes : List ℕ) (old new : Outside S K D N) : Type 0 where
    pub history : History
    pub text : List ℕ
    pub legal : Legal setup history
    pub follows : Follows [] (lines_of bytes) history text
    pub plain : IsPlain history
    pub drew : DrewAll n old.entropy new.entropy history
    pub put : Put k old.sink new.sink (written_of written history text) false
    pub end : IsAtEnd (s.content new.source)
    pub holds : AllImages d new.disk (MayHold setup history)

  -- the run ended with status 0 and all of it, over the lasting part that its store stood for; or memory was wanting
  pub data Completes (g : Given) (fresh : Bool) (start : Lasting) (bytes : List ℕ) (old new : Outside S K D N) (status : Status) : Type 0 where
    Whole : (setup : Setup) → IsSetup setup g.device g.policy g.slots → IsOpenedOn d fresh setup old.disk → setup.start ≡ start → GivesAll g.written setup bytes old new → status ≡ statuses.Ok
        → Completes g fresh start bytes old new status
    Wanting : status ≡ statuses.Memory → Completes g fresh start bytes old new status
