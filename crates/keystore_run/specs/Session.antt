-- What a line of a script leaves in a session.
use Rattle.std.specs.Prelude.{◌≡◌, ℕ, ◌+◌, ◌≤◌, ◌⊎◌, Bool, false, List, [], Option, Result, Ok, Err}
use Rattle.ks_outside.specs.Shown.{Drew}
use Rattle.ks_outside.specs.declared.disk.Disk.{Ghosts as DiskGhosts}
use Rattle.ks_outside.specs.declared.entropy.Entropy.{Ghosts as EntropyGhosts}
use Rattle.tags.specs.declared.bytes.NoMemory.{NoMemory}
use Rattle.rule_model.specs.declared.entry.Stepped.{Stepped}
use Rattle.rule_model.specs.declared.event.Event.{Event}
use Rattle.rule_model.specs.declared.event.Line.{Line}
use Rattle.rule_model.specs.Drawn.{undrawn_of}
use Rattle.rule_model.specs.Entries.{History, after_step}
use Rattle.rule_model.specs.Legal.{MayStep}
use Rattle.rule_model.specs.Settling.{is_disk_fault}
use Rattle.rule_model.specs.Setup.{Setup}
use Rattle.script_lines.specs.Lines.{event_of}
use Rattle.keystore_core.specs.declared.engine.Engine.{Engine}
use Rattle.keystore_core.specs.Engine.{Stands, StoreStands, entries_of, tickets_of}
use Rattle.keystore_run.specs.declared.jobs.Jobs.{Jobs}
use Rattle.keystore_run.specs.declared.session.Session.{Session}
use Rattle.keystore_run.specs.declared.written.Written.{Written}
use Rattle.keystore_run.specs.Drawn.{DrewMore}
use Rattle.keystore_run.specs.Follows.{Says}
use Rattle.keystore_run.specs.Jobs.{HasRoomForJob, JobsStand}
use Rattle.keystore_run.specs.KeptStores.{KeepsMore, failed_of}
use Rattle.keystore_run.specs.Written.{Adds}

-- the disk and the entropy that a session is handed, at one moment
pub record Devices (D N : Type 0) : Type 0 where
  pub disk : D
  pub entropy : N

abbrev pub devices : {D N : Type 0} → D → N → Devices D N
devices disk entropy = record { disk = disk; entropy = entropy }

-- the engine of a session stands for a history
abbrev pub EngineStands : Setup → Session → History → Type 0
EngineStands setup session past = Stands setup session.engine past

-- its store and the disk hold what is known by the history
abbrev pub StoreHolds : {D : Type 0} → DiskGhosts D → Setup → Session → D → History → Type 0
StoreHolds d setup session disk past = StoreStands d setup session.engine disk past

-- the parts of a session
abbrev pub engine_of : Session → Engine
engine_of session = session.engine

abbrev pub jobs_of : Session → Jobs
jobs_of session = session.jobs

-- a session and a disk stand for a legal history, and the session holds the jobs of the works that are out
pub record StandsFor {D : Type 0} (d : DiskGhosts D) (setup : Setup) (session : Session) (disk : D) (past : History) : Type 0 where
  pub stands : EngineStands setup session past
  pub store : StoreHolds d setup session disk past
  pub held : JobsStand setup session.jobs past

-- A session went on by a line that says this, with this text of replies. At most one of its entries was answered for a failed call, of the
-- disk or of the entropy.
pub record GoesBy {D N : Type 0} (d : DiskGhosts D) (n : EntropyGhosts N) (setup : Setup) (past : History) (new : Session) (said : Option Line) (before after : Devices D N) (later : History) (text : List ℕ) : Type 0 where
  pub says : Says past said later text
  pub drew : DrewMore n before.entropy after.entropy past later
  pub failed : Bool
  pub keeps : KeepsMore d setup before.disk after.disk past later failed
  pub one : failed_of later + undrawn_of later ≤ failed_of past + undrawn_of past + 1
  pub stands : StandsFor d setup new after.disk later

-- the same of a line's bytes
abbrev pub GoesOn : {D N : Type 0} → DiskGhosts D → EntropyGhosts N → Setup → History → Session → List ℕ → Devices D N → Devices D N → History → List ℕ → Type 0
GoesOn d n setup past new line before after later text = GoesBy d n setup past new (event_of line) before after later text

-- a session stands for what it stood for, no byte was drawn, and the disk was not called
pub record Stays {D N : Type 0} (d : DiskGhosts D) (n : EntropyGhosts N) (setup : Setup) (past : History) (new : Session) (before after : Devices D N) : Type 0 where
  pub stands : StandsFor d setup new after.disk past
  pub undrawn : Drew n before.entropy after.entropy [] false
  pub uncalled : after.disk ≡ before.disk

-- A line was served, and this is what is written of it; or memory was wanting with all of the line's entries made, or with none. What
-- is written of a line is no part of how the session goes on.
abbrev pub ServesBy : {D N : Type 0} → DiskGhosts D → EntropyGhosts N → Written → Setup → History → Session → Option Line → Devices D N → Devices D N → Result (List ℕ) NoMemory → Type 0
ServesBy d n written setup past new said before after (Ok added) =
    (later : History) × (text : List ℕ) × GoesBy d n setup past new said before after later text × Adds written past later text added
ServesBy d n written setup past new said before after (Err fault) =
    ((later : History) × (text : List ℕ) × (added : List ℕ) × GoesBy d n setup past new said before after later text × Adds written past later text added)
    ⊎ Stays d n setup past new before after

abbrev pub Serves : {D N : Type 0} → DiskGhosts D → EntropyGhosts N → Written → Setup → History → Session → List ℕ → Devices D N → Devices D N → Result (List ℕ) NoMemory → Type 0
Serves d n written setup past new line before after result = ServesBy d n written setup past new (event_of line) before after result

-- the next ticket has room for its job
abbrev pub HasRoom : Session → Type 0
HasRoom session = HasRoomForJob session.jobs (tickets_of session.engine + 1)

-- a session after a step of an event
pub record StepsTo {D : Type 0} (d : DiskGhosts D) (setup : Setup) (past : History) (new : Session) (before after : D) (event : Event) (stepped : Stepped) : Type 0 where
  pub follows : MayStep setup past stepped.settled event stepped.drawn stepped.reply
  pub stands : EngineStands setup new (after_step stepped.settled event stepped.drawn stepped.reply past)
  pub store : StoreHolds d setup new after (after_step stepped.settled event stepped.drawn stepped.reply past)
  pub held : JobsStand setup new.jobs (after_step stepped.settled event stepped.drawn stepped.reply past)
  pub keeps : KeepsMore d setup before after past (after_step stepped.settled event stepped.drawn stepped.reply past) (is_disk_fault stepped.reply)

-- how many entries a session made
abbrev pub entries_in : Session → ℕ
entries_in session = entries_of session.engine
