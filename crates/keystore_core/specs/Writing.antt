-- What an act does to the store.
use Rattle.std.specs.Prelude.{◌≡◌, ℕ, Bool, true, false, [], Option, Some, None, option_map, if◌then◌else◌, Result, Ok, Err}
use Rattle.std.specs.Option.{option_or}
use Rattle.tags.specs.declared.bytes.NoMemory.{NoMemory}
use Rattle.tags.specs.declared.code.Code.TheVariants.{MemoryAllocationFailed, SystemError}
use Rattle.ks_outside.specs.declared.disk.Disk.{Ghosts}
use Rattle.ks_outside.specs.Images.{Goes, Passes}
use Rattle.journal_records.specs.declared.change.Change.{Change}
use Rattle.journal_records.specs.declared.change.Change.TheVariants as changes
use Rattle.journal_records.specs.Effects.{after}
use Rattle.journal_records.specs.Holding.{Holding, known}
use Rattle.key_database.specs.declared.database.KeyDatabase.{KeyDatabase}
use Rattle.key_database.specs.Adding.{KeepsSurely, StepsSurely}
use Rattle.key_database.specs.Stands.{Holds, SameStore, areas_of, is_unsettled, lasting, pending_of}
use Rattle.key_database.specs.Store.{Between}
use Rattle.rule_model.specs.declared.event.Act.{Act}
use Rattle.rule_model.specs.declared.event.Act.TheVariants.{EnterFinish}
use Rattle.rule_model.specs.declared.event.Event.{Event}
use Rattle.rule_model.specs.declared.facts.Caller.{Caller}
use Rattle.rule_model.specs.declared.reply.Fields.{Fields}
use Rattle.rule_model.specs.declared.reply.Reply.{Reply}
use Rattle.rule_model.specs.declared.reply.Reply.TheVariants.{Done, Stopped}
use Rattle.rule_model.specs.Acts.{is_restart}
use Rattle.rule_model.specs.Changes.{change_of}
use Rattle.rule_model.specs.Settling.{is_disk_fault}
use Rattle.rule_model.specs.Stored.{after_reply}
use Rattle.keystore_core.specs.declared.answered.Answered.{Answered}
use Rattle.keystore_core.specs.declared.tables.Tables.{Tables}
use Rattle.live_tables.specs.declared.operations.OperationRow.{OperationRow}
use Rattle.live_tables.specs.Clients.{uid_in}
use Rattle.live_tables.specs.Operations.{operation_in}
use Rattle.keystore_core.specs.Keys.{SameKeys}

-- a change was made, in the store and in what is held
pub record HasMade (old new : KeyDatabase) (change : Change) : Type 0 where
  pub lasting_is : lasting new ≡ after (lasting old) change
  pub settled : is_unsettled new ≡ false

-- a device call of a change failed: what is held stays, and the change waits to be settled
pub record IsTorn (old new : KeyDatabase) (change : Change) : Type 0 where
  pub lasting_is : lasting new ≡ lasting old
  pub waits : is_unsettled new ≡ true
  pub pending_is : pending_of new ≡ Some change

-- what became of a change, by its reply: it was made, and the fields are told; or a device call failed
pub data IsWritten (old new : KeyDatabase) (change : Change) (fields : Fields) (reply : Reply) : Type 0 where
  Made : HasMade old new change → reply ≡ Done fields → IsWritten old new change fields reply
  Torn : IsTorn old new change → reply ≡ Stopped SystemError → IsWritten old new change fields reply

-- the same where there may be no change: the store stays then, and the fields are told
abbrev pub IsWrittenIf : KeyDatabase → KeyDatabase → Option Change → Fields → Reply → Type 0
IsWrittenIf old new None fields reply = SameStore old new × (reply ≡ Done fields)
IsWrittenIf old new (Some change) fields reply = IsWritten old new change fields reply

-- What is known of the store goes on by the change that the entry would make and its reply. At each moment each image stands for
-- what may have been before, or may be after. The disk failed exactly where the reply says so. And on a sure disk that tells its bytes
-- what is surely kept goes on with what is known, and the places tell what was added.
pub record StoreGoes {D : Type 0} (g : Ghosts D) (old new : KeyDatabase) (disk later : D) (restarts : Bool) (change : Option Change) (reply : Reply) : Type 0 where
  pub holds : (held : Holding) → Holds g old disk held → Holds g new later (after_reply restarts change reply held)
  pub passes : (held : Holding) → Holds g old disk held → Passes g disk later (Between held (after_reply restarts change reply held))
  pub goes : Goes g disk later (is_disk_fault reply)
  pub surely : (held : Holding) → Holds g old disk held → KeepsSurely g (areas_of old) disk (known held)
      → StepsSurely g (areas_of old) (areas_of new) disk later (known held) (known (after_reply restarts change reply held))

-- an act leaves the store alone: the keys and grants are as they were, and no device call failed
pub record LeavesStore (old new : Tables) (answered : Answered) : Type 0 where
  pub keys : SameKeys old new
  pub no_fault : is_disk_fault answered.reply ≡ false

-- the stored key with a use limit that a finish on an operation uses once
abbrev pub used_of : Option OperationRow → Option ℕ
used_of None = None
used_of (Some row) = if row.limited then row.key else None

abbrev pub use_by : Tables → Act → Option Change
use_by tables (EnterFinish op input signature) = option_map changes.Use (used_of (operation_in tables.operations op))
use_by tables _ = None

-- the change that an act would make of what the tables hold
abbrev pub change_for : Tables → Caller → Act → Answered → Option Change
change_for tables caller act answered = option_or (use_by tables act) (change_of act tables.device tables.policy (lasting tables.keys) [] caller answered.drawn)

-- the same of an act, by its answer
abbrev pub StoreGoesFor : {D : Type 0} → Ghosts D → Tables → Tables → D → D → Caller → Act → Answered → Type 0
StoreGoesFor g old new disk later caller act answered = StoreGoes g old.keys new.keys disk later (is_restart act) (change_for old caller act answered) answered.reply

-- of an act that may be given up for want of memory, which changes nothing
abbrev pub StoreGoesAfter : {D : Type 0} → Ghosts D → Tables → Tables → D → D → Caller → Act → Result Answered NoMemory → Type 0
StoreGoesAfter g old new disk later caller act (Ok answered) = StoreGoesFor g old new disk later caller act answered
StoreGoesAfter g old new disk later caller act (Err fault) = StoreGoes g old.keys new.keys disk later false None (Stopped MemoryAllocationFailed)

-- the same of an event, whose caller has the uid of its client
abbrev pub caller_by : Tables → Event → Caller
caller_by tables event = record { reading = event.reading; client = event.client; uid = uid_in tables.clients event.client }

abbrev pub StoreAnswers : {D : Type 0} → Ghosts D → Tables → Tables → D → D → Event → Answered → Type 0
StoreAnswers g old new disk later event answered = StoreGoesFor g old new disk later (caller_by old event) event.act answered
