-- What is known of the store goes on over an act, and over a step.
use Rattle.key_database.specs.Adding.{KeepsSurely, StepsSurely}
use Rattle.std.proofs.Common.{◌≡◌, ℕ, Bool, true, false, ◌&&◌, not, if◌then◌else◌, List, [], ◌∷◌, Option, None, option_map, Result, Ok, Err, refl, sym, ap, ◌∙◌, subst}
use Rattle.std.specs.Prelude.{IfOk}
use Rattle.std.specs.Option.{option_or}
use Rattle.tags.specs.declared.policy.PolicyRow.{PolicyRow}
use Rattle.tags.specs.declared.secrets.DeviceSecrets.{DeviceSecrets}
use Rattle.tags.specs.declared.settled.Settled.TheVariants.{Kept, Lost}
use Rattle.tags.specs.declared.bytes.NoMemory.{NoMemory}
use Rattle.tags.specs.declared.code.Code.TheVariants.{MemoryAllocationFailed}
use Rattle.ks_outside.specs.declared.disk.Disk.{Ghosts}
use Rattle.ks_outside.specs.Images.{Passes}
use Rattle.journal_records.specs.declared.change.Change.{Change}
use Rattle.journal_records.specs.declared.change.Change.TheVariants as changes
use Rattle.journal_records.specs.Holding.{Holding, Sure, Unsure, known}
use Rattle.journal_records.specs.LastingPart.{Lasting}
use Rattle.key_database.specs.declared.database.KeyDatabase.{KeyDatabase}
use Rattle.key_database.specs.Stands.{Holds, is_unsettled, lasting, areas_of}
use Rattle.key_database.specs.Store.{Between}
use Rattle.cipher_ops.specs.declared.job.Done.{Done as JobDone}
use Rattle.rule_model.specs.declared.entry.Entry.TheVariants.{Acted, Settling}
use Rattle.rule_model.specs.declared.event.Act.{Act}
use Rattle.rule_model.specs.declared.event.Act.TheVariants.{Disconnect, EnterFinish, Leave}
use Rattle.rule_model.specs.declared.event.Event.{Event}
use Rattle.rule_model.specs.declared.facts.Caller.{Caller}
use Rattle.rule_model.specs.declared.reply.Reply.{Reply}
use Rattle.rule_model.specs.declared.reply.Reply.TheVariants.{Done, Broken, Stopped}
use Rattle.rule_model.specs.Acts.{fixed_for, is_restart}
use Rattle.rule_model.specs.Blobs.{device_at}
use Rattle.rule_model.specs.Changes.{change_of}
use Rattle.rule_model.specs.Clients.{caller_of}
use Rattle.rule_model.specs.Entries.{History, is_done}
use Rattle.rule_model.specs.Kept.{kept, open_of, operation_at}
use Rattle.rule_model.specs.Settling.{is_disk_fault, is_system_error, is_unsettled as waits}
use Rattle.rule_model.specs.Setup.{Setup}
use Rattle.rule_model.specs.Stored.{after_reply, change_by, holding_of, torn_by}
use Rattle.rule_model.proofs.Kept.{SameStored, changes_kept, next_holding, quiet_stored, same_holding, waiting_stored}
use Rattle.keystore_core.specs.declared.answered.Answered.{Answered}
use Rattle.keystore_core.specs.declared.tables.Tables.{Tables}
use Rattle.keystore_core.specs.Tables.{IsCaller, ServesAfter, ServesAt, TablesStand, event_by}
use Rattle.live_tables.specs.Clients.{uid_in}
use Rattle.live_tables.specs.Operations.{operation_in}
use Rattle.keystore_core.specs.Writing.{LeavesStore, StoreAnswers, StoreGoes, StoreGoesAfter, caller_by, change_for, use_by, used_of}
use Rattle.keystore_core.proofs.KeyTable.{none_waits}
use Rattle.keystore_core.proofs.Stepped.{row_found}
use Rattle.keystore_core.proofs.Entered.{same_used, use_option}
use Rattle.keystore_core.proofs.Written.{leaves_goes, no_change_for, quiet_goes}

-- ---- an act

-- one that leaves the store alone, or is given up for want of memory
pub leaves_after : {D : Type 0} (g : Ghosts D) (disk : D) (old new : Tables) (caller : Caller) (act : Act) (result : Result Answered NoMemory) → changes_kept act ≡ false
    → IfOk result (λ answered. LeavesStore old new answered) → ServesAfter old new (event_by caller act) result → StoreGoesAfter g old new disk disk caller act result
leaves_after g disk old new caller act (Ok answered) e leaves serves = leaves_goes g disk old new caller act answered leaves e
leaves_after g disk old new caller act (Err fault) e leaves serves = quiet_goes g disk old.keys new.keys false (Stopped MemoryAllocationFailed) serves.keys.store_is refl

-- the same at a step
pub leaves_at : {D : Type 0} (g : Ghosts D) (disk : D) (old new : Tables) (caller : Caller) (act : Act) (step : ℕ) (back : Option JobDone) (result : Result Answered NoMemory) → changes_kept act ≡ false
    → IfOk result (λ answered. LeavesStore old new answered) → ServesAt step back old new (event_by caller act) result → StoreGoesAfter g old new disk disk caller act result
leaves_at g disk old new caller act step back (Ok answered) e leaves serves = leaves_goes g disk old new caller act answered leaves e
leaves_at g disk old new caller act step back (Err fault) e leaves serves = quiet_goes g disk old.keys new.keys false (Stopped MemoryAllocationFailed) serves.keys.store_is refl

-- the caller of an event
pub caller_told : (old : Tables) (event : Event) (caller : Caller) → IsCaller old caller → caller.reading ≡ event.reading → caller.client ≡ event.client → caller ≡ caller_by old event
caller_told old event caller uid reading client = λ i. record { reading = reading i; client = client i; uid = (uid ∙ ap (λ n. uid_in old.clients n) client) i }

-- an event that is given up for want of memory
pub memory_goes : {D : Type 0} (g : Ghosts D) (old new : KeyDatabase) (disk later : D) (restarts : Bool) (change : Option Change) → StoreGoes g old new disk later false None (Stopped MemoryAllocationFailed)
    → StoreGoes g old new disk later restarts change (Stopped MemoryAllocationFailed)
memory_goes g old new disk later restarts change goes = record {
  holds = goes.holds;
  passes = goes.passes;
  goes = goes.goes;
  surely = goes.surely;
}

-- ---- a step

abbrev AreTwo : Holding → Type 0
AreTwo (Sure part) = ⊥
AreTwo (Unsure part later) = Unit {0}

-- over a history where a change waits, an act that settles nothing leaves what is known as it is
waiting_stays : (restarts : Bool) (reply : Reply) (held : Holding) → AreTwo held → after_reply restarts None reply held ≡ held
waiting_stays restarts (Done fields) held unsure = refl
waiting_stays restarts (Broken rule code) held unsure = refl
waiting_stays restarts (Stopped code) (Sure part) unsure = absurd unsure
waiting_stays restarts (Stopped code) (Unsure part later) unsure = by_code (is_system_error code && not restarts) where
  by_code : (b : Bool) → (if b then torn_by None (Unsure part later) else Unsure part later) ≡ Unsure part later
  by_code true = refl
  by_code false = refl

-- an admitted act is no failed call
admitted : (reply : Reply) → is_done reply ≡ true → is_disk_fault reply ≡ false
admitted (Done fields) e = refl
admitted (Broken rule code) e = refl
admitted (Stopped code) e = cc

settles_none : (act : Act) → (fixed_for act).settles ≡ false → changes_kept act ≡ false
settles_none Disconnect e = refl
settles_none (Leave ticket) e = refl
settles_none _ e = cc

module _ {D : Type 0} (g : Ghosts D) (setup : Setup) (past : History) (old new : Tables) (disk later : D) (event : Event) (answered : Answered) (stands : TablesStand setup old past)
    (settled : (fixed_for event.act).settles ≡ true → is_unsettled old.keys ≡ false) (goes : StoreAnswers g old new disk later event answered) where
  abbrev After : History
  After = Acted event answered.drawn answered.reply ∷ past

  caller_is : caller_by old event ≡ caller_of past event
  caller_is = ap (λ uid. record { reading = event.reading; client = event.client; uid = uid }) (stands.clients.uids event.client)

  use_is : (act : Act) (device : DeviceSecrets) (policy : List PolicyRow) (part : Lasting) (caller : Caller) (drawn : List ℕ)
      → option_or (use_by old act) (change_of act device policy part [] caller drawn) ≡ change_of act device policy part (open_of setup past) caller drawn
  use_is (EnterFinish op input signature) device policy part caller drawn =
      use_option (used_of (operation_in old.operations op))
      ∙ ap (option_map changes.Use) (same_used (operation_in old.operations op) (operation_at setup past op) (row_found setup past old op stands))
  use_is _ device policy part caller drawn = refl

  change_is : change_for old (caller_by old event) event.act answered ≡ change_by setup past event answered.drawn
  change_is =
      use_is event.act old.device old.policy (lasting old.keys) (caller_by old event) answered.drawn
      ∙ ap (λ d. change_of event.act d old.policy (lasting old.keys) (open_of setup past) (caller_by old event) answered.drawn) stands.keys.device_is
      ∙ ap (λ p. change_of event.act (device_at setup past) p (lasting old.keys) (open_of setup past) (caller_by old event) answered.drawn) stands.keys.policy_is
      ∙ ap (λ part. change_of event.act (device_at setup past) setup.policy part (open_of setup past) (caller_by old event) answered.drawn) stands.keys.lasting_is
      ∙ ap (λ c. change_of event.act (device_at setup past) setup.policy (kept setup past) (open_of setup past) c answered.drawn) caller_is

  -- where none waits, by the change; where one waits, the act settles nothing, and changes nothing
  idle_next : waits past ≡ false → after_reply (is_restart event.act) (change_for old (caller_by old event) event.act answered) answered.reply (holding_of setup past) ≡ holding_of setup After
  idle_next idle = ap (λ c. after_reply (is_restart event.act) c answered.reply (holding_of setup past)) change_is ∙ sym (next_holding setup past event answered.drawn answered.reply idle)

  quiet_act : waits past ≡ true → changes_kept event.act ≡ false
  quiet_act waiting = settles_none event.act (by_settles (fixed_for event.act).settles refl) where
    by_settles : (b : Bool) → (fixed_for event.act).settles ≡ b → b ≡ false
    by_settles true e = absurd (none_waits past (sym stands.keys.settled_is ∙ settled e) waiting)
    by_settles false e = refl

  two : waits past ≡ true → AreTwo (holding_of setup past)
  two waiting = subst (λ b. AreTwo (if b then Unsure (kept setup (Settling Lost ∷ past)) (kept setup (Settling Kept ∷ past)) else Sure (kept setup past))) (sym waiting) tt

  -- only an act that is admitted, and changes nothing, or one that is not, stands over what waits
  waits_on : waits past ≡ true → SameStored setup past After
  waits_on waiting = by_admitted (is_done answered.reply) refl where
    by_admitted : (b : Bool) → is_done answered.reply ≡ b → SameStored setup past After
    by_admitted true e = quiet_stored setup past event answered.drawn answered.reply (quiet_act waiting) (admitted answered.reply e)
    by_admitted false e = waiting_stored setup past event answered.drawn answered.reply e waiting

  waiting_next : waits past ≡ true → after_reply (is_restart event.act) (change_for old (caller_by old event) event.act answered) answered.reply (holding_of setup past) ≡ holding_of setup After
  waiting_next waiting =
      ap (λ c. after_reply (is_restart event.act) c answered.reply (holding_of setup past)) (no_change_for g disk old (caller_by old event) event.act answered (quiet_act waiting))
      ∙ waiting_stays (is_restart event.act) answered.reply (holding_of setup past) (two waiting)
      ∙ sym (same_holding setup past After (waits_on waiting))

  next : after_reply (is_restart event.act) (change_for old (caller_by old event) event.act answered) answered.reply (holding_of setup past) ≡ holding_of setup After
  next = by_waiting (waits past) refl where
    by_waiting : (b : Bool) → waits past ≡ b → after_reply (is_restart event.act) (change_for old (caller_by old event) event.act answered) answered.reply (holding_of setup past) ≡ holding_of setup After
    by_waiting true e = waiting_next e
    by_waiting false e = idle_next e

  pub store_goes_on : Holds g old.keys disk (holding_of setup past) → Holds g new.keys later (holding_of setup After)
  store_goes_on held = subst (λ h. Holds g new.keys later h) next (goes.holds (holding_of setup past) held)

  pub surely_goes_on : Holds g old.keys disk (holding_of setup past) → KeepsSurely g (areas_of old.keys) disk (known (holding_of setup past))
      → StepsSurely g (areas_of old.keys) (areas_of new.keys) disk later (known (holding_of setup past)) (known (holding_of setup After))
  surely_goes_on held keeps =
      subst (λ (h : Holding). StepsSurely g (areas_of old.keys) (areas_of new.keys) disk later (known (holding_of setup past)) (known h)) next (goes.surely (holding_of setup past) held keeps)

  pub store_passes : Holds g old.keys disk (holding_of setup past) → Passes g disk later (Between (holding_of setup past) (holding_of setup After))
  store_passes held = subst (λ h. Passes g disk later (Between (holding_of setup past) h)) next (goes.passes (holding_of setup past) held)
