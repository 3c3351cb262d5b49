-- When an engine stands for a history.
use Rattle.rule_model.specs.Kept.{kept}
use Rattle.journal_compact.specs.declared.areas.Areas.{Areas}
use Rattle.key_database.specs.Adding.{KeepsSurely}
use Rattle.std.specs.Prelude.{◌≡◌, ◌⊎◌, ℕ, List, [], length, Option, Some, None, Result, Ok, Err}
use Rattle.rule_model.specs.Entries.{History}
use Rattle.rule_model.specs.Legal.{Legal}
use Rattle.tags.specs.declared.settled.Settled.{Settled}
use Rattle.tags.specs.declared.policy.PolicyRow.{PolicyRow}
use Rattle.tags.specs.declared.secrets.DeviceSecrets.{DeviceSecrets}
use Rattle.ks_outside.specs.declared.disk.Disk.{Ghosts}
use Rattle.journal_records.specs.LastingPart.{Lasting}
use Rattle.journal_records.specs.declared.fault.StoreFault.{StoreFault}
use Rattle.journal_records.specs.declared.fault.StoreFault.TheVariants as faults
use Rattle.journal_records.specs.Storable.{IsStorable}
use Rattle.key_database.specs.declared.database.KeyDatabase.{KeyDatabase}
use Rattle.key_database.specs.Stands.{Holds, lasting, areas_of}
use Rattle.key_database.specs.Store.{IsBadStore, MayBe, StandsFor}
use Rattle.rule_model.specs.Stored.{holding_of}
use Rattle.rule_model.specs.Setup.{Setup}
use Rattle.keystore_core.specs.declared.engine.Engine.{Engine}
use Rattle.keystore_core.specs.Tables.{TablesStand}
use Rattle.live_tables.specs.Tickets.{tickets_given}
use Rattle.cipher_ops.specs.declared.job.Done.{Done}
use Rattle.rule_model.specs.declared.event.Act.{Act}
use Rattle.rule_model.specs.Jobs.{HasDone}

-- what is fixed where the tables of a device begin over a store, under a policy and with so many slots
pub record IsOver (setup : Setup) (device : DeviceSecrets) (policy : List PolicyRow) (slots : ℕ) (keys : KeyDatabase) : Type 0 where
  pub start : setup.start ≡ lasting keys
  pub device_is : setup.device ≡ device
  pub policy_is : setup.policy ≡ policy
  pub slots_are : setup.slots ≡ slots

-- the lasting part of an engine
abbrev pub lasting_of : Engine → Lasting
lasting_of engine = lasting engine.tables.keys

-- what is fixed where an engine was opened for a device, under a policy and with so many slots
abbrev pub IsOpened : Setup → DeviceSecrets → List PolicyRow → ℕ → Engine → Type 0
IsOpened setup device policy slots engine = IsOver setup device policy slots engine.tables.keys

-- what an opening read of these bytes, by its answer
abbrev pub OpensStore : List ℕ → Result Engine StoreFault → Type 0
OpensStore image (Ok engine) = StandsFor (lasting_of engine) image
OpensStore image (Err faults.Device) = Unit {0}
OpensStore image (Err (faults.Corrupted offset)) = IsBadStore image offset
OpensStore image (Err faults.Memory) = Unit {0}

-- what it finds where the bytes stand for a lasting part
abbrev pub OpensFor : Lasting → Result Engine StoreFault → Type 0
OpensFor part (Ok engine) = lasting_of engine ≡ part
OpensFor part (Err faults.Device) = Unit {0}
OpensFor part (Err (faults.Corrupted offset)) = ⊥
OpensFor part (Err faults.Memory) = Unit {0}

-- how many entries an engine made
abbrev pub entries_of : Engine → ℕ
entries_of engine = engine.entries

-- how many entries a step makes
abbrev pub entries_made : Option Settled → ℕ
entries_made None = 1
entries_made (Some settled) = 2

-- An engine stands for a history: it counted the entries, and its tables answer as the history says. The history is legal, and
-- what lasted at its start is what a store can stand for.
pub record Stands (setup : Setup) (engine : Engine) (past : History) : Type 0 where
  pub entries : engine.entries ≡ length past
  pub tables : TablesStand setup engine.tables past
  pub legal : Legal setup past
  pub storable : IsStorable setup.start

-- the engine's store and the disk hold what is known by a history
abbrev pub StoreStands : {D : Type 0} → Ghosts D → Setup → Engine → D → History → Type 0
StoreStands g setup engine disk past = Holds g engine.tables.keys disk (holding_of setup past)

-- the areas of an engine's store
abbrev pub areas_in : Engine → Areas
areas_in engine = areas_of engine.tables.keys

-- surely: the disk is sure and tells its bytes, and each image of it stands for what the history keeps, also where a change waits to be settled
abbrev pub StandsSurely : {D : Type 0} → Ghosts D → Setup → Engine → D → History → Type 0
StandsSurely g setup engine disk past = KeepsSurely g (areas_in engine) disk (kept setup past)

-- an image stands for a lasting part that may be that of a history
abbrev pub MayHold : Setup → History → List ℕ → Type 0
MayHold setup past image = MayBe (holding_of setup past) image

-- of one of two histories
abbrev pub MayHoldEither : Setup → History → History → List ℕ → Type 0
MayHoldEither setup past later image = MayHold setup past image ⊎ MayHold setup later image

-- an engine stands for the empty history of some setup
pub record StandsAtFirst (engine : Engine) : Type 0 where
  pub setup : Setup
  pub stands : Stands setup engine []

-- how many tickets an engine gave
abbrev pub tickets_of : Engine → ℕ
tickets_of engine = tickets_given engine.tables.tickets

-- an engine stands for some history
pub record StandsForSome (engine : Engine) : Type 0 where
  pub setup : Setup
  pub past : History
  pub stands : Stands setup engine past

-- An engine may take an act: it stands for some history, and a leave of a ticket that is out comes with what its job came back
-- with.
pub record MayTake (engine : Engine) (act : Act) (back : Option Done) : Type 0 where
  pub setup : Setup
  pub past : History
  pub stands : Stands setup engine past
  pub back_is : HasDone setup past act back
