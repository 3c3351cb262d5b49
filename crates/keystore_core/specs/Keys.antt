-- The device with its root of trust, the policy, and the keys and grants that the engine holds.
use Rattle.std.specs.Prelude.{◌≡◌, ℕ, Bool, true, false, ◌∷◌, Some}
use Rattle.tags.specs.declared.settled.Settled.TheVariants.{Kept, Lost}
use Rattle.journal_records.specs.declared.change.Change.{Change}
use Rattle.journal_records.specs.Effects.{after}
use Rattle.key_database.specs.declared.database.KeyDatabase.{KeyDatabase}
use Rattle.rule_model.specs.declared.entry.Entry.TheVariants.{Settling}
use Rattle.journal_records.specs.LastingPart.{some_has_id}
use Rattle.key_database.specs.Stands.{SameStore, is_unsettled, lasting, pending_of}
use Rattle.rule_model.specs.Entries.{History}
use Rattle.rule_model.specs.Kept.{kept}
use Rattle.rule_model.specs.Blobs.{device_at}
use Rattle.rule_model.specs.Settling.{is_unsettled as waits}
use Rattle.rule_model.specs.Setup.{Setup}
use Rattle.keystore_core.specs.declared.tables.Tables.{Tables}

-- whether the key of a number has not ended
abbrev pub live_key : Tables → ℕ → Bool
live_key tables id = some_has_id id (lasting tables.keys).keys

-- no change of the keys and grants waits to be settled
abbrev pub AreSettled : Tables → Type 0
AreSettled tables = is_unsettled tables.keys ≡ false

-- the same device and policy, and the same store of keys and grants
pub record SameKeys (old new : Tables) : Type 0 where
  pub device_is : new.device ≡ old.device
  pub policy_is : new.policy ≡ old.policy
  pub store_is : SameStore old.keys new.keys

-- A change waits to be settled: what the store keeps where it is made, and where it is not, is what the history keeps after
-- each settling.
pub record WaitsFor (setup : Setup) (keys : KeyDatabase) (past : History) (change : Change) : Type 0 where
  pub pending_is : pending_of keys ≡ Some change
  pub made_is : after (lasting keys) change ≡ kept setup (Settling Kept ∷ past)
  pub lost_is : lasting keys ≡ kept setup (Settling Lost ∷ past)

-- they are those of a history
pub record KeysStand (setup : Setup) (tables : Tables) (past : History) : Type 0 where
  pub device_is : tables.device ≡ device_at setup past
  pub policy_is : tables.policy ≡ setup.policy
  pub lasting_is : lasting tables.keys ≡ kept setup past
  pub settled_is : is_unsettled tables.keys ≡ waits past
  pub waiting : waits past ≡ true → (change : Change) × WaitsFor setup tables.keys past change
