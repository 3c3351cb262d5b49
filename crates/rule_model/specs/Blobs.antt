-- The blobs of keys: the root of trust that they are sealed for, how a new key is kept, and what an operation's list gets from one.
use Rattle.std.specs.Prelude.{ℕ, Bool, false, List, [], ◌∷◌, Option, Some, None, Result, Ok, Err, if◌then◌else◌, is_ok, length}
use Rattle.tags.specs.declared.code.Code.{Code}
use Rattle.tags.specs.declared.param.Param.{Param}
use Rattle.tags.specs.declared.rule.RuleTable.TheVariants.{K}
use Rattle.tags.specs.declared.secrets.DeviceSecrets.{DeviceSecrets}
use Rattle.tags.specs.declared.tag.Tag.TheVariants.{ApplicationId, ApplicationData}
use Rattle.tags.specs.Table.{first_broken}
use Rattle.tag_lists.specs.Lookups.{bytes_of}
use Rattle.key_blobs.specs.declared.fault.BlobFault.{BlobFault}
use Rattle.key_blobs.specs.declared.fault.BlobFault.TheVariants.{Root, App}
use Rattle.key_blobs.specs.declared.sealed.Opened.{Opened}
use Rattle.key_blobs.specs.Blobs.{blob_of, unsealed}
use Rattle.key_rules.specs.declared.plan.KeyPlan.{KeyPlan}
use Rattle.key_rules.specs.Table.{key_rules}
use Rattle.use_rules.specs.Table.{list_or_none}
use Rattle.rule_model.specs.declared.entry.Entry.{Entry}
use Rattle.rule_model.specs.declared.entry.Entry.TheVariants.{Acted, Settling}
use Rattle.rule_model.specs.declared.event.Act.{Act}
use Rattle.rule_model.specs.declared.event.Act.TheVariants.{Restart}
use Rattle.rule_model.specs.Entries.{History, is_done}
use Rattle.rule_model.specs.Setup.{Setup}

-- ---- the root of trust

-- the root of trust behind an act: the one that a restart gives, else the one before
abbrev pub root_given : Act → List ℕ → List ℕ
root_given (Restart (Some root)) before = root
root_given _ before = before

-- only an admitted restart gives one
abbrev pub root_after : Entry → List ℕ → List ℕ
root_after (Acted event drawn reply) before = if is_done reply then root_given event.act before else before
root_after (Settling settled) before = before

-- that of the last admitted restart that gave one, else the device's
abbrev pub root_of : Setup → History → List ℕ
root_of setup [] = setup.device.root
root_of setup (entry ∷ past) = root_after entry (root_of setup past)

-- the device's secrets with that root of trust
abbrev pub device_at : Setup → History → DeviceSecrets
device_at setup past = record setup.device { root = root_of setup past }

-- ---- a new key

-- How a new key is kept: its list and material, with the ids of the caller's list, sealed under the device's key for its root of
-- trust, with these bytes as the nonce (AES-256-GCM, SP 800-38D).
abbrev pub kept_as : DeviceSecrets → KeyPlan → List ℕ → List ℕ → List ℕ
kept_as device plan nonce material =
    blob_of device.seal nonce (record { root = device.root; app_id = plan.app_id; app_bytes = plan.app_bytes; list = plan.list; material = material })

-- ---- an operation

-- A blob opened for an operation's list: nothing but what is sealed under the device's key, for its root of trust and for the
-- APPLICATION_ID and APPLICATION_DATA of that list. An absent one is equal to an absent one alone.
abbrev pub opened_for : DeviceSecrets → Result (List Param) Code → List ℕ → Result Opened BlobFault
opened_for device asked blob =
    unsealed device.seal device.root (bytes_of ApplicationId (list_or_none asked)) (bytes_of ApplicationData (list_or_none asked)) blob

-- the list that the rules read: none where the blob does not open; what is sealed for another root of trust or other ids is not
-- read
abbrev pub list_read : Result Opened BlobFault → Option (List Param)
list_read (Ok key) = Some key.list
list_read (Err Root) = Some []
list_read (Err App) = Some []
list_read (Err fault) = None

-- the material that was in a blob; none where it does not open
abbrev pub material_read : Result Opened BlobFault → List ℕ
material_read (Ok key) = key.material
material_read (Err fault) = []

-- the blob is for this device and these ids, and its list and material are those of a key
abbrev pub fits_key : Result Opened BlobFault → Bool
fits_key (Ok key) = is_ok (first_broken K (key_rules (length key.material) key.list))
fits_key (Err fault) = false
