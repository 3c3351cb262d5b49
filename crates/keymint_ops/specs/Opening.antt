-- What a call reads of the blob of a key.
use Rattle.std.specs.Prelude.{ℕ, Bool, true, false, ◌&&◌, List, [], Some, None, Result, Ok, Err, if◌then◌else◌, is_ok, length}
use Rattle.tags.specs.declared.code.Code.{Code}
use Rattle.tags.specs.declared.param.Param.{Param}
use Rattle.tags.specs.declared.rule.RuleTable.TheVariants.{K}
use Rattle.tags.specs.declared.secrets.DeviceSecrets.{DeviceSecrets}
use Rattle.tags.specs.declared.tag.Tag.TheVariants.{ApplicationId, ApplicationData}
use Rattle.tags.specs.Table.{first_broken}
use Rattle.tag_lists.specs.Lookups.{bytes_of}
use Rattle.key_blobs.specs.declared.fault.BlobFault.{BlobFault}
use Rattle.key_blobs.specs.declared.fault.BlobFault.TheVariants.{Root, App}
use Rattle.key_blobs.specs.declared.sealed.Opened.{Opened}
use Rattle.key_blobs.specs.Blobs.{unsealed}
use Rattle.key_rules.specs.Table.{key_rules}
use Rattle.use_rules.specs.Table.{list_or_none}
use Rattle.keymint_ops.specs.declared.opening.OpenedBlob.{OpenedBlob}
use Rattle.keymint_ops.specs.declared.opening.OpenedKey.{OpenedKey}

-- a blob that opens for another root of trust or other ids, or not at all, gives nothing
abbrev pub closed : Bool → OpenedBlob
closed opens = record { opens = opens; same = false; list = []; material = [] }

-- what opening a blob gives
abbrev pub opens_as : Result Opened BlobFault → OpenedBlob
opens_as (Ok x) = record { opens = true; same = true; list = x.list; material = x.material }
opens_as (Err Root) = closed true
opens_as (Err App) = closed true
opens_as (Err _) = closed false

-- list and material meet the rules of a key that was made
abbrev pub is_usable : OpenedBlob → Bool
is_usable own = is_ok (first_broken K (key_rules (length own.material) own.list))

-- what the rules of a begin read of it: no list where it does not open
abbrev pub key_of : OpenedBlob → OpenedKey
key_of own = record { list = if own.opens then Some own.list else None; fits = own.same && is_usable own; material = own.material }

abbrev pub read_as : Result Opened BlobFault → OpenedKey
read_as opened = key_of (opens_as opened)

-- the blob opened for a device, and for the ids of the call's list
abbrev pub opened_for : DeviceSecrets → Result (List Param) Code → List ℕ → Result Opened BlobFault
opened_for device asked blob =
    unsealed device.seal device.root (bytes_of ApplicationId (list_or_none asked)) (bytes_of ApplicationData (list_or_none asked)) blob

abbrev pub opened_blob : DeviceSecrets → Result (List Param) Code → List ℕ → OpenedBlob
opened_blob device asked blob = opens_as (opened_for device asked blob)

-- what the rules of a begin read of a blob
abbrev pub opened_key : DeviceSecrets → Result (List Param) Code → List ℕ → OpenedKey
opened_key device asked blob = read_as (opened_for device asked blob)
