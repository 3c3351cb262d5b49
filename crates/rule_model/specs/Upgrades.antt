-- upgradeKey: what its rules read, and what stands in the key's blob behind it.
use Rattle.std.specs.Prelude.{ℕ, nat_le, List, [], Option, Some, None, Result, Ok, Err, if◌then◌else◌, is_ok, is_some, length, unwrap_or}
use Rattle.tags.specs.declared.code.Code.{Code}
use Rattle.tags.specs.declared.descriptor.Descriptor.{Descriptor}
use Rattle.tags.specs.declared.param.Param.{Param}
use Rattle.tags.specs.declared.policy.PolicyRow.{PolicyRow}
use Rattle.tags.specs.declared.rule.Rule.{Rule}
use Rattle.tags.specs.declared.rule.RuleTable.TheVariants.{A}
use Rattle.tags.specs.declared.secrets.DeviceSecrets.{DeviceSecrets}
use Rattle.tags.specs.declared.tag.Tag.TheVariants.{OsVersion, OsPatchlevel}
use Rattle.tags.specs.Table.{first_broken, where_all_hold}
use Rattle.tag_lists.specs.Spelling.{spelling}
use Rattle.tag_lists.specs.Versions.{is_no_older, version_of, with_versions}
use Rattle.key_domains.specs.declared.access.Access.{Access}
use Rattle.journal_records.specs.declared.record.KeyRecord.{KeyRecord}
use Rattle.journal_records.specs.LastingPart.{Lasting}
use Rattle.key_blobs.specs.declared.fault.BlobFault.{BlobFault}
use Rattle.key_blobs.specs.declared.sealed.Opened.{Opened}
use Rattle.key_blobs.specs.declared.sealed.Sealed.{Sealed}
use Rattle.key_blobs.specs.Blobs.{blob_of, sealed_for}
use Rattle.key_blobs.specs.Text.{blob_size}
use Rattle.key_rules.specs.Asked.{asked as asked_in}
use Rattle.use_rules.specs.Table.{list_or_none}
use Rattle.call_rules.specs.declared.facts.KeyCallFacts.{KeyCallFacts}
use Rattle.call_rules.specs.declared.facts.UpgradeFacts.{UpgradeFacts}
use Rattle.call_rules.specs.Table.{upgrade_key_rules}
use Rattle.rule_model.specs.declared.facts.Caller.{Caller}
use Rattle.rule_model.specs.Access.{access_by, bits_in, key_in, row_for}
use Rattle.rule_model.specs.BeginFacts.{blob_for, is_found}
use Rattle.rule_model.specs.Blobs.{list_read, material_read, opened_for}

-- ---- what the rules read

-- of the call: as of every call on a key, but that a blob that is handed in is always found
abbrev pub upgrade_call_facts : List PolicyRow → Access → Option KeyRecord → Caller → Descriptor → KeyCallFacts
upgrade_call_facts policy access stored caller key = record {
  connected = is_some caller.uid;
  row = row_for policy caller key.nspace;
  found = is_found access stored;
  bits = bits_in access;
}

-- that a list reads, or the code for one that does not
abbrev pub is_read : Result (List Param) Code → Result (Unit {0}) Code
is_read (Ok list) = Ok tt
is_read (Err code) = Err code

-- the list that was opened; where none was, no parameters
abbrev pub list_opened : Result Opened BlobFault → List Param
list_opened opened = unwrap_or (list_read opened) []

-- What stands in the blob behind an upgrade: the same ids, which are those of the call's list, and the same material, with the
-- device's versions in the list (KeyMint's upgradeKey).
abbrev pub upgraded : DeviceSecrets → Result (List Param) Code → Result Opened BlobFault → Sealed
upgraded device asked opened =
    sealed_for device (list_or_none asked) (with_versions device.os device.patch (list_opened opened)) (material_read opened)

-- the greater of two lengths
abbrev pub longer : ℕ → ℕ → ℕ
longer a b = if nat_le a b then b else a

-- Of the key's blob, opened for the device and the ids of the call's list. The blob that stands there behind the upgrade is the given one
-- or the new one, so its length is that of the longer.
abbrev pub upgrade_facts : DeviceSecrets → KeyCallFacts → Result (List Param) Code → List ℕ → Result Opened BlobFault → UpgradeFacts
upgrade_facts device call asked given opened = record {
  call = call;
  asked = is_read asked;
  opens = is_some (list_read opened);
  same = is_ok opened;
  key_os = version_of OsVersion (list_opened opened);
  key_patch = version_of OsPatchlevel (list_opened opened);
  os = device.os;
  patch = device.patch;
  list = length (spelling (upgraded device asked opened).list);
  blob = longer (length given) (blob_size (upgraded device asked opened));
}

-- ---- whether it changes a blob

-- what is sealed anew: nothing where the list has the device's versions already
abbrev pub sealed_anew : DeviceSecrets → Result (List Param) Code → Result Opened BlobFault → Option Sealed
sealed_anew device asked opened =
    if is_no_older device.os device.patch (list_opened opened) then None else Some (upgraded device asked opened)

-- by the blob that was opened: the first rule that is broken, or what is sealed anew
abbrev pub upgrade_by : DeviceSecrets → KeyCallFacts → Descriptor → Result (List Param) Code → List ℕ → Result Opened BlobFault → Result (Option Sealed) (Rule × Code)
upgrade_by device call key asked given opened =
    where_all_hold (first_broken A (upgrade_key_rules key (upgrade_facts device call asked given opened))) (sealed_anew device asked opened)

-- by what the descriptor finds
abbrev pub upgrade_on : DeviceSecrets → List PolicyRow → Access → Option KeyRecord → Caller → Descriptor → Result (List Param) Code → Result (Option Sealed) (Rule × Code)
upgrade_on device policy access stored caller key asked =
    upgrade_by device (upgrade_call_facts policy access stored caller key) key asked (blob_for access stored key)
    (opened_for device asked (blob_for access stored key))

-- An upgrade by a caller, over what lasts: the first rule that it breaks, or what it seals anew. The answer, the draws and the
-- change all read this.
abbrev pub upgrade_in : DeviceSecrets → List PolicyRow → Lasting → Caller → Descriptor → List ℕ → Result (Option Sealed) (Rule × Code)
upgrade_in device policy part caller key params =
    upgrade_on device policy (access_by policy part caller key) (key_in part (access_by policy part caller key)) caller key (asked_in params)

-- the blob behind an upgrade, with the drawn bytes as the nonce: the given one where nothing is sealed anew
abbrev pub blob_behind : DeviceSecrets → Descriptor → List ℕ → Option Sealed → List ℕ
blob_behind device key drawn None = unwrap_or key.blob []
blob_behind device key drawn (Some sealed) = blob_of device.seal drawn sealed
