-- What the rules of a begin read.
use Rattle.std.specs.Prelude.{ℕ, Bool, true, false, not, ◌==◌, List, [], Option, Result, is_some, unwrap_or}
use Rattle.std.specs.Option.{option_map_or}
use Rattle.tags.specs.declared.code.Code.{Code}
use Rattle.tags.specs.declared.descriptor.Descriptor.{Descriptor}
use Rattle.tags.specs.declared.param.Param.{Param}
use Rattle.tags.specs.declared.policy.PolicyRow.{PolicyRow}
use Rattle.tags.specs.declared.secrets.DeviceSecrets.{DeviceSecrets}
use Rattle.tags.specs.declared.tag.Tag.TheVariants.{UsageCountLimit}
use Rattle.tag_lists.specs.Lookups.{stands}
use Rattle.key_domains.specs.declared.access.Access.{Access}
use Rattle.key_domains.specs.declared.access.Access.TheVariants.{Blob}
use Rattle.journal_records.specs.declared.record.KeyRecord.{KeyRecord}
use Rattle.key_blobs.specs.declared.fault.BlobFault.{BlobFault}
use Rattle.key_blobs.specs.declared.sealed.Opened.{Opened}
use Rattle.key_rules.specs.Asked.{asked as asked_in}
use Rattle.use_rules.specs.declared.facts.BeginFacts.{BeginFacts}
use Rattle.rule_model.specs.declared.facts.Caller.{Caller}
use Rattle.rule_model.specs.declared.facts.Conditions.{Conditions}
use Rattle.rule_model.specs.Access.{bits_in, id_of, row_for, user_of}
use Rattle.rule_model.specs.Blobs.{fits_key, list_read, opened_for}

-- ---- the key of a begin

-- whether there is one, its number where it is stored, what its blob gives to the operation's list, and whether all output comes
-- at the finish
pub record BeginKey : Type 0 where
  pub found : Bool
  pub id : Option ℕ
  pub opened : Result Opened BlobFault
  pub limited : Bool

-- a stored key is there where it was found; a blob that is handed in always is
abbrev pub is_found : Access → Option KeyRecord → Bool
is_found (Blob bits) stored = true
is_found access stored = is_some stored

-- the blob of the stored key, or the one that is handed in; no bytes, which open nowhere, where there is none
abbrev pub blob_for : Access → Option KeyRecord → Descriptor → List ℕ
blob_for (Blob bits) stored key = unwrap_or key.blob []
blob_for access stored key = option_map_or (λ (held : KeyRecord). held.blob) stored []

-- a key with a use limit is limited
abbrev pub is_limited : ℕ → Bool
is_limited limit = not (limit == 0)

-- a stored key is limited by its record, and a blob that is handed in by its list
abbrev pub limited_by : Access → Option KeyRecord → Option (List Param) → Bool
limited_by (Blob bits) stored list = option_map_or (stands UsageCountLimit) list false
limited_by access stored list = option_map_or (λ (held : KeyRecord). is_limited held.limit) stored false

-- the key of a begin: what the caller's descriptor finds with its bits, opened once for the device and the operation's ids
abbrev pub begin_key : DeviceSecrets → Access → Option KeyRecord → Descriptor → Result (List Param) Code → BeginKey
begin_key device access stored key asked = record {
  found = is_found access stored;
  id = id_of stored;
  opened = opened_for device asked (blob_for access stored key);
  limited = limited_by access stored (list_read (opened_for device asked (blob_for access stored key)));
}

-- ---- the facts

-- the facts of a caller's call on a device, by whether there is a key, the list in its blob and whether it fits, the caller's bits, the
-- operation's list, and the conditions
abbrev pub facts_by : DeviceSecrets → List PolicyRow → Bool → Option (List Param) → Bool → Access → Caller → Descriptor → Result (List Param) Code → Bool → Conditions → BeginFacts
facts_by device policy found opened fits access caller key asked forced conditions = record {
  connected = is_some caller.uid;
  descriptor = key;
  row = row_for policy caller key.nspace;
  found = found;
  bits = bits_in access;
  forced = forced;
  asked = asked;
  opened = opened;
  fits = fits;
  os = device.os;
  patch = device.patch;
  wall = caller.reading.wall;
  user = user_of caller;
  early_ended = conditions.early_ended;
  unlocked = conditions.unlocked;
  timely = conditions.timely;
  begins = conditions.begins;
  room = conditions.room;
}

-- by the key of the begin
abbrev pub facts_on : DeviceSecrets → List PolicyRow → BeginKey → Access → Caller → Descriptor → List ℕ → Bool → Conditions → BeginFacts
facts_on device policy begun access caller key params forced conditions =
    facts_by device policy begun.found (list_read begun.opened) (fits_key begun.opened) access caller key (asked_in params) forced conditions
