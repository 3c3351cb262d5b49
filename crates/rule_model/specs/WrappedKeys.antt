-- A key that comes wrapped under another one: what its rules read of that key, and its text.
use Rattle.std.specs.Prelude.{ℕ, Bool, false, ◌&&◌, List, Option, None, Result, Ok, Err, if◌then◌else◌, is_some, length}
use Rattle.aes_core.specs.Cipher.{inverse_cipher}
use Rattle.key_wrap.specs.Lengths.{is_wrapped_length}
use Rattle.key_wrap.specs.Wrapping.{kw_open}
use Rattle.tags.specs.declared.code.Code.{Code}
use Rattle.tags.specs.declared.descriptor.Descriptor.{Descriptor}
use Rattle.tags.specs.declared.param.Param.{Param}
use Rattle.tags.specs.declared.policy.PolicyRow.{PolicyRow}
use Rattle.tags.specs.declared.secrets.DeviceSecrets.{DeviceSecrets}
use Rattle.tag_lists.specs.Lookups.{is_aes}
use Rattle.key_domains.specs.declared.access.Access.{Access}
use Rattle.journal_records.specs.declared.record.KeyRecord.{KeyRecord}
use Rattle.journal_records.specs.LastingPart.{Lasting}
use Rattle.key_blobs.specs.declared.fault.BlobFault.{BlobFault}
use Rattle.key_blobs.specs.declared.sealed.Opened.{Opened}
use Rattle.key_rules.specs.declared.facts.WrapFacts.{WrapFacts}
use Rattle.key_rules.specs.Asked.{asked as asked_in}
use Rattle.rule_model.specs.declared.facts.Caller.{Caller}
use Rattle.rule_model.specs.Access.{access_by, bits_in, key_in, row_for}
use Rattle.rule_model.specs.BeginFacts.{blob_for, is_found}
use Rattle.rule_model.specs.Blobs.{fits_key, list_read, material_read, opened_for}
use Rattle.rule_model.specs.KeySources.{KeySource, unwrapped}

-- the key in a blob that was opened can have so many bytes unwrapped: it fits, it is one of AES, and a wrapped text may have so many
abbrev pub may_unwrap : Result Opened BlobFault → ℕ → Bool
may_unwrap (Ok key) size = (fits_key (Ok key) && is_aes key.list) && is_wrapped_length size
may_unwrap (Err fault) size = false

-- the text of these bytes under the key in a blob that was opened (KW-AD of SP 800-38F section 6.2), where it can unwrap them
abbrev pub opened_text : Result Opened BlobFault → List ℕ → Option (List ℕ)
opened_text opened wrapped =
    if may_unwrap opened (length wrapped) then kw_open (inverse_cipher (material_read opened)) wrapped else None

-- what the rules read of a wrapping key, by what its descriptor finds, and of the wrapped text
abbrev pub wrap_facts : List PolicyRow → Access → Option KeyRecord → Caller → Descriptor → Result (List Param) Code → Result Opened BlobFault → List ℕ → WrapFacts
wrap_facts policy access stored caller wrapping asked opened wrapped = record {
  descriptor = wrapping;
  row = row_for policy caller wrapping.nspace;
  found = is_found access stored;
  bits = bits_in access;
  asked = asked;
  opened = list_read opened;
  fits = fits_key opened;
  length = length wrapped;
  opens = is_some (opened_text opened wrapped);
}

-- by the wrapping key's blob, opened for the device and the ids of its list
abbrev pub unwrapped_by : List PolicyRow → Access → Option KeyRecord → Caller → Descriptor → Result (List Param) Code → Result Opened BlobFault → List ℕ → KeySource
unwrapped_by policy access stored caller wrapping asked opened wrapped =
    unwrapped (wrap_facts policy access stored caller wrapping asked opened wrapped) (opened_text opened wrapped)

-- by what the descriptor finds
abbrev pub unwrapped_on : DeviceSecrets → List PolicyRow → Access → Option KeyRecord → Caller → Descriptor → List ℕ → Result (List Param) Code → KeySource
unwrapped_on device policy access stored caller wrapping wrapped asked =
    unwrapped_by policy access stored caller wrapping asked (opened_for device asked (blob_for access stored wrapping)) wrapped

-- A caller's wrapped key, over what lasts: what its rules read, and its material, which is the text of `wrapped` under the material of
-- the wrapping key.
abbrev pub unwrapped_in : DeviceSecrets → List PolicyRow → Lasting → Caller → Descriptor → List ℕ → List ℕ → KeySource
unwrapped_in device policy part caller wrapping wrapped unwrapping =
    unwrapped_on device policy (access_by policy part caller wrapping) (key_in part (access_by policy part caller wrapping)) caller wrapping wrapped (asked_in unwrapping)
