-- What an upgrade reads of its key, what its rules admit, and what it tells.
use Rattle.std.specs.Prelude.{◌≡◌, ℕ, ◌≤◌, ◌==◌, true, Option, Some, None, Result, Ok, Err, ⊤, IfSome, List, [], if◌then◌else◌, is_none, length, unwrap_or}
use Rattle.std.specs.Option.{option_map}
use Rattle.tags.specs.declared.descriptor.Descriptor.{Descriptor}
use Rattle.tags.specs.declared.policy.PolicyRow.{PolicyRow}
use Rattle.tags.specs.declared.secrets.DeviceSecrets.{DeviceSecrets}
use Rattle.tags.specs.declared.limits.TheConstants.{BLOB_BYTES, KEPT_LIST_BYTES}
use Rattle.tags.specs.declared.code.Code.{Code}
use Rattle.tags.specs.declared.param.Param.{Param}
use Rattle.tags.specs.declared.rule.RuleTable.TheVariants.{A}
use Rattle.tags.specs.declared.tag.Tag.TheVariants.{OsVersion, OsPatchlevel}
use Rattle.tags.specs.Table.{first_broken}
use Rattle.tag_lists.specs.Spelling.{spelling}
use Rattle.tag_lists.specs.Versions.{is_no_older, version_of, with_versions}
use Rattle.key_domains.specs.Domains.{domain_blob}
use Rattle.key_blobs.specs.declared.sealed.Sealed.{Sealed}
use Rattle.key_blobs.specs.Blobs.{sealed_for}
use Rattle.key_blobs.specs.Text.{blob_size}
use Rattle.key_rules.specs.Asked.{asked as asked_in}
use Rattle.call_rules.specs.declared.facts.UpgradeFacts.{UpgradeFacts}
use Rattle.call_rules.specs.Table.{upgrade_key_rules}
use Rattle.use_rules.specs.Table.{list_or_none}
use Rattle.keymint_ops.specs.declared.opening.OpenedBlob.{OpenedBlob}
use Rattle.keymint_ops.specs.declared.upgrade.UpgradedKey.{UpgradedKey}
use Rattle.keymint_ops.specs.Opening.{opened_blob}
use Rattle.journal_records.specs.declared.change.Change.{Change}
use Rattle.journal_records.specs.declared.change.Change.TheVariants.{Upgrade}
use Rattle.journal_records.specs.LastingPart.{Lasting}
use Rattle.lasting_table.specs.TableView.{CanMake, TableView}
use Rattle.rule_model.specs.declared.facts.Caller.{Caller}
use Rattle.rule_model.specs.declared.reply.Fields.{Fields}
use Rattle.rule_model.specs.Access.{access_by, id_by, key_in}
use Rattle.rule_model.specs.BeginFacts.{blob_for}
use Rattle.rule_model.specs.Replies.{no_fields}
use Rattle.rule_model.specs.Upgrades.{is_read, longer, upgrade_call_facts, upgrade_in}
use Rattle.call_answers.specs.declared.upgrades.AdmittedUpgrade.{AdmittedUpgrade}
use Rattle.call_answers.specs.declared.upgrades.KeyPlace.{KeyPlace}
use Rattle.call_answers.specs.declared.upgrades.KeyPlace.TheVariants.{Stored, Handed}
use Rattle.call_answers.specs.declared.upgrades.UpgradeFault.{UpgradeFault}
use Rattle.call_answers.specs.declared.upgrades.UpgradeFault.TheVariants.{Broken, Memory}
use Rattle.call_answers.specs.declared.upgrades.UpgradeKey.{UpgradeKey}

-- ---- the key

-- where the key of a descriptor lies: under its number, and else in the blob that is handed in
abbrev pub place_of : Option ℕ → Descriptor → KeyPlace
place_of (Some id) key = Stored id
place_of None key = Handed (unwrap_or key.blob [])

-- it is what a caller's descriptor finds, opened for the call's list
pub record Opens (device : DeviceSecrets) (policy : List PolicyRow) (part : Lasting) (caller : Caller) (key : Descriptor) (params : List ℕ) (own : UpgradeKey) : Type 0 where
  pub key_is : own.key ≡ key
  pub asked_is : own.asked ≡ asked_in params
  pub id_is : own.id ≡ id_by policy part caller key
  pub call_is : own.call ≡ upgrade_call_facts policy (access_by policy part caller key) (key_in part (access_by policy part caller key)) caller key
  pub given_is : own.given ≡ length (blob_for (access_by policy part caller key) (key_in part (access_by policy part caller key)) key)
  pub opened_is : own.opened ≡ opened_blob device (asked_in params) (blob_for (access_by policy part caller key) (key_in part (access_by policy part caller key)) key)

-- what is sealed for the call's ids: the opened list with the versions of the device's system, and the material
abbrev pub sealed_as : DeviceSecrets → Result (List Param) Code → OpenedBlob → Sealed
sealed_as device asked opened =
    sealed_for device (list_or_none asked) (with_versions device.os device.patch opened.list) opened.material

-- what the rules of the upgrade read
abbrev pub facts_of : DeviceSecrets → UpgradeKey → UpgradeFacts
facts_of device own = record {
  call = own.call;
  asked = is_read own.asked;
  opens = own.opened.opens;
  same = own.opened.same;
  key_os = version_of OsVersion own.opened.list;
  key_patch = version_of OsPatchlevel own.opened.list;
  os = device.os;
  patch = device.patch;
  list = length (spelling (with_versions device.os device.patch own.opened.list));
  blob = longer own.given (blob_size (sealed_as device own.asked own.opened));
}

-- ---- what is admitted

-- what is sealed anew: nothing where the list has the versions of the device's system
abbrev pub sealed_anew : DeviceSecrets → Result (List Param) Code → OpenedBlob → Option Sealed
sealed_anew device asked opened = if is_no_older device.os device.patch opened.list then None else Some (sealed_as device asked opened)

abbrev pub sealed_in : Option UpgradedKey → Option Sealed
sealed_in upgraded = option_map (λ (key : UpgradedKey). key.sealed) upgraded

-- what is sealed anew is no longer than a key's may be
pub record IsSmall (upgraded : UpgradedKey) : Type 0 where
  pub list_is : upgraded.list ≡ spelling upgraded.sealed.list
  pub listed : length upgraded.list ≤ KEPT_LIST_BYTES
  pub sized : blob_size upgraded.sealed ≤ BLOB_BYTES
  pub short : length upgraded.sealed.material ≤ 255

-- what no rule denies of a key that was opened
pub record IsLetThrough (device : DeviceSecrets) (own : UpgradeKey) (admitted : AdmittedUpgrade) : Type 0 where
  pub holds : first_broken A (upgrade_key_rules own.key (facts_of device own)) ≡ Ok tt
  pub found : own.call.found ≡ true
  pub sealed_is : sealed_in admitted.upgraded ≡ sealed_anew device own.asked own.opened
  pub place_is : admitted.place ≡ place_of own.id own.key
  pub small : IfSome admitted.upgraded IsSmall

abbrev pub GivesAdmitted : DeviceSecrets → UpgradeKey → Result AdmittedUpgrade UpgradeFault → Type 0
GivesAdmitted device own (Ok admitted) = IsLetThrough device own admitted
GivesAdmitted device own (Err (Broken rule code)) = first_broken A (upgrade_key_rules own.key (facts_of device own)) ≡ Err (rule, code)
GivesAdmitted device own (Err Memory) = ⊤

-- what no rule denies of a caller's upgrade
pub record IsAdmitted (device : DeviceSecrets) (policy : List PolicyRow) (part : Lasting) (caller : Caller) (key : Descriptor) (params : List ℕ) (admitted : AdmittedUpgrade) : Type 0 where
  pub sealed_is : upgrade_in device policy part caller key params ≡ Ok (sealed_in admitted.upgraded)
  pub place_is : admitted.place ≡ place_of (id_by policy part caller key) key
  pub handed_is : (key.domain == domain_blob) ≡ is_none (id_by policy part caller key)
  pub small : IfSome admitted.upgraded IsSmall

-- what may be upgraded, or the first rule that is broken, unless memory ran out
abbrev pub GivesUpgrade : DeviceSecrets → List PolicyRow → Lasting → Caller → Descriptor → List ℕ → Result AdmittedUpgrade UpgradeFault → Type 0
GivesUpgrade device policy part caller key params (Ok admitted) = IsAdmitted device policy part caller key params admitted
GivesUpgrade device policy part caller key params (Err (Broken rule code)) = upgrade_in device policy part caller key params ≡ Err (rule, code)
GivesUpgrade device policy part caller key params (Err Memory) = ⊤

-- ---- what becomes of it

-- the change of a key that is sealed anew: none where it was handed in
abbrev pub renewing : KeyPlace → List ℕ → List ℕ → Option Change
renewing (Stored id) blob list = Some (Upgrade id blob list)
renewing (Handed given) blob list = None

-- what is told of a key with this blob: the blob where it was handed in
abbrev pub told_fields : KeyPlace → List ℕ → Fields
told_fields (Stored id) blob = no_fields
told_fields (Handed given) blob = record no_fields { blob = Some blob }

-- of a key that is left as it is, the blob that was handed in
abbrev pub given_fields : KeyPlace → Fields
given_fields (Stored id) = no_fields
given_fields (Handed given) = record no_fields { blob = Some given }

-- a key that is sealed anew may be kept where it lies
abbrev pub CanRenew : TableView → KeyPlace → List ℕ → List ℕ → Type 0
CanRenew held place blob list = IfSome (renewing place blob list) (CanMake held)
