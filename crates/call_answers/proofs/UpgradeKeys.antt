-- The key of an upgrade, as the blob that was opened tells it, and what the rules admit of it.
use Rattle.std.proofs.Common.{◌≡◌, ℕ, List, Option, Result, Ok, Err, refl, sym, ap, ◌∙◌, length}
use Rattle.tags.specs.declared.code.Code.{Code}
use Rattle.tags.specs.declared.descriptor.Descriptor.{Descriptor}
use Rattle.tags.specs.declared.param.Param.{Param}
use Rattle.tags.specs.declared.policy.PolicyRow.{PolicyRow}
use Rattle.tags.specs.declared.rule.Rule.{Rule}
use Rattle.tags.specs.declared.rule.RuleTable.TheVariants.{A}
use Rattle.tags.specs.declared.secrets.DeviceSecrets.{DeviceSecrets}
use Rattle.tags.specs.declared.tag.Tag.TheVariants.{OsVersion, OsPatchlevel}
use Rattle.tags.specs.Table.{Ruling, first_broken, where_all_hold}
use Rattle.tag_lists.specs.Spelling.{spelling}
use Rattle.tag_lists.specs.Versions.{version_of, with_versions}
use Rattle.key_blobs.specs.declared.fault.BlobFault.{BlobFault}
use Rattle.key_blobs.specs.declared.fault.BlobFault.TheVariants.{Format, Tag, Root, App, Memory}
use Rattle.key_blobs.specs.declared.sealed.Opened.{Opened}
use Rattle.key_blobs.specs.Text.{blob_size}
use Rattle.key_domains.specs.declared.access.Access.{Access}
use Rattle.journal_records.specs.declared.record.KeyRecord.{KeyRecord}
use Rattle.journal_records.specs.LastingPart.{Lasting}
use Rattle.key_rules.specs.Asked.{asked as asked_in}
use Rattle.call_rules.specs.declared.facts.KeyCallFacts.{KeyCallFacts}
use Rattle.call_rules.specs.declared.facts.UpgradeFacts.{UpgradeFacts}
use Rattle.call_rules.specs.Table.{upgrade_key_rules}
use Rattle.keymint_ops.specs.declared.opening.OpenedBlob.{OpenedBlob}
use Rattle.keymint_ops.specs.Opening.{opened_blob, opens_as}
use Rattle.rule_model.specs.declared.facts.Caller.{Caller}
use Rattle.rule_model.specs.Access.{access_by, id_of, key_in}
use Rattle.rule_model.specs.BeginFacts.{blob_for}
use Rattle.rule_model.specs.Blobs.{opened_for}
use Rattle.rule_model.specs.Upgrades as model
use Rattle.rule_model.specs.Upgrades.{is_read, longer, upgrade_call_facts, upgrade_facts, upgrade_in}
use Rattle.rule_model.proofs.HandedKeys.{lies_where}
use Rattle.call_answers.specs.declared.upgrades.AdmittedUpgrade.{AdmittedUpgrade}
use Rattle.call_answers.specs.declared.upgrades.UpgradeFault.{UpgradeFault}
use Rattle.call_answers.specs.declared.upgrades.UpgradeFault.TheVariants as faults
use Rattle.call_answers.specs.declared.upgrades.UpgradeKey.{UpgradeKey}
use Rattle.call_answers.specs.Upgrading.{GivesAdmitted, GivesUpgrade, IsAdmitted, IsLetThrough, Opens, facts_of, place_of, sealed_anew, sealed_as}

-- ---- what was opened

pub opens : (device : DeviceSecrets) (policy : List PolicyRow) (part : Lasting) (caller : Caller) (key : Descriptor) (params : List ℕ) (access : Access) (stored : Option KeyRecord) (own : UpgradeKey)
    → access ≡ access_by policy part caller key → stored ≡ key_in part (access_by policy part caller key) → own.key ≡ key → own.asked ≡ asked_in params → own.id ≡ id_of stored
    → own.call ≡ upgrade_call_facts policy access stored caller key → own.given ≡ length (blob_for access stored key) → own.opened ≡ opened_blob device own.asked (blob_for access stored key)
    → Opens device policy part caller key params own
opens device policy part caller key params access stored own access_is stored_is key_is asked_is id_is call_is given_is opened_is = record {
  key_is = key_is;
  asked_is = asked_is;
  id_is = id_is ∙ ap id_of stored_is;
  call_is = call_is ∙ (λ i. upgrade_call_facts policy (access_is i) (stored_is i) caller key);
  given_is = given_is ∙ (λ i. length (blob_for (access_is i) (stored_is i) key));
  opened_is = opened_is ∙ (λ i. opened_blob device (asked_is i) (blob_for (access_is i) (stored_is i) key));
}

-- ---- what the rules read

abbrev facts_from : DeviceSecrets → KeyCallFacts → Result (List Param) Code → ℕ → OpenedBlob → UpgradeFacts
facts_from device call asked given opened = record {
  call = call;
  asked = is_read asked;
  opens = opened.opens;
  same = opened.same;
  key_os = version_of OsVersion opened.list;
  key_patch = version_of OsPatchlevel opened.list;
  os = device.os;
  patch = device.patch;
  list = length (spelling (with_versions device.os device.patch opened.list));
  blob = longer given (blob_size (sealed_as device asked opened));
}

facts_told : (device : DeviceSecrets) (call : KeyCallFacts) (asked : Result (List Param) Code) (given : List ℕ) (r : Result Opened BlobFault)
    → facts_from device call asked (length given) (opens_as r) ≡ upgrade_facts device call asked given r
facts_told device call asked given (Ok x) = refl
facts_told device call asked given (Err Format) = refl
facts_told device call asked given (Err Tag) = refl
facts_told device call asked given (Err Root) = refl
facts_told device call asked given (Err App) = refl
facts_told device call asked given (Err Memory) = refl

anew_told : (device : DeviceSecrets) (asked : Result (List Param) Code) (r : Result Opened BlobFault) → sealed_anew device asked (opens_as r) ≡ model.sealed_anew device asked r
anew_told device asked (Ok x) = refl
anew_told device asked (Err Format) = refl
anew_told device asked (Err Tag) = refl
anew_told device asked (Err Root) = refl
anew_told device asked (Err App) = refl
anew_told device asked (Err Memory) = refl

module _ (device : DeviceSecrets) (policy : List PolicyRow) (part : Lasting) (caller : Caller) (key : Descriptor) (params : List ℕ) (own : UpgradeKey) (is : Opens device policy part caller key params own) where
  abbrev Reached : Access
  Reached = access_by policy part caller key

  abbrev Given : List ℕ
  Given = blob_for Reached (key_in part Reached) key

  abbrev Read : Result Opened BlobFault
  Read = opened_for device (asked_in params) Given

  abbrev Facts : UpgradeFacts
  Facts = upgrade_facts device (upgrade_call_facts policy Reached (key_in part Reached) caller key) (asked_in params) Given Read

  facts_are : facts_of device own ≡ Facts
  facts_are =
      (λ i. facts_from device (is.call_is i) (is.asked_is i) (is.given_is i) (is.opened_is i))
      ∙ facts_told device (upgrade_call_facts policy Reached (key_in part Reached) caller key) (asked_in params) Given Read

  anew_is : sealed_anew device own.asked own.opened ≡ model.sealed_anew device (asked_in params) Read
  anew_is = (λ i. sealed_anew device (is.asked_is i) (is.opened_is i)) ∙ anew_told device (asked_in params) Read

  ruled : first_broken A (upgrade_key_rules own.key (facts_of device own)) ≡ first_broken A (upgrade_key_rules key Facts)
  ruled = λ i. first_broken A (upgrade_key_rules (is.key_is i) (facts_are i))

  -- the rules of the model give the same ruling
  upgrade_as : (ruling : Ruling) → first_broken A (upgrade_key_rules own.key (facts_of device own)) ≡ ruling
      → upgrade_in device policy part caller key params ≡ where_all_hold ruling (model.sealed_anew device (asked_in params) Read)
  upgrade_as ruling e = ap (λ r. where_all_hold r (model.sealed_anew device (asked_in params) Read)) (sym ruled ∙ e)

  denied : (rule : Rule) (code : Code) → first_broken A (upgrade_key_rules own.key (facts_of device own)) ≡ Err (rule, code) → upgrade_in device policy part caller key params ≡ Err (rule, code)
  denied rule code e = upgrade_as (Err (rule, code)) e

  let_through : (admitted : AdmittedUpgrade) → IsLetThrough device own admitted → IsAdmitted device policy part caller key params admitted
  let_through admitted through = record {
    sealed_is = upgrade_as (Ok tt) through.holds ∙ ap Ok (sym anew_is ∙ sym through.sealed_is);
    place_is = through.place_is ∙ (λ i. place_of (is.id_is i) (is.key_is i));
    handed_is = (lies_where policy part caller key (sym (ap (λ (call : KeyCallFacts). call.found) is.call_is) ∙ through.found)).unnumbered;
    small = through.small;
  }

  pub gives : (result : Result AdmittedUpgrade UpgradeFault) → GivesAdmitted device own result → GivesUpgrade device policy part caller key params result
  gives (Ok admitted) through = let_through admitted through
  gives (Err (faults.Broken rule code)) e = denied rule code e
  gives (Err faults.Memory) e = tt
