-- A new key.
use Rattle.std.specs.Prelude.{◌≡◌, ℕ, ◌≤◌, ◌==◌, Bool, true, false, List, length, take, drop, Option, Some, None, Result, Ok, Err, ⊤, if◌then◌else◌}
use Rattle.tags.specs.declared.descriptor.Descriptor.{Descriptor}
use Rattle.tags.specs.declared.policy.PolicyRow.{PolicyRow}
use Rattle.tags.specs.declared.secrets.DeviceSecrets.{DeviceSecrets}
use Rattle.tags.specs.declared.limits.TheConstants.{KEPT_LIST_BYTES}
use Rattle.journal_records.specs.declared.change.Change.{Change}
use Rattle.journal_records.specs.declared.change.Change.TheVariants.{Create}
use Rattle.journal_records.specs.LastingPart.{Lasting}
use Rattle.key_domains.specs.Domains.{domain_blob}
use Rattle.key_blobs.specs.Blobs.{blob_of}
use Rattle.key_rules.specs.declared.facts.NewFacts.{NewFacts}
use Rattle.key_rules.specs.declared.plan.KeyPlan.{KeyPlan}
use Rattle.key_rules.specs.Creation.{IsFit}
use Rattle.keymint_ops.specs.declared.creation.NewKey.{NewKey}
use Rattle.keymint_ops.specs.Creation.{planned, sealed_as}
use Rattle.lasting_table.specs.TableView.{CanMake, TableView, lasting_in}
use Rattle.rule_model.specs.declared.facts.Caller.{Caller}
use Rattle.rule_model.specs.declared.reply.Fields.{Fields}
use Rattle.rule_model.specs.Access.{owner_of}
use Rattle.rule_model.specs.Changes.{alias_of, material_of, owner_for}
use Rattle.rule_model.specs.KeySources.{KeySource}
use Rattle.rule_model.specs.NewFacts.{new_facts}
use Rattle.rule_model.specs.Places.{has_key_place}
use Rattle.rule_model.specs.Replies.{no_fields}
use Rattle.call_answers.specs.KeySources.{source_in}
use Rattle.call_answers.specs.declared.new_keys.AdmittedKey.{AdmittedKey}
use Rattle.call_answers.specs.declared.new_keys.AskedKey.{AskedKey}
use Rattle.call_answers.specs.declared.new_keys.KeyFault.{KeyFault}
use Rattle.call_answers.specs.declared.new_keys.KeyFault.TheVariants.{Broken, Full, Memory}
use Rattle.call_answers.specs.declared.new_keys.SealedKey.{SealedKey}

-- ---- whether it may be made

-- where its material comes from, over what lasts
abbrev pub source_of : DeviceSecrets → List PolicyRow → Lasting → Caller → AskedKey → KeySource
source_of device policy part caller asked = source_in device policy part caller asked.source

-- what the rules read of a caller's key
abbrev pub facts_of : DeviceSecrets → List PolicyRow → Lasting → Caller → AskedKey → Bool → NewFacts
facts_of device policy part caller asked early_ended =
    new_facts device policy caller asked.key asked.params (source_of device policy part caller asked) early_ended

-- what no rule denies, as it was planned, where there is a place
pub record IsAdmitted (device : DeviceSecrets) (policy : List PolicyRow) (part : Lasting) (caller : Caller) (asked : AskedKey) (early_ended : Bool) (admitted : AdmittedKey) : Type 0 where
  pub planned_is : planned (facts_of device policy part caller asked early_ended) ≡ Ok admitted.new
  pub fit : IsFit (facts_of device policy part caller asked early_ended) admitted.new.plan
  pub listed : length admitted.new.list ≤ KEPT_LIST_BYTES
  pub place : has_key_place part (owner_of caller) asked.key ≡ true
  pub uid_is : admitted.uid ≡ owner_of caller
  pub key_is : admitted.key ≡ asked.key
  pub material_is : admitted.material ≡ (source_of device policy part caller asked).material

-- no rule denies it, and there is no place
pub record IsFull (device : DeviceSecrets) (policy : List PolicyRow) (part : Lasting) (caller : Caller) (asked : AskedKey) (early_ended : Bool) : Type 0 where
  pub new : NewKey
  pub planned_is : planned (facts_of device policy part caller asked early_ended) ≡ Ok new
  pub no_place : has_key_place part (owner_of caller) asked.key ≡ false

-- what may be made, or what stands against it, unless memory ran out
abbrev pub GivesAdmitted : DeviceSecrets → List PolicyRow → Lasting → Caller → AskedKey → Bool → Result AdmittedKey KeyFault → Type 0
GivesAdmitted device policy part caller asked early_ended (Ok admitted) = IsAdmitted device policy part caller asked early_ended admitted
GivesAdmitted device policy part caller asked early_ended (Err (Broken rule code)) = planned (facts_of device policy part caller asked early_ended) ≡ Err (rule, code)
GivesAdmitted device policy part caller asked early_ended (Err Full) = IsFull device policy part caller asked early_ended
GivesAdmitted device policy part caller asked early_ended (Err Memory) = ⊤

-- ---- what it is made into

-- a key that was sealed: with its material under the device's key and this nonce
pub record IsSealed (device : DeviceSecrets) (admitted : AdmittedKey) (generated nonce : List ℕ) (sealed : SealedKey) : Type 0 where
  pub uid_is : sealed.uid ≡ admitted.uid
  pub key_is : sealed.key ≡ admitted.key
  pub blob_is : sealed.blob ≡ blob_of device.seal nonce (sealed_as device.root admitted.new.plan (material_of admitted.material generated))
  pub list_is : sealed.list ≡ admitted.new.list
  pub limit_is : sealed.limit ≡ admitted.new.plan.limit

-- a key that was made: sealed with the material that came in or the first drawn bytes, and with the others as its nonce
abbrev pub IsMade : DeviceSecrets → AdmittedKey → List ℕ → SealedKey → Type 0
IsMade device admitted drawn sealed =
    IsSealed device admitted (take admitted.new.plan.size drawn) (drop admitted.new.plan.size drawn) sealed

-- a key of a uid that is stored in its blob, with its list and limit
abbrev pub creates : ℕ → ℕ → Descriptor → List ℕ → List ℕ → ℕ → Change
creates number uid key blob list limit =
    Create number (owner_for uid key.domain key.nspace).0 (owner_for uid key.domain key.nspace).1 (alias_of key) blob list limit

-- the change of a new key: none where it is made in BLOB
abbrev pub keeping : Lasting → ℕ → Descriptor → List ℕ → List ℕ → ℕ → Option Change
keeping part uid key blob list limit = if key.domain == domain_blob then None else Some (creates part.next_key uid key blob list limit)

-- its reply: the number of the key that is stored, or the blob that is handed out
abbrev pub kept_fields : Lasting → Descriptor → List ℕ → Fields
kept_fields part key blob = if key.domain == domain_blob then record no_fields { blob = Some blob } else record no_fields { key = Some part.next_key }

-- the blob of a planned key, by the material that came in and the bytes that were drawn for it
abbrev pub blob_made : DeviceSecrets → KeyPlan → Option (List ℕ) → List ℕ → List ℕ
blob_made device plan material drawn =
    blob_of device.seal (drop plan.size drawn) (sealed_as device.root plan (material_of material (take plan.size drawn)))

-- a key that is stored may be
abbrev pub CanKeep : TableView → ℕ → Descriptor → List ℕ → List ℕ → ℕ → Type 0
CanKeep held uid key blob list limit = (key.domain == domain_blob) ≡ false → CanMake held (creates (lasting_in held).next_key uid key blob list limit)
