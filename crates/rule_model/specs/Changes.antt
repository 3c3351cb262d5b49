-- The change that a counting entry makes of the lasting part.
use Rattle.std.specs.Prelude.{ℕ, false, ◌==◌, List, [], Option, Some, None, Result, Ok, if◌then◌else◌, unwrap_or, take, drop, find}
use Rattle.std.specs.Option.{option_and_then, option_map, option_map_or}
use Rattle.tags.specs.declared.descriptor.Descriptor.{Descriptor}
use Rattle.tags.specs.declared.code.Code.{Code}
use Rattle.tags.specs.declared.policy.PolicyRow.{PolicyRow}
use Rattle.tags.specs.declared.rule.Rule.{Rule}
use Rattle.tags.specs.declared.secrets.DeviceSecrets.{DeviceSecrets}
use Rattle.tag_lists.specs.Spelling.{spelling}
use Rattle.key_domains.specs.Domains.{domain_app, domain_blob, domain_selinux}
use Rattle.grants.specs.declared.row.GrantRow.{GrantRow}
use Rattle.grants.specs.Rows.{is_for}
use Rattle.journal_records.specs.declared.change.Change.{Change}
use Rattle.journal_records.specs.declared.change.Change.TheVariants as changes
use Rattle.journal_records.specs.Effects.{after}
use Rattle.journal_records.specs.LastingPart.{Lasting}
use Rattle.key_blobs.specs.declared.sealed.Sealed.{Sealed}
use Rattle.key_blobs.specs.Blobs.{blob_of}
use Rattle.key_rules.specs.declared.plan.KeyPlan.{KeyPlan}
use Rattle.key_rules.specs.Creation.{plan_of}
use Rattle.rule_model.specs.declared.event.Act.{Act}
use Rattle.rule_model.specs.declared.event.Act.TheVariants.{GenerateKey, ImportKey, EnterFinish, DeleteKey, Grant, Ungrant, ClearNamespace, UserRemoved, UpgradeKey, ImportWrappedKey}
use Rattle.rule_model.specs.declared.facts.Caller.{Caller}
use Rattle.rule_model.specs.Access.{id_by, owner_of}
use Rattle.rule_model.specs.Blobs.{kept_as}
use Rattle.rule_model.specs.KeySources.{KeySource, generated, imported}
use Rattle.rule_model.specs.NewFacts.{new_facts}
use Rattle.rule_model.specs.Upgrades.{upgrade_in}
use Rattle.rule_model.specs.WrappedKeys.{unwrapped_in}
use Rattle.rule_model.specs.declared.operation.Open.{Open}
use Rattle.rule_model.specs.Operations.{used_key}

-- the alias of a descriptor, empty where it has none
abbrev pub alias_of : Descriptor → List ℕ
alias_of key = unwrap_or key.alias []

-- whose the keys are that a caller makes and lists: its own in APP, and the namespace's in SELINUX
abbrev pub owner_for : ℕ → ℕ → ℕ → ℕ × ℕ
owner_for uid domain nspace = if domain == domain_selinux then (domain_selinux, nspace) else (domain_app, uid)

-- the material of a new key: the one that comes in, or the first bytes drawn
abbrev pub material_of : Option (List ℕ) → List ℕ → List ℕ
material_of None drawn = drawn
material_of (Some material) drawn = material

-- the blob of a new key, by its plan and the drawn bytes: the material, where it is generated, and then the nonce
abbrev pub new_blob : DeviceSecrets → KeyPlan → KeySource → List ℕ → List ℕ
new_blob device plan source drawn = kept_as device plan (drop plan.size drawn) (material_of source.material (take plan.size drawn))

-- a new key has the next number, and is made by its plan and the drawn bytes
abbrev pub creating : DeviceSecrets → Lasting → ℕ → Descriptor → KeyPlan → KeySource → List ℕ → Change
creating device part uid key plan source drawn =
    changes.Create part.next_key (owner_for uid key.domain key.nspace).0 (owner_for uid key.domain key.nspace).1 (alias_of key)
    (new_blob device plan source drawn) (spelling plan.list) plan.limit

-- a key that is made in BLOB is not stored
abbrev pub storing : DeviceSecrets → Lasting → ℕ → Descriptor → KeyPlan → KeySource → List ℕ → Option Change
storing device part uid key plan source drawn =
    if key.domain == domain_blob then None else Some (creating device part uid key plan source drawn)

-- the grant of a key to a uid
abbrev pub grant_at : Lasting → ℕ → ℕ → Option GrantRow
grant_at part key uid = find (is_for key uid) part.grants

-- its number; where there is none, that of the next grant
abbrev pub grant_number : Lasting → ℕ → ℕ → ℕ
grant_number part key uid = option_map_or (λ (held : GrantRow). held.grant) (grant_at part key uid) part.next_grant

-- the number of the grant of a key, where it is found, to a uid
abbrev pub grant_of : Lasting → Option ℕ → ℕ → Option ℕ
grant_of part key uid = option_and_then (λ id. option_map (λ (held : GrantRow). held.grant) (grant_at part id uid)) key

-- the grant of a key to a uid: under the number of the one that both have, else the next
abbrev pub granting : Lasting → ℕ → ℕ → ℕ → Change
granting part uid bits key = changes.Grant (record { grant = grant_number part key uid; key = key; uid = uid; bits = bits })

-- the plan of a new key, which is the same whether or not early boot has ended
abbrev pub planned : DeviceSecrets → List PolicyRow → Caller → Descriptor → List ℕ → KeySource → KeyPlan
planned device policy caller key params source = plan_of (new_facts device policy caller key params source false)

-- the change of a call that makes a key, by where its material comes from
abbrev pub making : DeviceSecrets → List PolicyRow → Lasting → Caller → Descriptor → List ℕ → KeySource → List ℕ → Option Change
making device policy part caller key params source drawn =
    storing device part (owner_of caller) key (planned device policy caller key params source) source drawn

-- an upgrade of a stored key that changes its blob; one that is handed in is not stored
abbrev pub upgrading : Result (Option Sealed) (Rule × Code) → Option ℕ → DeviceSecrets → List ℕ → Option Change
upgrading (Ok (Some sealed)) (Some id) device drawn = Some (changes.Upgrade id (blob_of device.seal drawn sealed) (spelling sealed.list))
upgrading _ id device drawn = None

-- A key is made by generateKey, importKey and importWrappedKey outside domain BLOB and ends by deleteKey; a grant is made by grant, and ends by
-- ungrant. Many keys end by clearNamespace and userRemoved. A finish on an operation of a stored key that has a use limit uses it
-- once. An upgradeKey outside domain BLOB changes the blob and the list of a key, where these are not of the device's system. No
-- other act changes what lasts.
abbrev pub change_of : Act → DeviceSecrets → List PolicyRow → Lasting → List Open → Caller → List ℕ → Option Change
change_of (GenerateKey key params) device policy part opened caller drawn = making device policy part caller key params generated drawn
change_of (ImportKey key params format material) device policy part opened caller drawn =
    making device policy part caller key params (imported format material) drawn
change_of (ImportWrappedKey key params wrapping wrapped unwrapping) device policy part opened caller drawn =
    making device policy part caller key params (unwrapped_in device policy part caller wrapping wrapped unwrapping) drawn
change_of (EnterFinish op input signature) device policy part opened caller drawn = option_map changes.Use (used_key op opened)
change_of (DeleteKey key) device policy part opened caller drawn = option_map changes.Delete (id_by policy part caller key)
change_of (Grant key uid bits) device policy part opened caller drawn = option_map (granting part uid bits) (id_by policy part caller key)
change_of (Ungrant key uid) device policy part opened caller drawn = option_map changes.Ungrant (grant_of part (id_by policy part caller key) uid)
change_of (ClearNamespace domain nspace) device policy part opened caller drawn = Some (changes.Clear domain nspace)
change_of (UserRemoved user) device policy part opened caller drawn = Some (changes.Removed user)
change_of (UpgradeKey key params) device policy part opened caller drawn =
    upgrading (upgrade_in device policy part caller key params) (id_by policy part caller key) device drawn
change_of _ device policy part opened caller drawn = None

-- the lasting part after that change
abbrev pub after_change : Option Change → Lasting → Lasting
after_change None part = part
after_change (Some change) part = after part change
