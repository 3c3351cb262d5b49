-- What a begin reads of its key, and what its rules admit.
use Rattle.std.specs.Prelude.{◌≡◌, ℕ, Bool, true, List, [], Result, Ok, Err, ⊤, length, unwrap_or}
use Rattle.tags.specs.declared.descriptor.Descriptor.{Descriptor}
use Rattle.tags.specs.declared.policy.PolicyRow.{PolicyRow}
use Rattle.tags.specs.declared.secrets.DeviceSecrets.{DeviceSecrets}
use Rattle.tag_lists.specs.Lookups.{IsKey}
use Rattle.key_rules.specs.Asked.{asked as asked_in}
use Rattle.use_rules.specs.declared.facts.BeginFacts.{BeginFacts}
use Rattle.use_rules.specs.Plans.{challenge_wanted}
use Rattle.use_rules.specs.Table.{answer, key_of}
use Rattle.cipher_ops.specs.declared.state.CipherState.{CipherState}
use Rattle.cipher_ops.specs.Standing.{StandsFor}
use Rattle.keymint_ops.specs.declared.begin.BeginFault.{BeginFault}
use Rattle.keymint_ops.specs.declared.begin.BeginFault.TheVariants.{Broken, Memory}
use Rattle.keymint_ops.specs.Begin.{MayBegin, nonce_used}
use Rattle.journal_records.specs.LastingPart.{Lasting}
use Rattle.rule_model.specs.declared.facts.Caller.{Caller}
use Rattle.rule_model.specs.declared.facts.Conditions.{Conditions}
use Rattle.rule_model.specs.Access.{access_by, key_in}
use Rattle.rule_model.specs.BeginFacts.{BeginKey, begin_key, facts_by}
use Rattle.rule_model.specs.Blobs.{fits_key, list_read, material_read}
use Rattle.call_answers.specs.declared.begins.AdmittedBegin.{AdmittedBegin}
use Rattle.call_answers.specs.declared.begins.BeginKey.{BeginKey as OwnKey}

-- the key of a begin as the rules read it
pub record IsBeginKey (own : OwnKey) (key : BeginKey) : Type 0 where
  pub found_is : own.found ≡ key.found
  pub id_is : own.id ≡ key.id
  pub list_is : own.opened.list ≡ list_read key.opened
  pub fits_is : own.opened.fits ≡ fits_key key.opened
  pub material_is : own.opened.material ≡ material_read key.opened
  pub limited_is : own.limited ≡ key.limited

-- it is what a caller's descriptor finds, opened for the operation's list
pub record Opens (device : DeviceSecrets) (policy : List PolicyRow) (part : Lasting) (caller : Caller) (key : Descriptor) (params : List ℕ) (own : OwnKey) : Type 0 where
  pub key_is : own.key ≡ key
  pub asked_is : own.asked ≡ asked_in params
  pub access_is : own.access ≡ access_by policy part caller key
  pub own_is : IsBeginKey own (begin_key device (access_by policy part caller key) (key_in part (access_by policy part caller key)) key (asked_in params))

-- where its list and material fit, they are a key of their cipher
abbrev pub IsUsable : OwnKey → Type 0
IsUsable own = own.opened.fits ≡ true → IsKey (unwrap_or own.opened.list []) (length own.opened.material)

-- what the rules of a begin on it read
abbrev pub facts_of : DeviceSecrets → List PolicyRow → OwnKey → Caller → Bool → Conditions → BeginFacts
facts_of device policy own caller forced conditions =
    facts_by device policy own.found own.opened.list own.opened.fits own.access caller own.key own.asked forced conditions

-- what no rule denies, on this key, where the rules read these facts
pub record IsAdmitted (admitted : AdmittedBegin) (own : OwnKey) (facts : BeginFacts) : Type 0 where
  pub may : MayBegin admitted.begin facts
  pub id_is : admitted.id ≡ own.id
  pub limited_is : admitted.limited ≡ own.limited
  pub material_is : admitted.material ≡ own.opened.material
  pub list_is : admitted.list ≡ key_of facts
  pub challenge_is : admitted.challenge ≡ challenge_wanted (key_of facts)

-- what may begin, or the first rule that is broken, unless memory ran out
abbrev pub GivesAdmitted : Result AdmittedBegin BeginFault → OwnKey → BeginFacts → Type 0
GivesAdmitted (Ok admitted) own facts = IsAdmitted admitted own facts
GivesAdmitted (Err (Broken rule code)) own facts = answer facts ≡ Err (rule, code)
GivesAdmitted (Err Memory) own facts = ⊤

-- the state of an operation that begins, where these bytes were drawn for its nonce
abbrev pub IsStart : CipherState → AdmittedBegin → List ℕ → Type 0
IsStart state admitted drawn =
    StandsFor state admitted.begin.plan admitted.limited admitted.material (nonce_used admitted.begin.nonce drawn) [] []
