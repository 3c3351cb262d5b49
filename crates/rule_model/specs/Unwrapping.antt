-- What follows for a key that comes wrapped.
use Rattle.std.specs.Prelude.{◌≡◌, ℕ, List, true, Result, Ok, Some}
use Rattle.aes_core.specs.Cipher.{inverse_cipher}
use Rattle.key_wrap.specs.Wrapping.{kw_open}
use Rattle.tags.specs.declared.descriptor.Descriptor.{Descriptor}
use Rattle.tags.specs.declared.tag.Tag.TheVariants.{Purpose}
use Rattle.tags.specs.Values.{WRAP_KEY}
use Rattle.tag_lists.specs.Lookups.{has_number}
use Rattle.key_blobs.specs.declared.fault.BlobFault.{BlobFault}
use Rattle.key_blobs.specs.declared.sealed.Opened.{Opened}
use Rattle.key_rules.specs.declared.plan.KeyPlan.{KeyPlan}
use Rattle.key_rules.specs.Asked.{asked as asked_in}
use Rattle.rule_model.specs.declared.event.Act.TheVariants.{ImportWrappedKey}
use Rattle.rule_model.specs.declared.facts.Caller.{Caller}
use Rattle.rule_model.specs.Answer.{answer_by_rules}
use Rattle.rule_model.specs.BeginFacts.{blob_for}
use Rattle.rule_model.specs.Blobs.{device_at, kept_as, opened_for}
use Rattle.rule_model.specs.Changes.{new_blob, planned}
use Rattle.rule_model.specs.Entries.{History, is_done}
use Rattle.rule_model.specs.KeySources.{KeySource}
use Rattle.rule_model.specs.Kept.{access_at, kept, key_found}
use Rattle.rule_model.specs.Setup.{Setup}
use Rattle.rule_model.specs.WrappedKeys.{unwrapped_in}

-- the wrapping key's blob, opened for the device and the ids of its list
abbrev pub wrapping_at : Setup → History → Caller → Descriptor → List ℕ → Result Opened BlobFault
wrapping_at setup past caller wrapping unwrapping =
    opened_for (device_at setup past) (asked_in unwrapping) (blob_for (access_at setup past caller wrapping) (key_found setup past caller wrapping) wrapping)

-- where the new key's material comes from
abbrev pub source_at : Setup → History → Caller → Descriptor → List ℕ → List ℕ → KeySource
source_at setup past caller wrapping wrapped unwrapping = unwrapped_in (device_at setup past) setup.policy (kept setup past) caller wrapping wrapped unwrapping

-- its plan
abbrev pub plan_at : Setup → History → Caller → Descriptor → List ℕ → Descriptor → List ℕ → List ℕ → KeyPlan
plan_at setup past caller key params wrapping wrapped unwrapping = planned setup.device setup.policy caller key params (source_at setup past caller wrapping wrapped unwrapping)

-- The wrapping key is one that unwraps others, and the new one is sealed with the text of the wrapped bytes under its material (KW-AD of SP
-- 800-38F section 6.2), with the drawn bytes as the nonce.
pub record IsUnwrapped (setup : Setup) (past : History) (caller : Caller) (key : Descriptor) (params : List ℕ) (wrapping : Descriptor) (wrapped unwrapping drawn : List ℕ) : Type 0 where
  pub own : Opened
  pub own_is : wrapping_at setup past caller wrapping unwrapping ≡ Ok own
  pub wraps : has_number Purpose WRAP_KEY own.list ≡ true
  pub text : List ℕ
  pub text_is : kw_open (inverse_cipher own.material) wrapped ≡ Some text
  pub blob_is : new_blob (device_at setup past) (plan_at setup past caller key params wrapping wrapped unwrapping) (source_at setup past caller wrapping wrapped unwrapping) drawn
      ≡ kept_as (device_at setup past) (plan_at setup past caller key params wrapping wrapped unwrapping) drawn text

-- so is each wrapped key that the rules admit
abbrev pub WrappedLaw : Type 0
WrappedLaw = (setup : Setup) (past : History) (caller : Caller) (key : Descriptor) (params : List ℕ) (wrapping : Descriptor) (wrapped unwrapping drawn : List ℕ)
    → is_done (answer_by_rules (ImportWrappedKey key params wrapping wrapped unwrapping) setup past caller drawn) ≡ true
    → IsUnwrapped setup past caller key params wrapping wrapped unwrapping drawn
