-- Where the material of a new key comes from.
use Rattle.std.specs.Prelude.{◌≡◌, ℕ, Bool, List, Option, length}
use Rattle.tags.specs.declared.descriptor.Descriptor.{Descriptor}
use Rattle.tags.specs.declared.policy.PolicyRow.{PolicyRow}
use Rattle.tags.specs.declared.secrets.DeviceSecrets.{DeviceSecrets}
use Rattle.journal_records.specs.LastingPart.{Lasting}
use Rattle.key_rules.specs.declared.facts.ImportFacts.{ImportFacts}
use Rattle.key_rules.specs.declared.facts.WrapFacts.{WrapFacts}
use Rattle.rule_model.specs.declared.event.Act.{Act}
use Rattle.rule_model.specs.declared.event.Act.TheVariants.{GenerateKey, ImportKey, ImportWrappedKey}
use Rattle.rule_model.specs.declared.facts.Caller.{Caller}
use Rattle.rule_model.specs.Access.{bits_in, row_for}
use Rattle.rule_model.specs.KeySources as model
use Rattle.rule_model.specs.WrappedKeys as wrapped_model
use Rattle.call_answers.specs.declared.begins.BeginKey.{BeginKey as OwnKey}
use Rattle.call_answers.specs.declared.key_sources.KeySource.{KeySource}
use Rattle.call_answers.specs.declared.key_sources.KeySource.TheVariants.{Generated, Imported, Wrapped}
use Rattle.call_answers.specs.declared.key_sources.ReadSource.{ReadSource}

-- the act that makes a key
abbrev pub making : Descriptor → List ℕ → KeySource → Act
making key params Generated = GenerateKey key params
making key params (Imported format material) = ImportKey key params format material
making key params (Wrapped wrapping wrapped unwrapping) = ImportWrappedKey key params wrapping wrapped unwrapping

abbrev pub imported : ℕ → List ℕ → model.KeySource
imported format material = model.imported format material

abbrev pub unwrapped_in : DeviceSecrets → List PolicyRow → Lasting → Caller → Descriptor → List ℕ → List ℕ → model.KeySource
unwrapped_in device policy part caller wrapping wrapped unwrapping = wrapped_model.unwrapped_in device policy part caller wrapping wrapped unwrapping

-- what it says of the material, over what lasts
abbrev pub source_in : DeviceSecrets → List PolicyRow → Lasting → Caller → KeySource → model.KeySource
source_in device policy part caller Generated = model.generated
source_in device policy part caller (Imported format material) = model.imported format material
source_in device policy part caller (Wrapped wrapping wrapped unwrapping) = wrapped_model.unwrapped_in device policy part caller wrapping wrapped unwrapping

-- by its parts
abbrev pub source_by : Option ImportFacts → Option WrapFacts → Option (List ℕ) → model.KeySource
source_by import wrapped material = record { import = import; wrapped = wrapped; material = material }

-- what was read says the same
pub record IsRead (own : ReadSource) (source : model.KeySource) : Type 0 where
  pub import_is : own.import ≡ source.import
  pub wrapped_is : own.wrapped ≡ source.wrapped
  pub material_is : own.material ≡ source.material

-- what the rules read of a wrapping key that was opened, and of the wrapped bytes
abbrev pub facts_of : List PolicyRow → Caller → OwnKey → List ℕ → Bool → WrapFacts
facts_of policy caller own wrapped opens = record {
  descriptor = own.key;
  row = row_for policy caller own.key.nspace;
  found = own.found;
  bits = bits_in own.access;
  asked = own.asked;
  opened = own.opened.list;
  fits = own.opened.fits;
  length = length wrapped;
  opens = opens;
}
