-- Where the material of a new key comes from, as it was read.
use Rattle.std.proofs.Common.{◌≡◌, ◌≤◌, ◌-◌, ℕ, List, [], Option, Some, Result, Ok, Err, length, refl, ap, ◌∙◌}
use Rattle.std.specs.Prelude.{IfSome, is_some, unwrap_or}
use Rattle.tags.specs.declared.descriptor.Descriptor.{Descriptor}
use Rattle.tags.specs.declared.policy.PolicyRow.{PolicyRow}
use Rattle.tags.specs.declared.secrets.DeviceSecrets.{DeviceSecrets}
use Rattle.tags.specs.Values.{RAW}
use Rattle.journal_records.specs.LastingPart.{Lasting}
use Rattle.key_blobs.specs.declared.fault.BlobFault.{BlobFault}
use Rattle.key_blobs.specs.declared.sealed.Opened.{Opened}
use Rattle.key_rules.specs.declared.facts.ImportFacts.{ImportFacts}
use Rattle.key_rules.specs.declared.facts.WrapFacts.{WrapFacts}
use Rattle.key_rules.specs.Asked.{asked as asked_in}
use Rattle.keymint_ops.specs.declared.opening.OpenedKey.{OpenedKey}
use Rattle.keymint_ops.specs.Wrapped.{text_wrapped}
use Rattle.rule_model.specs.declared.facts.Caller.{Caller}
use Rattle.rule_model.specs.Access.{access_by, bits_in, key_in, row_for}
use Rattle.rule_model.specs.BeginFacts.{blob_for}
use Rattle.rule_model.specs.Blobs.{fits_key, list_read, material_read, opened_for}
use Rattle.rule_model.specs.KeySources as model
use Rattle.rule_model.specs.WrappedKeys.{opened_text, unwrapped_in, wrap_facts}
use Rattle.rule_model.proofs.WrappedTexts.{unwrapped_short}
use Rattle.call_answers.specs.declared.begins.BeginKey.{BeginKey as OwnKey}
use Rattle.call_answers.specs.declared.key_sources.KeySource.{KeySource}
use Rattle.call_answers.specs.declared.key_sources.KeySource.TheVariants.{Generated, Imported, Wrapped}
use Rattle.call_answers.specs.Beginning.{Opens}
use Rattle.call_answers.specs.KeySources.{IsRead, facts_of, source_by, source_in}

abbrev raw : ℕ → ImportFacts
raw length = record { format = RAW; length = length }

-- what was read, as one
pub read_as : (import : Option ImportFacts) (wrapped : Option WrapFacts) (material : Option (List ℕ)) (source : model.KeySource)
    → import ≡ source.import → wrapped ≡ source.wrapped → material ≡ source.material
    → source_by import wrapped material ≡ source
read_as import wrapped material source import_is wrapped_is material_is =
    λ i. record { import = import_is i; wrapped = wrapped_is i; material = material_is i }

-- the text that was opened
text_told : (own : OpenedKey) (opened : Result Opened BlobFault) (wrapped : List ℕ) → own.list ≡ list_read opened → own.fits ≡ fits_key opened
    → own.material ≡ material_read opened → text_wrapped own wrapped ≡ opened_text opened wrapped
text_told own opened wrapped list fits material =
    (λ i. text_wrapped (record { list = list i; fits = fits i; material = material i }) wrapped) ∙ by_opened opened where
      by_opened : (opened : Result Opened BlobFault)
          → text_wrapped (record { list = list_read opened; fits = fits_key opened; material = material_read opened }) wrapped ≡ opened_text opened wrapped
      by_opened (Ok key) = refl
      by_opened (Err fault) = refl

module _ (device : DeviceSecrets) (policy : List PolicyRow) (part : Lasting) (caller : Caller) (wrapping : Descriptor) (unwrapping wrapped : List ℕ) (own : OwnKey) (opens : Opens device policy part caller wrapping unwrapping own) where
  abbrev Blob : Result Opened BlobFault
  Blob = opened_for device (asked_in unwrapping) (blob_for (access_by policy part caller wrapping) (key_in part (access_by policy part caller wrapping)) wrapping)

  text_is : (text : Option (List ℕ)) → text ≡ text_wrapped own.opened wrapped → text ≡ opened_text Blob wrapped
  text_is text is = is ∙ text_told own.opened Blob wrapped opens.own_is.list_is opens.own_is.fits_is opens.own_is.material_is

  facts_told : (text : Option (List ℕ)) → text ≡ text_wrapped own.opened wrapped → facts_of policy caller own wrapped (is_some text)
      ≡ wrap_facts policy (access_by policy part caller wrapping) (key_in part (access_by policy part caller wrapping)) caller wrapping (asked_in unwrapping) Blob wrapped
  facts_told text is = λ i. record {
    descriptor = opens.key_is i;
    row = row_for policy caller (opens.key_is i).nspace;
    found = opens.own_is.found_is i;
    bits = bits_in (opens.access_is i);
    asked = opens.asked_is i;
    opened = opens.own_is.list_is i;
    fits = opens.own_is.fits_is i;
    length = length wrapped;
    opens = is_some (text_is text is i);
  }

  -- what was read of a wrapped key
  pub unwrapped_told : (text : Option (List ℕ)) (facts : WrapFacts) (material : List ℕ) → text ≡ text_wrapped own.opened wrapped
      → facts ≡ facts_of policy caller own wrapped (is_some text) → material ≡ unwrap_or text []
      → IsRead (record { import = Some (record { format = RAW; length = facts.length - 8 }); wrapped = Some facts; material = Some material }) (unwrapped_in device policy part caller wrapping wrapped unwrapping)
  unwrapped_told text facts material is facts_is material_is =
      let told = facts_is ∙ facts_told text is in
      record {
        import_is = ap (λ (f : WrapFacts). Some (raw (f.length - 8))) told;
        wrapped_is = ap Some told;
        material_is = ap Some (material_is ∙ ap (λ t. unwrap_or t []) (text_is text is));
      }

-- a material that comes in is as short as the rules of an import have it
pub material_short : (device : DeviceSecrets) (policy : List PolicyRow) (part : Lasting) (caller : Caller) (source : KeySource)
    → IfSome (source_in device policy part caller source).import (λ import. import.length ≤ 64) → IfSome (source_in device policy part caller source).material (λ material. length material ≤ 64)
material_short device policy part caller Generated few = tt
material_short device policy part caller (Imported format material) few = few
material_short device policy part caller (Wrapped wrapping wrapped unwrapping) few = unwrapped_short device policy part caller wrapping wrapped unwrapping few
