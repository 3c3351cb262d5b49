-- A wrapped key that the rules admit is sealed with the text of its bytes.
use Rattle.std.proofs.Common.{◌≡◌, ℕ, Bool, true, false, ◌++◌, List, [], ◌∷◌, take, drop, Option, Some, None, Result, Ok, Err, length, if◌then◌else◌, is_ok, refl, ap, subst}
use Rattle.std.specs.Prelude.{is_some, unwrap_or}
use Rattle.aes_core.specs.Cipher.{inverse_cipher}
use Rattle.key_wrap.specs.Wrapping.{kw_open}
use Rattle.tags.specs.declared.code.Code.{Code}
use Rattle.tags.specs.declared.descriptor.Descriptor.{Descriptor}
use Rattle.tags.specs.declared.rule.Rule.{Rule}
use Rattle.tags.specs.declared.rule.RuleTable.TheVariants.{K}
use Rattle.tags.specs.Table.{Check, Ruling, first_broken, where_all_hold}
use Rattle.key_blobs.specs.declared.fault.BlobFault.{BlobFault}
use Rattle.key_blobs.specs.declared.sealed.Opened.{Opened}
use Rattle.key_rules.specs.declared.facts.NewFacts.{NewFacts}
use Rattle.key_rules.specs.declared.facts.WrapFacts.{WrapFacts}
use Rattle.key_rules.specs.Asked.{asked as asked_in}
use Rattle.key_rules.specs.Creation.{new_key, plan_of}
use Rattle.key_rules.specs.Rules.{list_in, wrapping_list, wraps_keys}
use Rattle.key_rules.specs.Table.{bytes_rules, list_rules, rules_of, wrapping_rules}
use Rattle.rule_model.specs.declared.facts.Caller.{Caller}
use Rattle.rule_model.specs.Blobs.{device_at, kept_as, list_read}
use Rattle.rule_model.specs.Boot.{has_early_ended}
use Rattle.rule_model.specs.Entries.{History}
use Rattle.rule_model.specs.Kept.{access_at, key_found}
use Rattle.rule_model.specs.NewFacts.{new_facts}
use Rattle.rule_model.specs.Setup.{Setup}
use Rattle.rule_model.specs.Unwrapping.{WrappedLaw, plan_at, source_at, wrapping_at}
use Rattle.rule_model.specs.WrappedKeys.{may_unwrap, opened_text, wrap_facts}
use Rattle.rule_model.proofs.KeySizes.{let_done}

-- a row that does not stop the walk, and what comes behind it
held : (holds : Bool) (rest : Ruling) (broken : Rule × Code) → is_ok (if holds then rest else Err broken) ≡ true → (holds ≡ true) × (is_ok rest ≡ true)
held true rest broken e = (refl, e)
held false rest broken e = cc

-- what comes behind rows that hold
behind : (rows later : List Check) → is_ok (first_broken K (rows ++ later)) ≡ true → is_ok (first_broken K later) ≡ true
behind [] later e = e
behind (row ∷ rows) later e = behind rows later (held _ _ _ e).1

all_ok : {T : Type 0} (ruling : Ruling) (value : T) → is_ok (where_all_hold ruling value) ≡ true → is_ok ruling ≡ true
all_ok (Ok done) value e = refl
all_ok (Err broken) value e = cc

-- the last rows of a wrapping key hold
wrapping_held : (os patch : ℕ) (facts : WrapFacts) (later : List Check) → is_ok (first_broken K (wrapping_rules os patch facts ++ later)) ≡ true
    → (wraps_keys (wrapping_list facts) ≡ true) × (facts.opens ≡ true)
unfolding wrapping_rules
wrapping_held os patch facts later e =
    let rows = wrapping_rules os patch facts in
    let wraps = held _ _ _ (behind (take 9 rows) (drop 9 rows ++ later) e) in
    let sized = held _ _ _ wraps.1 in
    let opens = held _ _ _ sized.1 in
    (wraps.0, opens.0)

-- of a call that the rules let through
let_unwrap : (facts : NewFacts) (wrapped : WrapFacts) → is_ok (new_key (record facts { wrapped = Some wrapped })) ≡ true
    → (wraps_keys (wrapping_list wrapped) ≡ true) × (wrapped.opens ≡ true)
let_unwrap facts wrapped e =
    let own : NewFacts = record facts { wrapped = Some wrapped } in
    let rest : List Check = bytes_rules facts.params ++ list_rules facts.import facts.descriptor.domain facts.early_ended (list_in facts.params) in
    wrapping_held facts.os facts.patch wrapped rest
    (behind (take 3 (rules_of own)) (wrapping_rules facts.os facts.patch wrapped ++ rest) (all_ok (first_broken K (rules_of own)) (plan_of own) e))

-- a text that was opened, and the key that it was opened under
record IsText (opened : Result Opened BlobFault) (wrapped : List ℕ) : Type 0 where
  own : Opened
  own_is : opened ≡ Ok own
  text : List ℕ
  text_is : kw_open (inverse_cipher own.material) wrapped ≡ Some text
  opened_is : opened_text opened wrapped ≡ Some text

found_text : (may : Bool) (found : Option (List ℕ)) → is_some (if◌then◌else◌ {A = Option (List ℕ)} may found None) ≡ true
    → (text : List ℕ) × (found ≡ Some text) × ((if◌then◌else◌ {A = Option (List ℕ)} may found None) ≡ Some text)
found_text true (Some text) e = (text, refl, refl)
found_text true None e = cc
found_text false found e = cc

some_text : (opened : Result Opened BlobFault) (wrapped : List ℕ) → is_some (opened_text opened wrapped) ≡ true → IsText opened wrapped
some_text (Err fault) wrapped e = cc
some_text (Ok own) wrapped e =
    let found = found_text (may_unwrap (Ok own) (length wrapped)) (kw_open (inverse_cipher own.material) wrapped) e in
    record { own = own; own_is = refl; text = found.0; text_is = found.1; opened_is = found.2 }

-- what its rules read
abbrev facts_at : Setup → History → Caller → Descriptor → List ℕ → List ℕ → WrapFacts
facts_at setup past caller wrapping wrapped unwrapping =
    wrap_facts setup.policy (access_at setup past caller wrapping) (key_found setup past caller wrapping) caller wrapping (asked_in unwrapping) (wrapping_at setup past caller wrapping unwrapping) wrapped

pub law_of_wrapped_keys : WrappedLaw
law_of_wrapped_keys setup past caller key params wrapping wrapped unwrapping drawn done =
    let source = source_at setup past caller wrapping wrapped unwrapping in
    let opened = wrapping_at setup past caller wrapping unwrapping in
    let through = let_done setup past caller key params source drawn done in
    let rows = let_unwrap (new_facts setup.device setup.policy caller key params source (has_early_ended setup past)) (facts_at setup past caller wrapping wrapped unwrapping) through in
    let is : IsText opened wrapped = some_text opened wrapped rows.1 in
    record {
      own = is.own;
      own_is = is.own_is;
      wraps = subst (λ found. wraps_keys (unwrap_or (list_read found) []) ≡ true) is.own_is rows.0;
      text = is.text;
      text_is = is.text_is;
      blob_is = ap (λ text. kept_as (device_at setup past) (plan_at setup past caller key params wrapping wrapped unwrapping) drawn (unwrap_or text [])) is.opened_is;
    }
