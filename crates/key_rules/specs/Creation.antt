-- What becomes of a call that makes a key.
use Rattle.std.specs.Prelude.{◌≡◌, ℕ, ◌/◌, ◌≤◌, true, List, length, Option, Some, None, Result, is_some, unwrap_or, IfSome}
use Rattle.tags.specs.declared.code.Code.{Code}
use Rattle.tags.specs.declared.param.Param.{Param}
use Rattle.tags.specs.declared.rule.Rule.{Rule}
use Rattle.tags.specs.declared.rule.RuleTable.TheVariants.{K}
use Rattle.tags.specs.declared.tag.Tag.TheVariants as tags
use Rattle.tags.specs.declared.limits.TheConstants.{KEPT_LIST_BYTES}
use Rattle.tags.specs.Table.{first_broken, where_all_hold}
use Rattle.tag_lists.specs.Spelling.{spelling}
use Rattle.tag_lists.specs.Lookups.{bytes_of, number_of}
use Rattle.key_rules.specs.declared.facts.ImportFacts.{ImportFacts}
use Rattle.key_rules.specs.declared.facts.NewFacts.{NewFacts}
use Rattle.key_rules.specs.declared.plan.KeyPlan.{KeyPlan}
use Rattle.key_rules.specs.KeptLists.{kept, limit}
use Rattle.key_rules.specs.Rules.{list_in, names_new_key}
use Rattle.key_rules.specs.Table.{rules_of}

-- the bytes of a generated key's material, over the caller's list: KEY_SIZE is in bits
unfoldable pub material_size : List Param → ℕ
material_size list = unwrap_or (number_of tags.KeySize list) 0 / 8

-- how many bytes of material are drawn: all of a generated key's, and none for an import
abbrev pub drawn_size : Option ImportFacts → List Param → ℕ
drawn_size None list = material_size list
drawn_size (Some import) list = 0

-- the plan of a list
abbrev pub plan_for : NewFacts → List Param → KeyPlan
plan_for facts list = record {
  list = kept facts.import (is_some facts.wrapped) facts.wall facts.os facts.patch list;
  app_id = bytes_of tags.ApplicationId list;
  app_bytes = bytes_of tags.ApplicationData list;
  limit = limit list;
  size = drawn_size facts.import list;
}

-- the plan of a new key
abbrev pub plan_of : NewFacts → KeyPlan
plan_of facts = plan_for facts (list_in facts.params)

-- the first broken rule of table K, or else the plan
abbrev pub new_key : NewFacts → Result KeyPlan (Rule × Code)
new_key facts = where_all_hold (first_broken K (rules_of facts)) (plan_of facts)

-- the bytes of a new key's material: the imported one's, or those that are drawn
abbrev pub key_size : Option ImportFacts → List Param → ℕ
key_size None list = material_size list
key_size (Some import) list = import.length

-- an id that may be absent is short
abbrev pub IsShortId : Option (List ℕ) → Type 0
IsShortId id = IfSome id (λ bytes. length bytes ≤ 1024)

-- a drawn material has at most 64 bytes, the kept list is spelled in at most as many as one has, and each of the ids has at most 1,024
pub record IsSmall (plan : KeyPlan) : Type 0 where
  pub drawn : plan.size ≤ 64
  pub listed : length (spelling plan.list) ≤ KEPT_LIST_BYTES
  pub id : IsShortId plan.app_id
  pub bytes : IsShortId plan.app_bytes

-- What a new key keeps to that the rules let through: its descriptor names one, an imported material has at most 64 bytes, and
-- so small is its plan.
pub record IsFit (facts : NewFacts) (plan : KeyPlan) : Type 0 where
  pub named : names_new_key facts.descriptor ≡ true
  pub short : IfSome facts.import (λ import. import.length ≤ 64)
  pub small : IsSmall plan
