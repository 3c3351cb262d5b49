-- What is kept with a new key, what is drawn for it, and what is sealed.
use Rattle.std.specs.Prelude.{ℕ, List, Result, Ok, Err}
use Rattle.tags.specs.declared.code.Code.{Code}
use Rattle.tags.specs.declared.rule.Rule.{Rule}
use Rattle.tag_lists.specs.Spelling.{spelling}
use Rattle.key_blobs.specs.declared.sealed.Sealed.{Sealed}
use Rattle.key_rules.specs.declared.facts.NewFacts.{NewFacts}
use Rattle.key_rules.specs.declared.plan.KeyPlan.{KeyPlan}
use Rattle.key_rules.specs.Creation.{new_key}
use Rattle.keymint_ops.specs.declared.creation.NewKey.{NewKey}

-- a plan with its kept list spelled out
abbrev pub spelled : KeyPlan → NewKey
spelled plan = record { plan = plan; list = spelling plan.list }

abbrev pub where_planned : Result KeyPlan (Rule × Code) → Result NewKey (Rule × Code)
where_planned (Ok plan) = Ok (spelled plan)
where_planned (Err broken) = Err broken

-- the first broken rule of table K, or else what is kept and drawn
unfoldable pub planned : NewFacts → Result NewKey (Rule × Code)
planned facts = where_planned (new_key facts)

-- what is sealed into a key's blob: the device's root of trust, the ids of the caller's list, the kept list and the material
abbrev pub sealed_as : List ℕ → KeyPlan → List ℕ → Sealed
sealed_as root plan material = record { root = root; app_id = plan.app_id; app_bytes = plan.app_bytes; list = plan.list; material = material }
