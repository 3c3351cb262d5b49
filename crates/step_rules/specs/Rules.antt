-- The rules of a step of an operation: each says whether it holds over the facts.
use Rattle.std.specs.Prelude.{◌≡◌, ◌≤◌, ◌+◌, Bool, true, false, ◌&&◌, ◌==◌, nat_le}
use Rattle.tags.specs.Plan.{may_end, takes_aad}
use Rattle.tags.specs.declared.limits.TheConstants.{OPERATION_BYTES, PIECE_BYTES}
use Rattle.tags.specs.Values.{implies}
use Rattle.step_rules.specs.declared.facts.StepFacts.{StepFacts}
use Rattle.step_rules.specs.declared.facts.StepKind.{StepKind}
use Rattle.step_rules.specs.declared.facts.StepKind.TheVariants.{Aad, Last, Abort}

-- updateAad, update and finish enter an operation
abbrev pub is_enter : StepKind → Bool
is_enter Abort = false
is_enter _ = true

abbrev pub is_aad : StepKind → Bool
is_aad Aad = true
is_aad _ = false

abbrev pub is_last : StepKind → Bool
is_last Last = true
is_last _ = false

-- input and signature are not too long
abbrev pub are_pieces_short : StepFacts → Bool
are_pieces_short facts = nat_le facts.input PIECE_BYTES && nat_le facts.signature PIECE_BYTES

-- updateAad: the plan takes additional data and no admitted update had a byte
abbrev pub may_take_aad : StepFacts → Bool
may_take_aad facts = implies (is_aad facts.kind) (takes_aad facts.plan && (facts.text == 0))

-- all input so far with this one is not too long
abbrev pub is_total_within : StepFacts → Bool
is_total_within facts = nat_le (facts.aad + facts.text + facts.input) OPERATION_BYTES

-- finish: the joined text, this input with it, has a length that the plan takes
abbrev pub has_whole_text : StepFacts → Bool
has_whole_text facts = implies (is_last facts.kind) (may_end facts.plan (facts.text + facts.input))

-- what a step that enters an operation keeps to
pub record Enters (facts : StepFacts) : Type 0 where
  pub input : facts.input ≤ PIECE_BYTES
  pub signature : facts.signature ≤ PIECE_BYTES
  pub live : facts.ended ≡ false
  pub total : facts.aad + facts.text + facts.input ≤ OPERATION_BYTES
  pub aad : is_aad facts.kind ≡ true → (takes_aad facts.plan ≡ true) × (facts.text ≡ 0)
  pub whole : is_last facts.kind ≡ true → may_end facts.plan (facts.text + facts.input) ≡ true
