-- Table S, a step of an operation: a list of rules in its order, and the answer is the first that does not hold.
use Rattle.std.specs.Prelude.{◌≡◌, Bool, true, false, ◌&&◌, ◌||◌, not, ◌==◌, List, [], ◌∷◌, ◌++◌, if◌then◌else◌}
use Rattle.tags.specs.declared.code.Code.TheVariants.{InvalidOperationHandle, OperationBusy, TooMuchData, InvalidKeyBlob, KeyUserNotAuthenticated, InvalidTag, InvalidInputLength}
use Rattle.tags.specs.declared.rule.Rule.{Rule}
use Rattle.tags.specs.declared.rule.RuleTable.{RuleTable}
use Rattle.tags.specs.declared.rule.RuleTable.TheVariants.{S}
use Rattle.tags.specs.Table.{Check, Ruling, check, first_broken}
use Rattle.step_rules.specs.declared.facts.StepFacts.{StepFacts}
use Rattle.step_rules.specs.Rules.{is_enter, are_pieces_short, may_take_aad, is_total_within, has_whole_text}

-- the rules of every step
abbrev pub call_rules : StepFacts → List Check
call_rules facts =
    check 1 InvalidOperationHandle facts.own ∷  -- the operation is open and the client's own
    check 2 OperationBusy (not facts.busy) ∷  -- no work on it is out
    []

-- the rules of a step that enters the operation
abbrev pub enter_rules : StepFacts → List Check
enter_rules facts =
    check 3 TooMuchData (are_pieces_short facts) ∷  -- input and signature are not too long
    check 4 InvalidKeyBlob (not facts.ended) ∷  -- its key has not ended
    check 5 KeyUserNotAuthenticated (not facts.waiting) ∷  -- it was shown a token, where it is to be shown one
    check 6 InvalidTag (may_take_aad facts) ∷  -- additional data comes for GCM, before any text
    check 7 InvalidInputLength (is_total_within facts) ∷  -- all input is not too long
    check 8 InvalidInputLength (has_whole_text facts) ∷  -- the whole text's length is one that the plan takes
    []

-- table S: an abort walks the rules of every step alone
abbrev pub rules_of : StepFacts → List Check
rules_of facts = call_rules facts ++ (if is_enter facts.kind then enter_rules facts else [])

-- the first rule of the table that does not hold
unfoldable pub answer : StepFacts → Ruling
answer facts = first_broken S (rules_of facts)

-- the rules whose denial ends the operation
abbrev pub ends_operation : Rule → Bool
ends_operation rule = is_step_table rule.table && ((rule.number == 4) || ((rule.number == 6) || ((rule.number == 7) || (rule.number == 8)))) where
  is_step_table : RuleTable → Bool
  is_step_table S = true
  is_step_table _ = false

-- the operation is the client's own, and no work on it is out
pub record IsOwnAndIdle (facts : StepFacts) : Type 0 where
  pub own : facts.own ≡ true
  pub idle : facts.busy ≡ false
