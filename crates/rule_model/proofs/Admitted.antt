-- What is known of an entry that the rules admit.
use Rattle.std.proofs.Common.{◌≡◌, ℕ, Bool, true, false, not, if◌then◌else◌, List, [], ◌++◌, Option, Some, None, Result, Ok, Err, is_ok, refl, subst}
use Rattle.tags.specs.declared.code.Code.{Code}
use Rattle.tags.specs.declared.rule.Rule.{Rule}
use Rattle.tags.specs.declared.rule.RuleTable.TheVariants.{S}
use Rattle.tags.specs.Table.{Ruling, first_broken}
use Rattle.step_rules.specs.declared.facts.StepFacts.{StepFacts}
use Rattle.step_rules.specs.Rules.{is_enter as enters_kind}
use Rattle.step_rules.specs.Table.{answer as answer_of_step, call_rules, enter_rules}
use Rattle.cipher_ops.specs.declared.room.Work.TheVariants.{Aad, Text, Last}
use Rattle.rule_model.specs.declared.event.Act.{Act}
use Rattle.rule_model.specs.declared.event.Act.TheVariants.{EnterAad, EnterUpdate, EnterFinish}
use Rattle.rule_model.specs.declared.event.Event.{Event}
use Rattle.rule_model.specs.declared.facts.Brought.{Brought}
use Rattle.rule_model.specs.declared.facts.Caller.{Caller}
use Rattle.rule_model.specs.declared.reply.Fields.{Fields}
use Rattle.rule_model.specs.declared.reply.Reply.{Reply}
use Rattle.rule_model.specs.declared.reply.Reply.TheVariants.{Done, Stopped}
use Rattle.rule_model.specs.Acts.{is_enter}
use Rattle.rule_model.specs.Answer.{answer_by_rules}
use Rattle.rule_model.specs.Entries.{History, is_done}
use Rattle.rule_model.specs.Kept.{is_live, operation_at}
use Rattle.rule_model.specs.Legal.{IsAnswered, MayFollow, Answered, WithoutMemory, WithoutEntropy, Faulted, NotSettled, NotRestarted}
use Rattle.rule_model.specs.declared.operation.Open.{Open}
use Rattle.rule_model.specs.Operations.{operation_of}
use Rattle.rule_model.specs.Replies.{broken_or}
use Rattle.rule_model.specs.Setup.{Setup}
use Rattle.rule_model.specs.StepFacts.{brought_by, facts_of, has_ended}

-- ---- through the layers of an answer

pub broken_done : {T : Type 0} (ruling : Result T (Rule × Code)) (reply : Reply) → is_done (broken_or ruling reply) ≡ true → is_ok ruling ≡ true
broken_done (Ok found) reply e = refl
broken_done (Err broken) reply e = cc

pub broken_fields : {T : Type 0} (ruling : Result T (Rule × Code)) (fields given : Fields) → broken_or ruling (Done fields) ≡ Done given → fields ≡ given
broken_fields (Ok found) fields given e = cc
broken_fields (Err broken) fields given e = cc

-- ---- a step that enters an operation

rows_hold : (own idle short ended : Bool) (first second third fourth : Rule × Code) (rest : Ruling)
    → is_ok (if own then (if idle then (if short then (if not ended then rest else Err fourth) else Err third) else Err second) else Err first) ≡ true → (own ≡ true) × (ended ≡ false)
rows_hold false idle short ended first second third fourth rest e = cc
rows_hold true false short ended first second third fourth rest e = cc
rows_hold true true false ended first second third fourth rest e = cc
rows_hold true true true true first second third fourth rest e = cc
rows_hold true true true false first second third fourth rest e = (refl, refl)

step_holds : (facts : StepFacts) → enters_kind facts.kind ≡ true → is_ok (answer_of_step facts) ≡ true → (facts.own ≡ true) × (facts.ended ≡ false)
unfolding answer_of_step
step_holds facts enters e =
    rows_hold facts.own (not facts.busy) _ facts.ended _ _ _ _ _
    (subst (λ b. is_ok (first_broken S (call_rules facts ++ (if b then enter_rules facts else []))) ≡ true) enters e)

-- the operation that it enters is open, and its key has not ended
pub record IsEntered (setup : Setup) (past : History) (op : ℕ) : Type 0 where
  pub operation : Open
  pub found : operation_at setup past op ≡ Some operation
  pub live : has_ended (is_live setup past) operation.operation.key ≡ false

entered_from : (setup : Setup) (past : History) (op : ℕ) (found : Option Open) (caller : Caller) (brought : Brought) → operation_at setup past op ≡ found → enters_kind brought.kind ≡ true
    → is_ok (answer_of_step (facts_of found (is_live setup past) caller brought)) ≡ true → IsEntered setup past op
entered_from setup past op None caller brought is enters e =
    let holds : false ≡ true = (step_holds (facts_of None (is_live setup past) caller brought) enters e).0 in cc
entered_from setup past op (Some o) caller brought is enters e =
    record { operation = o; found = is; live = (step_holds (facts_of (Some o) (is_live setup past) caller brought) enters e).1 }

pub entered : (setup : Setup) (past : History) (caller : Caller) (drawn : List ℕ) (act : Act) (op : ℕ) → is_enter act ≡ true → operation_of act ≡ Some op → is_done (answer_by_rules act setup past caller drawn) ≡ true → IsEntered setup past op
entered setup past caller drawn (EnterAad number input) op enters is e =
    let same : number ≡ op = cc in
    subst (IsEntered setup past) same (entered_from setup past number (operation_at setup past number) caller (brought_by (Aad input)) refl refl (broken_done _ _ e))
entered setup past caller drawn (EnterUpdate number input) op enters is e =
    let same : number ≡ op = cc in
    subst (IsEntered setup past) same (entered_from setup past number (operation_at setup past number) caller (brought_by (Text input)) refl refl (broken_done _ _ e))
entered setup past caller drawn (EnterFinish number input signature) op enters is e =
    let same : number ≡ op = cc in
    subst (IsEntered setup past) same (entered_from setup past number (operation_at setup past number) caller (brought_by (Last input signature)) refl refl (broken_done _ _ e))
entered setup past caller drawn _ op enters is e = cc

-- ---- an entry that is admitted has the answer of the rules

done_is_none : (fields : Fields) (code : Code) → Done fields ≡ Stopped code → ⊥
done_is_none fields code e = cc

pub answered_done : (setup : Setup) (past : History) (event : Event) (drawn : List ℕ) (fields : Fields) → MayFollow setup past event drawn (Done fields) → IsAnswered setup past event drawn (Done fields)
answered_done setup past event drawn fields (Answered is) = is
answered_done setup past event drawn fields (WithoutMemory is) = absurd (done_is_none fields _ is.is_want)
answered_done setup past event drawn fields (WithoutEntropy is) = absurd (done_is_none fields _ is.is_fault)
answered_done setup past event drawn fields (Faulted is) = absurd (done_is_none fields _ is.is_fault)
answered_done setup past event drawn fields (NotSettled is) = absurd (done_is_none fields _ is.is_fault)
answered_done setup past event drawn fields (NotRestarted code is) = absurd (done_is_none fields _ is.is_refusal)
