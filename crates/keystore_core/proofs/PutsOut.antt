-- What the engine tells before an enter is enough for the output of its leave.
use Rattle.std.proofs.Common.{◌≡◌, ℕ, ◌+◌, ◌≤◌, Bool, true, false, not, ◌==◌, if◌then◌else◌, List, [], ◌++◌, length, length-append, find, Option, Some, None, Err, is_ok, refl, sym, ap, ◌∙◌, subst, arith}
use Rattle.std.specs.Prelude.{IfOk}
use Rattle.std.proofs.lemmas.Bool.{eq-eqb, leb-true}
use Rattle.tags.specs.declared.code.Code.{Code}
use Rattle.tags.specs.declared.rule.Rule.{Rule}
use Rattle.tags.specs.declared.rule.RuleTable.TheVariants.{S}
use Rattle.tags.specs.declared.settled.Settled.{Settled}
use Rattle.tags.specs.declared.limits.TheConstants.{OPERATION_BYTES}
use Rattle.tags.specs.Table.{Ruling, first_broken}
use Rattle.ks_outside.specs.declared.clock.Reading.{Reading}
use Rattle.step_rules.specs.declared.facts.StepFacts.{StepFacts}
use Rattle.step_rules.specs.Rules.{are_pieces_short, is_enter as enters_kind, is_total_within, may_take_aad}
use Rattle.step_rules.specs.Table.{answer as answer_of_step, call_rules, enter_rules}
use Rattle.cipher_ops.specs.declared.room.Work.{Work}
use Rattle.cipher_ops.specs.declared.room.Work.TheVariants.{Aad, Text, Last}
use Rattle.rule_model.specs.declared.event.Act.{Act}
use Rattle.rule_model.specs.declared.event.Act.TheVariants.{EnterAad, EnterUpdate, EnterFinish}
use Rattle.rule_model.specs.declared.event.Event.{Event}
use Rattle.rule_model.specs.declared.facts.Brought.{Brought}
use Rattle.rule_model.specs.declared.facts.Caller.{Caller}
use Rattle.rule_model.specs.declared.reply.Fields.{Fields}
use Rattle.rule_model.specs.declared.reply.Reply.TheVariants.{Done}
use Rattle.rule_model.specs.Acts.{is_enter}
use Rattle.rule_model.specs.Answer.{answer_by_rules}
use Rattle.rule_model.specs.Clients.{caller_of}
use Rattle.rule_model.specs.Entries.{History, after_settling, after_step, is_done}
use Rattle.rule_model.specs.Kept.{is_live, open_of, operation_at}
use Rattle.rule_model.specs.Legal.{IsAnswered, MayFollow, MayStep}
use Rattle.rule_model.specs.declared.operation.Open.{Open}
use Rattle.rule_model.specs.Operations.{as_entered, enters, has_number, open_after, output_of, step_of}
use Rattle.rule_model.specs.Setup.{Setup}
use Rattle.rule_model.specs.StepFacts.{brought_by, facts_of}
use Rattle.rule_model.specs.declared.operation.Entered.{Entered}
use Rattle.rule_model.specs.Tickets.{goes_out, ticket_after, ticket_at}
use Rattle.rule_model.proofs.Admitted.{answered_done, broken_done}
use Rattle.live_tables.specs.declared.operations.OperationRow.{OperationRow as Row}
use Rattle.keystore_core.specs.declared.tables.Tables.{Tables}
use Rattle.live_tables.specs.Alike.{BothFound}
use Rattle.live_tables.specs.Operations.{IsRow}
use Rattle.keystore_core.specs.declared.output.TextStep.{TextStep}
use Rattle.keystore_core.specs.Outputs.{PutsOut, RowGives, StepGives, most_for, open_most, output_out, row_most, step_most, text_step, told_most}
use Rattle.keystore_core.specs.Tables.{TablesStand, row_at}
use Rattle.keystore_core.proofs.Opened.{found_changed}
use Rattle.keystore_core.proofs.Stepped.{row_found}
use Rattle.keystore_core.proofs.Untold.{untold}

-- ---- the rules of an enter that is let through

rows_hold : (own idle short live shown aad total : Bool) (first second third fourth fifth sixth seventh : Rule × Code) (rest : Ruling)
    → is_ok (if own then (if idle then (if short then (if live then (if shown then (if aad then (if total then rest else Err seventh) else Err sixth) else Err fifth) else Err fourth) else Err third) else Err second) else Err first) ≡ true
    → (own ≡ true) × (total ≡ true)
rows_hold false idle short live shown aad total first second third fourth fifth sixth seventh rest e = cc
rows_hold true false short live shown aad total first second third fourth fifth sixth seventh rest e = cc
rows_hold true true false live shown aad total first second third fourth fifth sixth seventh rest e = cc
rows_hold true true true false shown aad total first second third fourth fifth sixth seventh rest e = cc
rows_hold true true true true false aad total first second third fourth fifth sixth seventh rest e = cc
rows_hold true true true true true false total first second third fourth fifth sixth seventh rest e = cc
rows_hold true true true true true true false first second third fourth fifth sixth seventh rest e = cc
rows_hold true true true true true true true first second third fourth fifth sixth seventh rest e = (refl, refl)

record IsWithin (facts : StepFacts) : Type 0 where
  own : facts.own ≡ true
  total : facts.aad + facts.text + facts.input ≤ OPERATION_BYTES

within_if_ok : (facts : StepFacts) → enters_kind facts.kind ≡ true → is_ok (answer_of_step facts) ≡ true → IsWithin facts
unfolding answer_of_step
within_if_ok facts enter e =
    let both = rows_hold facts.own (not facts.busy) (are_pieces_short facts) (not facts.ended) (not facts.waiting) (may_take_aad facts) (is_total_within facts) _ _ _ _ _ _ _ _
    (subst (λ b. is_ok (first_broken S (call_rules facts ++ (if b then enter_rules facts else []))) ≡ true) enter e) in
    record { own = both.0; total = leb-true (facts.aad + facts.text + facts.input) OPERATION_BYTES both.1 }

-- the operation that a work enters is there, and has room for what the work brings
record HasTaken (setup : Setup) (past : History) (op size : ℕ) : Type 0 where
  operation : Open
  found : operation_at setup past op ≡ Some operation
  room : length operation.aad + length operation.text + size ≤ OPERATION_BYTES

taken_by : (setup : Setup) (past : History) (caller : Caller) (op : ℕ) (brought : Brought) (found : Option Open) → operation_at setup past op ≡ found → enters_kind brought.kind ≡ true
    → is_ok (answer_of_step (facts_of found (is_live setup past) caller brought)) ≡ true → HasTaken setup past op brought.input
taken_by setup past caller op brought None is enter e =
    let never : false ≡ true = (within_if_ok (facts_of None (is_live setup past) caller brought) enter e).own in cc
taken_by setup past caller op brought (Some o) is enter e =
    record { operation = o; found = is; room = (within_if_ok (facts_of (Some o) (is_live setup past) caller brought) enter e).total }

-- ---- the history after the enter

own_ticket : (ticket : ℕ) (entered : Entered) (before : Option Entered) → (if ticket == ticket then Some entered else before) ≡ Some entered
own_ticket ticket entered before = rw (eq-eqb ticket ticket refl) refl

given_ticket : (told : Option ℕ) (ticket op : ℕ) (work : Work) (before : Option Entered) → told ≡ Some ticket → ticket_after (goes_out told op work) ticket before ≡ Some (record { op = op; work = work })
given_ticket told ticket op work before is = ap (λ t. ticket_after (goes_out t op work) ticket before) is ∙ own_ticket ticket (record { op = op; work = work }) before

given_operation : (told : Option ℕ) (ticket op step : ℕ) (opened : List Open) (o : Open) → told ≡ Some ticket → find (has_number op) opened ≡ Some o
    → find (has_number op) (open_after step (enters op told) opened) ≡ Some (as_entered step ticket o)
given_operation told ticket op step opened o is found =
    ap (λ t. find (has_number op) (open_after step (enters op t) opened)) is ∙ found_changed op (as_entered step ticket) (λ x. refl) opened o found

same_open : (setup : Setup) (past : History) (settled : Option Settled) (op : ℕ) → operation_at setup (after_settling settled past) op ≡ operation_at setup past op
same_open setup past None op = refl
same_open setup past (Some settled) op = refl

-- ---- by the row of the operation

update_given : (row : Option Row) (o : Open) (input : List ℕ) (most : ℕ) → BothFound IsRow row (Some o) → length o.aad + length o.text + length input ≤ OPERATION_BYTES → RowGives row (length input) false most
    → IfOk (output_of (Some o) (Text input)) (λ out. length out ≤ most)
update_given None o input most both room gives = absurd both
update_given (Some row) o input most both room gives =
    rw (← both.plan, ← both.limited)
    (gives (omega (arith, both.text_is, room)) o.operation.material o.operation.nonce o.text (o.text ++ input) (length-append o.text input))

finish_given : (row : Option Row) (o : Open) (input : List ℕ) (signature : Option (List ℕ)) (most : ℕ) → BothFound IsRow row (Some o) → length o.aad + length o.text + length input ≤ OPERATION_BYTES → RowGives row (length input) true most
    → IfOk (output_of (Some o) (Last input signature)) (λ out. length out ≤ most)
finish_given None o input signature most both room gives = absurd both
finish_given (Some row) o input signature most both room gives =
    rw (← both.plan, ← both.limited)
    (gives (omega (arith, both.text_is, room)) o.operation.material o.operation.nonce o.aad o.text (o.text ++ input) signature (sym both.text_is) (omega (arith, length-append o.text input, both.text_is)))

aad_given : (found : Option Open) (input : List ℕ) (most : ℕ) → IfOk (output_of found (Aad input)) (λ out. length out ≤ most)
aad_given None input most = omega arith
aad_given (Some o) input most = omega arith

-- what is told by the row is told by the operation
row_told : (row : Option Row) (o : Option Open) (size : ℕ) (last : Bool) → BothFound IsRow row o → row_most row size last ≡ open_most o size last
row_told None None size last both = refl
row_told (Some row) (Some o) size last both = rw (both.plan, both.limited, both.text_is) refl
row_told None (Some o) size last both = absurd both
row_told (Some row) None size last both = absurd both

step_told : (setup : Setup) (past : History) (tables : Tables) (step : Option TextStep) → TablesStand setup tables past → told_most tables step ≡ step_most setup past step
step_told setup past tables None stands = refl
step_told setup past tables (Some step) stands = row_told (row_at tables step.op) (operation_at setup past step.op) step.size step.last (row_found setup past tables step.op stands)

pub few_told : (setup : Setup) (past : History) (tables : Tables) (act : Act) (most : ℕ) → TablesStand setup tables past → most ≤ told_most tables (text_step act) → most ≤ most_for setup past act
few_told setup past tables act most stands few = subst (λ n. most ≤ n) (step_told setup past tables (text_step act) stands) few

-- ---- all of it

module _ (setup : Setup) (past : History) (tables : Tables) (settled : Option Settled) (reading : Reading) (client : ℕ) (drawn : List ℕ) (fields : Fields) (ticket most : ℕ)
    (stands : TablesStand setup tables past) (told : fields.ticket ≡ Some ticket) where
  abbrev By : Act → Event
  By act = record { reading = reading; client = client; act = act }

  abbrev Mid : History
  Mid = after_settling settled past

  abbrev Later : Act → History
  Later act = after_step settled (By act) drawn (Done fields) past

  ruled : (act : Act) → MayFollow setup Mid (By act) drawn (Done fields) → is_done (answer_by_rules act setup Mid (caller_of Mid (By act)) drawn) ≡ true
  ruled act may =
      let is : IsAnswered setup Mid (By act) drawn (Done fields) = answered_done setup Mid (By act) drawn fields may in
      subst (λ r. is_done r ≡ true) is.is_answer refl

  row_is : (op : ℕ) (o : Open) → operation_at setup Mid op ≡ Some o → BothFound IsRow (row_at tables op) (Some o)
  row_is op o found = subst (BothFound IsRow (row_at tables op)) (sym (same_open setup past settled op) ∙ found) (row_found setup past tables op stands)

  -- the output of the work that went out
  out_of : (act : Act) (op : ℕ) (work : Work) (o : Open) → ticket_at (Later act) ticket ≡ Some (record { op = op; work = work }) → operation_at setup (Later act) op ≡ Some (as_entered (step_of Mid) ticket o)
      → IfOk (output_of (Some o) work) (λ out. length out ≤ most) → PutsOut setup (Later act) ticket most
  out_of act op work o is found few =
      subst (λ entered. IfOk (output_out setup (Later act) entered) (λ out. length out ≤ most)) (sym is)
      (subst (λ x. IfOk (output_of x work) (λ out. length out ≤ most)) (sym found) (as_it_was work few)) where
        as_it_was : (w : Work) → IfOk (output_of (Some o) w) (λ out. length out ≤ most) → IfOk (output_of (Some (as_entered (step_of Mid) ticket o)) w) (λ out. length out ≤ most)
        as_it_was (Aad input) h = h
        as_it_was (Text input) h = h
        as_it_was (Last input signature) h = h

  pub puts_by : (act : Act) → MayFollow setup Mid (By act) drawn (Done fields) → StepGives tables (text_step act) most → PutsOut setup (Later act) ticket most
  puts_by (EnterAad op input) may gives =
      subst (λ entered. IfOk (output_out setup (Later (EnterAad op input)) entered) (λ out. length out ≤ most)) (sym (given_ticket fields.ticket ticket op (Aad input) (ticket_at Mid ticket) told))
      (aad_given (operation_at setup (Later (EnterAad op input)) op) input most)
  puts_by (EnterUpdate op input) may gives =
      let has : HasTaken setup Mid op (length input) =
      taken_by setup Mid (caller_of Mid (By (EnterUpdate op input))) op (brought_by (Text input)) (operation_at setup Mid op) refl refl (broken_done _ _ (ruled (EnterUpdate op input) may)) in
      out_of (EnterUpdate op input) op (Text input) has.operation (given_ticket fields.ticket ticket op (Text input) (ticket_at Mid ticket) told)
      (given_operation fields.ticket ticket op (step_of Mid) (open_of setup Mid) has.operation told has.found)
      (update_given (row_at tables op) has.operation input most (row_is op has.operation has.found) has.room gives)
  puts_by (EnterFinish op input signature) may gives =
      let has : HasTaken setup Mid op (length input) =
      taken_by setup Mid (caller_of Mid (By (EnterFinish op input signature))) op (brought_by (Last input signature)) (operation_at setup Mid op) refl refl (broken_done _ _ (ruled (EnterFinish op input signature) may)) in
      out_of (EnterFinish op input signature) op (Last input signature) has.operation (given_ticket fields.ticket ticket op (Last input signature) (ticket_at Mid ticket) told)
      (given_operation fields.ticket ticket op (step_of Mid) (open_of setup Mid) has.operation told has.found)
      (finish_given (row_at tables op) has.operation input signature most (row_is op has.operation has.found) has.room gives)
  puts_by act may gives = absurd (never act may refl) where
    none : (t : Option ℕ) → t ≡ None → t ≡ Some ticket → ⊥
    none None e f = cc
    none (Some number) e f = cc

    never : (other : Act) → MayFollow setup Mid (By other) drawn (Done fields) → is_enter other ≡ false → ⊥
    never other may e = none fields.ticket (untold setup Mid (By other) drawn fields e may) told

pub puts_out : (setup : Setup) (past : History) (tables : Tables) (settled : Option Settled) (event : Event) (drawn : List ℕ) (fields : Fields) (ticket most : ℕ) → TablesStand setup tables past
    → MayStep setup past settled event drawn (Done fields) → fields.ticket ≡ Some ticket → StepGives tables (text_step event.act) most → PutsOut setup (after_step settled event drawn (Done fields) past) ticket most
puts_out setup past tables settled event drawn fields ticket most stands may told gives =
    puts_by setup past tables settled event.reading event.client drawn fields ticket most stands told event.act may.follows gives
