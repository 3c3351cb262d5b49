-- The operations on which works are out wait for the tickets of their clients' passes.
use Rattle.std.proofs.Common.{◌≡◌, ℕ, ◌+◌, ◌==◌, ◌&&◌, Bool, true, false, not, if◌then◌else◌, List, [], ◌∷◌, ◌++◌, map, filter, find, Option, Some, None, is_some, is_ok, unwrap_or, Result, Ok, Err, refl, sym, ap, ◌∙◌, subst, inl, inr, arith, ⊎_elim, ◌⊎◌}
use Rattle.std.proofs.lemmas.Bool.{cases_Bool, eqb-true, eqb-false, eq-eqb, ne_eqb}
use Rattle.tags.specs.declared.code.Code.{Code}
use Rattle.tags.specs.declared.rule.Rule.{Rule}
use Rattle.tags.specs.declared.rule.RuleTable.TheVariants.{S}
use Rattle.tags.specs.declared.settled.Settled.{Settled}
use Rattle.tags.specs.Table.{Ruling, first_broken}
use Rattle.cipher_ops.specs.declared.room.Work.{Work}
use Rattle.cipher_ops.specs.declared.room.Work.TheVariants.{Aad, Text, Last}
use Rattle.step_rules.specs.declared.facts.StepFacts.{StepFacts}
use Rattle.step_rules.specs.Rules.{is_enter as enters_kind}
use Rattle.step_rules.specs.Table.{answer as answer_of_step, call_rules, ends_operation, enter_rules}
use Rattle.rule_model.specs.declared.entry.Entry.TheVariants.{Acted}
use Rattle.rule_model.specs.declared.event.Act.{Act}
use Rattle.rule_model.specs.declared.event.Act.TheVariants.{AddAuthToken, CreateOperation, Disconnect, EnterAad, EnterUpdate, EnterFinish, Abort, Leave, Restart}
use Rattle.rule_model.specs.declared.event.Event.{Event}
use Rattle.rule_model.specs.declared.facts.Brought.{Brought}
use Rattle.rule_model.specs.declared.facts.Caller.{Caller}
use Rattle.rule_model.specs.declared.reply.Fields.{Fields}
use Rattle.rule_model.specs.declared.reply.Reply.{Reply}
use Rattle.rule_model.specs.declared.reply.Reply.TheVariants.{Done, Broken, Stopped}
use Rattle.rule_model.specs.Acts.{is_connect, is_enter, is_leave}
use Rattle.rule_model.specs.Answer.{answer_by_rules, given_or, leaving}
use Rattle.rule_model.specs.Clients.{caller_of}
use Rattle.rule_model.specs.Entries.{History, admits, count_of, gives, is_done}
use Rattle.rule_model.specs.Kept.{is_live, kept, open_of, operation_at}
use Rattle.rule_model.specs.Legal.{LegalBefore, MayFollow}
use Rattle.rule_model.specs.declared.operation.Open.{Open}
use Rattle.rule_model.specs.declared.entry_change.OperationChange.{OperationChange}
use Rattle.rule_model.specs.declared.entry_change.OperationChange.TheVariants.{SameOperations, Opens, Enters, Returns, Shows, Closes, ClosesOf, ClosesAll}
use Rattle.rule_model.specs.Operations.{admitted_operation, as_entered, as_returned, as_shown, begin_facts_in, begin_key_in, closes, enters, has_number, is_for, open_after, opens, operation_change_in, operation_of, returns, step_of, stopped_operation, with_change, without}
use Rattle.rule_model.specs.Blobs.{device_at}
use Rattle.rule_model.specs.Settling.{is_faulted, is_unsettled}
use Rattle.rule_model.specs.Setup.{Setup}
use Rattle.rule_model.specs.StepFacts.{brought_by, facts_of, step_facts}
use Rattle.rule_model.specs.declared.entry_change.TicketChange.TheVariants.{ComesBack, GoesOut}
use Rattle.rule_model.specs.declared.operation.Entered.{Entered}
use Rattle.rule_model.specs.declared.entry_change.TicketChange.{TicketChange}
use Rattle.rule_model.specs.Tickets.{admitted_ticket, next_ticket, ticket_after, ticket_at, ticket_change}
use Rattle.rule_model.proofs.Admitted.{broken_done}
use Rattle.rule_model.proofs.Bounds.{Each, each_in}
use Rattle.rule_model.proofs.Outputs.{Apart, Differs}
use Rattle.rule_model.proofs.Returned.{paired_of}
use Rattle.service_book.specs.declared.entry.BookEntry.{BookEntry}
use Rattle.service_book.specs.Book.{IsOwnAct, client_given, client_in, client_of, gives_ticket, history_of, pass_of_ticket, ticket_in}
use Rattle.shared_service.specs.Calls.{OneStep}
use Rattle.shared_service.specs.Desks.{ComesInTurn}
use Rattle.shared_service.specs.Facts.{AllWaitedFor, Facts, IsWaitedFor, is_given, pass_of_client}
use Rattle.shared_service.proofs.Entries.{in_turn_goes_on, leave_in_turn, leave_is, quiet_change}
use Rattle.shared_service.proofs.Fitting.{else_is, then_is}
use Rattle.shared_service.proofs.Logs.{acted_of, settling_of}
use Rattle.shared_service.proofs.Replying.{by_rules, connected_client, entered_ticket, left_change, leaving_answer}

-- a settling changes nothing of it
one_settled : (pass : ℕ) (s : OneStep) (v : Settled) (log : List BookEntry) (o : Open) (t : Option ℕ) → IsWaitedFor log o t → IsWaitedFor (settling_of pass s v ∷ log) o t
one_settled pass s v log o None w = tt
one_settled pass s v log o (Some ticket) w = w

pub waited_settled : (pass : ℕ) (s : OneStep) (v : Settled) (log : List BookEntry) (opened : List Open) → AllWaitedFor log opened → AllWaitedFor (settling_of pass s v ∷ log) opened
waited_settled pass s v log [] all = tt
waited_settled pass s v log (o ∷ opened) all = (one_settled pass s v log o o.ticket all.0, waited_settled pass s v log opened all.1)

-- ---- those that are left, changed, or more

pub all_left : (log : List BookEntry) (test : Open → Bool) (opened : List Open) → AllWaitedFor log opened → AllWaitedFor log (filter test opened)
all_left log test [] all = tt
all_left log test (o ∷ opened) all = by_test (test o) (all_left log test opened all.1) where
  by_test : (b : Bool) → AllWaitedFor log (filter test opened) → AllWaitedFor log (if b then o ∷ filter test opened else filter test opened)
  by_test true rest = (all.0, rest)
  by_test false rest = rest

all_shown : (log : List BookEntry) (test : Open → Bool) (opened : List Open) → AllWaitedFor log opened → AllWaitedFor log (map (λ o. if test o then as_shown o else o) opened)
all_shown log test [] all = tt
all_shown log test (o ∷ opened) all = (by_test (test o), all_shown log test opened all.1) where
  same : (t : Option ℕ) → IsWaitedFor log o t → IsWaitedFor log (as_shown o) t
  same None w = tt
  same (Some ticket) w = w

  by_test : (b : Bool) → IsWaitedFor log (if b then as_shown o else o) (if b then as_shown o else o).ticket
  by_test true = same o.ticket all.0
  by_test false = all.0

all_more : (log : List BookEntry) (opened : List Open) (o : Open) → AllWaitedFor log opened → o.ticket ≡ None → AllWaitedFor log (opened ++ o ∷ [])
all_more log [] o all none = (subst (IsWaitedFor log o) (sym none) tt, tt)
all_more log (x ∷ opened) o all none = (all.0, all_more log opened o all.1 none)

-- a change by which no work goes out and none comes back
abbrev is_quiet : OperationChange → Bool
is_quiet (Enters op ticket) = false
is_quiet (Returns op aad text) = false
is_quiet _ = true

after_quiet : (log : List BookEntry) (step : ℕ) (change : OperationChange) (opened : List Open) → is_quiet change ≡ true → AllWaitedFor log opened → AllWaitedFor log (open_after step change opened)
after_quiet log step SameOperations opened q all = all
after_quiet log step (Opens None o) opened q all = all_more log opened _ all refl
after_quiet log step (Opens (Some number) o) opened q all = all_more log (without number opened) _ (all_left log _ opened all) refl
after_quiet log step (Enters op ticket) opened q all = cc
after_quiet log step (Returns op aad text) opened q all = cc
after_quiet log step (Shows token) opened q all = all_shown log (is_for token) opened all
after_quiet log step (Closes op) opened q all = all_left log _ opened all
after_quiet log step (ClosesOf client) opened q all = all_left log _ opened all
after_quiet log step ClosesAll opened q all = tt

closes_quiet : (op : Option ℕ) → is_quiet (closes op) ≡ true
closes_quiet None = refl
closes_quiet (Some n) = refl

if_quiet : (b : Bool) (x y : OperationChange) → is_quiet x ≡ true → is_quiet y ≡ true → is_quiet (if b then x else y) ≡ true
if_quiet true x y p q = p
if_quiet false x y p q = q

-- ---- what an act makes of the operations

admitted_quiet : (act : Act) (setup : Setup) (past : History) (event : Event) (drawn : List ℕ) (fields : Fields) → is_leave act ≡ false → is_enter act ≡ false → is_quiet (admitted_operation act setup (kept setup past) past event drawn fields) ≡ true
admitted_quiet (CreateOperation key params forced) setup past event drawn fields l e = by_op fields.op where
  by_op : (op : Option ℕ) → is_quiet (opens (begin_key_in (device_at setup past) setup.policy (kept setup past) (caller_of past event) key params) (begin_facts_in (device_at setup past) setup.policy (kept setup past) (caller_of past event) key params) (caller_of past event) (record fields { op = op }) drawn) ≡ true
  by_op None = refl
  by_op (Some n) = refl
admitted_quiet (EnterAad op input) setup past event drawn fields l e = cc
admitted_quiet (EnterUpdate op input) setup past event drawn fields l e = cc
admitted_quiet (EnterFinish op input signature) setup past event drawn fields l e = cc
admitted_quiet (Leave ticket) setup past event drawn fields l e = cc
admitted_quiet (Abort op) setup past event drawn fields l e = refl
admitted_quiet (AddAuthToken challenge user authenticator kind time mac) setup past event drawn fields l e = refl
admitted_quiet Disconnect setup past event drawn fields l e = refl
admitted_quiet (Restart root) setup past event drawn fields l e = refl
admitted_quiet _ setup past event drawn fields l e = refl

stopped_quiet : (faulted : Bool) (act : Act) (past : History) → is_leave act ≡ false → is_quiet (stopped_operation faulted act past) ≡ true
stopped_quiet faulted (Leave ticket) past l = cc
stopped_quiet faulted (EnterFinish op input signature) past l = if_quiet faulted (Closes op) SameOperations refl refl
stopped_quiet faulted _ past l = refl

change_quiet : (setup : Setup) (past : History) (event : Event) (drawn : List ℕ) (reply : Reply) → is_leave event.act ≡ false → admits is_enter (Acted event drawn reply) ≡ false → is_quiet (operation_change_in setup (kept setup past) past event drawn reply) ≡ true
change_quiet setup past event drawn (Done fields) l e = admitted_quiet event.act setup past event drawn fields l e
change_quiet setup past event drawn (Broken rule code) l e = if_quiet (ends_operation rule) (closes (operation_of event.act)) SameOperations (closes_quiet (operation_of event.act)) refl
change_quiet setup past event drawn (Stopped code) l e = stopped_quiet (is_faulted (is_unsettled past) event.act (Stopped code)) event.act past l

-- ---- what was waited for still is

and_off : (b : Bool) → b && false ≡ false
and_off true = refl
and_off false = refl

module _ (setup : Setup) (pass : ℕ) (s : OneStep) (log : List BookEntry) (facts : Facts setup log) (follows : MayFollow setup (history_of log) s.event s.drawn s.reply) where
  -- a ticket that was given is not given again, and no client is
  no_gift : (ticket p : ℕ) → pass_of_ticket ticket log ≡ Some p → gives_ticket ticket (Acted s.event s.drawn s.reply) ≡ false
  no_gift ticket p known = by_reply s.reply follows where
    by_reply : (reply : Reply) → MayFollow setup (history_of log) s.event s.drawn reply → is_enter s.event.act && gives (ticket_in reply) ticket ≡ false
    by_reply (Done fields) may = ⊎_elim
        (λ (e : is_enter s.event.act ≡ true).
        let next = entered_ticket setup (history_of log) s.event s.drawn fields e may in
        let few = facts.tickets.few p ticket known in
        ap (λ (b : Bool). b && gives fields.ticket ticket) e ∙ (ap (λ (o : Option ℕ). gives o ticket) next ∙ ne_eqb (next_ticket (history_of log)) ticket (λ q. omega arith)))
        (λ (e : is_enter s.event.act ≡ false). ap (λ (b : Bool). b && gives fields.ticket ticket) e)
        (cases_Bool (is_enter s.event.act))
    by_reply (Broken rule code) may = and_off (is_enter s.event.act)
    by_reply (Stopped code) may = and_off (is_enter s.event.act)

  no_client : (client p : ℕ) → pass_of_client client log ≡ Some p → is_given (client_given (Acted s.event s.drawn s.reply)) client ≡ false
  no_client client p known = by_reply s.reply follows where
    none_given : (b : Bool) → is_given (if b then None else None) client ≡ false
    none_given true = refl
    none_given false = refl

    by_reply : (reply : Reply) → MayFollow setup (history_of log) s.event s.drawn reply → is_given (if is_connect s.event.act then client_in reply else None) client ≡ false
    by_reply (Done fields) may = ⊎_elim
        (λ (e : is_connect s.event.act ≡ true).
        let next = connected_client setup (history_of log) s.event s.drawn fields e may in
        let few = facts.clients.few p client known in
        ap (λ (o : Option ℕ). is_given o client) (then_is (is_connect s.event.act) fields.client None e ∙ next) ∙ ne_eqb (count_of is_connect (history_of log) + 1) client (λ q. omega arith))
        (λ (e : is_connect s.event.act ≡ false). ap (λ (o : Option ℕ). is_given o client) (else_is (is_connect s.event.act) fields.client None e))
        (cases_Bool (is_connect s.event.act))
    by_reply (Broken rule code) may = none_given (is_connect s.event.act)
    by_reply (Stopped code) may = none_given (is_connect s.event.act)

  known_of : (ticket : ℕ) → is_some (ticket_at (history_of log) ticket) ≡ true → (p : ℕ) × (pass_of_ticket ticket log ≡ Some p)
  known_of ticket out = found (pass_of_ticket ticket log) (facts.tickets.known ticket out) where
    found : (o : Option ℕ) → is_some o ≡ true → (p : ℕ) × (o ≡ Some p)
    found None e = cc
    found (Some p) e = (p, refl)

  one_kept : (o : Open) (ticket : ℕ) → IsWaitedFor log o (Some ticket) → ticket_at (history_of (acted_of pass s ∷ log)) ticket ≡ ticket_at (history_of log) ticket → IsWaitedFor (acted_of pass s ∷ log) o (Some ticket)
  one_kept o ticket w same =
      let known = known_of ticket w.1 in
      let owner : pass_of_ticket ticket (acted_of pass s ∷ log) ≡ pass_of_ticket ticket log = else_is (gives_ticket ticket (Acted s.event s.drawn s.reply)) (Some pass) (pass_of_ticket ticket log) (no_gift ticket known.0 known.1) in (
        λ entered q. w.0 entered (sym same ∙ q),
        ap is_some same ∙ w.1,
        λ p q. ⊎_elim (λ (z : o.operation.client ≡ 0). inl z)
            (λ (c : pass_of_client o.operation.client log ≡ Some p).
            inr (else_is (is_given (client_given (Acted s.event s.drawn s.reply)) o.operation.client) (Some pass) (pass_of_client o.operation.client log) (no_client o.operation.client p c) ∙ c))
            (w.2 p (sym owner ∙ q)),
      )

  all_kept : ((t : ℕ) → ticket_at (history_of (acted_of pass s ∷ log)) t ≡ ticket_at (history_of log) t) → (opened : List Open) → AllWaitedFor log opened → AllWaitedFor (acted_of pass s ∷ log) opened
  all_kept same [] all = tt
  all_kept same (o ∷ opened) all = (by_ticket o.ticket all.0, all_kept same opened all.1) where
    by_ticket : (t : Option ℕ) → IsWaitedFor log o t → IsWaitedFor (acted_of pass s ∷ log) o t
    by_ticket None w = tt
    by_ticket (Some ticket) w = one_kept o ticket w (same ticket)

  -- ---- a leave

  -- those of other tickets are kept, and those of this one have no work out any more
  back_one : (ticket : ℕ) (entered : Entered) (o : Open) (t : Option ℕ) → ticket_at (history_of log) ticket ≡ Some entered → ((t : ℕ) → ticket_at (history_of (acted_of pass s ∷ log)) t ≡ ticket_after (ComesBack ticket) t (ticket_at (history_of log) t))
      → IsWaitedFor log o t → has_number entered.op o ≡ false → IsWaitedFor (acted_of pass s ∷ log) o t
  back_one ticket entered o None is after w other = tt
  back_one ticket entered o (Some t) is after w other = ⊎_elim
      (λ (e : (ticket == t) ≡ true).
      let same : entered.op ≡ o.operation.number = w.0 entered (ap (λ (n : ℕ). ticket_at (history_of log) n) (sym (eqb-true ticket t e)) ∙ is) in
      absurd (eqb-false o.operation.number entered.op other (sym same)))
      (λ (e : (ticket == t) ≡ false). one_kept o t w (after t ∙ else_is (ticket == t) None (ticket_at (history_of log) t) e))
      (cases_Bool (ticket == t))

  all_back : (ticket step : ℕ) (entered : Entered) (aad text : List ℕ) → ticket_at (history_of log) ticket ≡ Some entered → ((t : ℕ) → ticket_at (history_of (acted_of pass s ∷ log)) t ≡ ticket_after (ComesBack ticket) t (ticket_at (history_of log) t))
      → (opened : List Open) → AllWaitedFor log opened → AllWaitedFor (acted_of pass s ∷ log) (with_change entered.op (as_returned step aad text) opened)
  all_back ticket step entered aad text is after [] all = tt
  all_back ticket step entered aad text is after (o ∷ opened) all = (
    ⊎_elim
        (λ (e : has_number entered.op o ≡ true). subst (λ (x : Open). IsWaitedFor (acted_of pass s ∷ log) x x.ticket) (sym (then_is (has_number entered.op o) (as_returned step aad text o) o e)) tt)
        (λ (e : has_number entered.op o ≡ false). subst (λ (x : Open). IsWaitedFor (acted_of pass s ∷ log) x x.ticket) (sym (else_is (has_number entered.op o) (as_returned step aad text o) o e)) (back_one ticket entered o o.ticket is after all.0 e))
        (cases_Bool (has_number entered.op o)),
    all_back ticket step entered aad text is after opened all.1,
  )

  all_closed : (ticket : ℕ) (entered : Entered) → ticket_at (history_of log) ticket ≡ Some entered → ((t : ℕ) → ticket_at (history_of (acted_of pass s ∷ log)) t ≡ ticket_after (ComesBack ticket) t (ticket_at (history_of log) t))
      → (opened : List Open) → AllWaitedFor log opened → AllWaitedFor (acted_of pass s ∷ log) (without entered.op opened)
  all_closed ticket entered is after [] all = tt
  all_closed ticket entered is after (o ∷ opened) all = ⊎_elim
      (λ (e : has_number entered.op o ≡ true). subst (AllWaitedFor (acted_of pass s ∷ log)) (sym (else_is (not (has_number entered.op o)) (o ∷ without entered.op opened) (without entered.op opened) (ap not e))) (all_closed ticket entered is after opened all.1))
      (λ (e : has_number entered.op o ≡ false). subst (AllWaitedFor (acted_of pass s ∷ log)) (sym (then_is (not (has_number entered.op o)) (o ∷ without entered.op opened) (without entered.op opened) (ap not e))) (back_one ticket entered o o.ticket is after all.0 e, all_closed ticket entered is after opened all.1))
      (cases_Bool (has_number entered.op o))

  returned_all : (ticket step : ℕ) (entered : Option Entered) → ticket_at (history_of log) ticket ≡ entered → is_some entered ≡ true → ((t : ℕ) → ticket_at (history_of (acted_of pass s ∷ log)) t ≡ ticket_after (ComesBack ticket) t (ticket_at (history_of log) t))
      → (opened : List Open) → AllWaitedFor log opened → AllWaitedFor (acted_of pass s ∷ log) (open_after step (returns entered) opened)
  returned_all ticket step None is some after opened all = cc
  returned_all ticket step (Some entered) is some after opened all = by_work entered.work refl where
    by_work : (work : Work) → entered.work ≡ work → AllWaitedFor (acted_of pass s ∷ log) (open_after step (returns (Some (record entered { work = work }))) opened)
    by_work (Aad input) e = all_back ticket step entered input [] is after opened all
    by_work (Text input) e = all_back ticket step entered [] input is after opened all
    by_work (Last input signature) e = all_closed ticket entered is after opened all

-- ---- an enter: the caller has the operation

rows_own : (own idle short ended : Bool) (first second third fourth : Rule × Code) (rest : Ruling) → is_ok (if own then (if idle then (if short then (if not ended then rest else Err fourth) else Err third) else Err second) else Err first) ≡ true → own ≡ true
rows_own false idle short ended first second third fourth rest e = cc
rows_own true idle short ended first second third fourth rest e = refl

step_own : (facts : StepFacts) → enters_kind facts.kind ≡ true → is_ok (answer_of_step facts) ≡ true → facts.own ≡ true
unfolding answer_of_step
step_own facts enters e = rows_own facts.own (not facts.busy) _ facts.ended _ _ _ _ _ (subst (λ b. is_ok (first_broken S (call_rules facts ++ (if b then enter_rules facts else []))) ≡ true) enters e)

own_found : (setup : Setup) (past : History) (found : Option Open) (caller : Caller) (brought : Brought) → enters_kind brought.kind ≡ true → is_ok (answer_of_step (facts_of found (is_live setup past) caller brought)) ≡ true → (o : Open) × (found ≡ Some o) × (o.operation.client ≡ caller.client)
own_found setup past None caller brought enters e = let holds : false ≡ true = step_own (facts_of None (is_live setup past) caller brought) enters e in cc
own_found setup past (Some o) caller brought enters e = (o, refl, eqb-true o.operation.client caller.client (step_own (facts_of (Some o) (is_live setup past) caller brought) enters e))

-- of operations with numbers of their own, the one of a number is the one that is found
each_own : (op client : ℕ) (opened : List Open) (o : Open) → Apart opened → find (has_number op) opened ≡ Some o → o.operation.client ≡ client → Each (λ x. has_number op x ≡ true → x.operation.client ≡ client) opened
each_own op client [] o apart is mine = tt
each_own op client (x ∷ opened) o apart is mine = ⊎_elim
    (λ (e : has_number op x ≡ true).
    let found : Some x ≡ Some o = sym (then_is (has_number op x) (Some x) (find (has_number op) opened) e) ∙ is in
    let same : x ≡ o = cc in (
      (λ h. ap (λ (y : Open). y.operation.client) same ∙ mine),
      each_in (Differs x.operation.number) (λ y. has_number op y ≡ true → y.operation.client ≡ client)
          (λ y differs h. absurd (differs (eqb-true y.operation.number op h ∙ sym (eqb-true x.operation.number op e)))) opened apart.0,
    ))
    (λ (e : has_number op x ≡ false). ((λ h. absurd (apart_of (sym e ∙ h))), each_own op client opened o apart.1 (sym (else_is (has_number op x) (Some x) (find (has_number op) opened) e) ∙ is) mine))
    (cases_Bool (has_number op x))
  where
    apart_of : false ≡ true → ⊥
    apart_of e = cc

module _ (setup : Setup) (pass : ℕ) (s : OneStep) (log : List BookEntry) (facts : Facts setup log) (follows : MayFollow setup (history_of log) s.event s.drawn s.reply) (own : s.event.client ≡ unwrap_or (client_of pass log) 0)
    (op ticket : ℕ) (entered : Entered) (next : ticket ≡ next_ticket (history_of log)) (op_is : entered.op ≡ op)
    (after : (t : ℕ) → ticket_at (history_of (acted_of pass s ∷ log)) t ≡ ticket_after (GoesOut ticket entered) t (ticket_at (history_of log) t)) (owner : pass_of_ticket ticket (acted_of pass s ∷ log) ≡ Some pass) where
  entered_at : ticket_at (history_of (acted_of pass s ∷ log)) ticket ≡ Some entered
  entered_at = after ticket ∙ then_is (ticket == ticket) (Some entered) (ticket_at (history_of log) ticket) (eq-eqb ticket ticket refl)

  entered_one : (step : ℕ) (o : Open) → has_number op o ≡ true → o.operation.client ≡ s.event.client → IsWaitedFor (acted_of pass s ∷ log) (as_entered step ticket o) (Some ticket)
  entered_one step o number mine = (
    λ found q. let both : Some found ≡ Some entered = sym q ∙ entered_at in let same : found ≡ entered = cc in ap (λ (x : Entered). x.op) same ∙ (op_is ∙ sym (eqb-true o.operation.number op number)),
    ap is_some entered_at,
    λ p q. by_client p q (client_of pass log) refl,
  )
    where
      by_client : (p : ℕ) → pass_of_ticket ticket (acted_of pass s ∷ log) ≡ Some p → (c : Option ℕ) → client_of pass log ≡ c → (o.operation.client ≡ 0) ⊎ (pass_of_client o.operation.client (acted_of pass s ∷ log) ≡ Some p)
      by_client p q None e = inl (mine ∙ (own ∙ ap (λ (x : Option ℕ). unwrap_or x 0) e))
      by_client p q (Some client) e =
          let whose = facts.clients.own_is pass client e in
          let client_is : o.operation.client ≡ client = mine ∙ (own ∙ ap (λ (x : Option ℕ). unwrap_or x 0) e) in
          inr (ap (λ (c : ℕ). pass_of_client c (acted_of pass s ∷ log)) client_is
          ∙ (else_is (is_given (client_given (Acted s.event s.drawn s.reply)) client) (Some pass) (pass_of_client client log) (no_client setup pass s log facts follows client pass whose) ∙ (whose ∙ (sym owner ∙ q))))

  kept_other : (o : Open) (t : Option ℕ) → IsWaitedFor log o t → IsWaitedFor (acted_of pass s ∷ log) o t
  kept_other o None w = tt
  kept_other o (Some t) w =
      let known = known_of setup pass s log facts follows t w.1 in
      let few = facts.tickets.few known.0 t known.1 in
      one_kept setup pass s log facts follows o t w (after t ∙ else_is (ticket == t) (Some entered) (ticket_at (history_of log) t) (ne_eqb ticket t (λ q. omega arith)))

  pub entered_all : (step : ℕ) (opened : List Open) → Each (λ x. has_number op x ≡ true → x.operation.client ≡ s.event.client) opened → AllWaitedFor log opened → AllWaitedFor (acted_of pass s ∷ log) (with_change op (as_entered step ticket) opened)
  entered_all step [] each all = tt
  entered_all step (o ∷ opened) each all = (
    ⊎_elim
        (λ (e : has_number op o ≡ true). subst (λ (x : Open). IsWaitedFor (acted_of pass s ∷ log) x x.ticket) (sym (then_is (has_number op o) (as_entered step ticket o) o e)) (entered_one step o e (each.0 e)))
        (λ (e : has_number op o ≡ false). subst (λ (x : Open). IsWaitedFor (acted_of pass s ∷ log) x x.ticket) (sym (else_is (has_number op o) (as_entered step ticket o) o e)) (kept_other o o.ticket all.0))
        (cases_Bool (has_number op o)),
    entered_all step opened each.1 all.1,
  )

-- the operation that an admitted enter names, and its work
enter_is : (act : Act) → is_enter act ≡ true → (op : ℕ) × (work : Work) × ((fields : Fields) → admitted_ticket act fields ≡ Rattle.rule_model.specs.Tickets.goes_out fields.ticket op work)
    × ((setup : Setup) (past : History) (event : Event) (drawn : List ℕ) (fields : Fields) → admitted_operation act setup (kept setup past) past event drawn fields ≡ enters op fields.ticket)
    × ((setup : Setup) (past : History) (caller : Caller) (drawn : List ℕ) → is_done (answer_by_rules act setup past caller drawn) ≡ true → is_ok (answer_of_step (step_facts setup past caller op (brought_by work))) ≡ true) × (enters_kind (brought_by work).kind ≡ true)
    × ((client pass : ℕ) (log : List BookEntry) → IsOwnAct act client pass log → client ≡ unwrap_or (client_of pass log) 0)
enter_is (EnterAad op input) e = (op, Aad input, λ fields. refl, λ setup past event drawn fields. refl, λ setup past caller drawn h. broken_done _ _ h, refl, λ client pass log own. own)
enter_is (EnterUpdate op input) e = (op, Text input, λ fields. refl, λ setup past event drawn fields. refl, λ setup past caller drawn h. broken_done _ _ h, refl, λ client pass log own. own)
enter_is (EnterFinish op input signature) e = (op, Last input signature, λ fields. refl, λ setup past event drawn fields. refl, λ setup past caller drawn h. broken_done _ _ h, refl, λ client pass log own. own)
enter_is _ e = cc

-- a leave's reply changes the operations by its work, whatever the output
left_operation : (setup : Setup) (past : History) (event : Event) (drawn : List ℕ) (ticket : ℕ) (entered : Option Entered) → event.act ≡ Leave ticket → operation_change_in setup (kept setup past) past event drawn (leaving setup past entered) ≡ returns (ticket_at past ticket)
left_operation setup past event drawn ticket None e = ap (λ (a : Act). stopped_operation (is_faulted (is_unsettled past) event.act (Stopped Rattle.tags.specs.declared.code.Code.TheVariants.NoTicket)) a past) e
left_operation setup past event drawn ticket (Some entered) e = by_result _ where
  by_result : (r : Result (List ℕ) Code) → operation_change_in setup (kept setup past) past event drawn (given_or entered.work r) ≡ returns (ticket_at past ticket)
  by_result (Ok bytes) = ap (λ (a : Act). admitted_operation a setup (kept setup past) past event drawn (record Rattle.rule_model.specs.Replies.no_fields { out = Rattle.rule_model.specs.Answer.out_of entered.work bytes })) e
  by_result (Err code) = ap (λ (a : Act). stopped_operation (is_faulted (is_unsettled past) event.act (Stopped code)) a past) e

done_of : (reply : Reply) → is_done reply ≡ true → (fields : Fields) × (reply ≡ Done fields)
done_of (Done fields) e = (fields, refl)
done_of (Broken rule code) e = cc
done_of (Stopped code) e = cc

and_both : (a b : Bool) → a && b ≡ true → (a ≡ true) × (b ≡ true)
and_both true b e = (refl, e)
and_both false b e = cc

pub waited_after : (setup : Setup) (before : Option Event) (pass : ℕ) (s : OneStep) (log : List BookEntry) → Facts setup log → LegalBefore setup before (history_of log) → MayFollow setup (history_of log) s.event s.drawn s.reply → IsOwnAct s.event.act s.event.client pass log → ComesInTurn s.event.act pass log
    → AllWaitedFor (acted_of pass s ∷ log) (open_of setup (history_of (acted_of pass s ∷ log)))
waited_after setup before pass s log facts legal follows own turn = ⊎_elim leaves (λ l. ⊎_elim (enter l) (quiet l) (cases_Bool (admits is_enter (Acted s.event s.drawn s.reply)))) (cases_Bool (is_leave s.event.act))
  where
    leaves : is_leave s.event.act ≡ true → AllWaitedFor (acted_of pass s ∷ log) (open_of setup (history_of (acted_of pass s ∷ log)))
    leaves l =
        let is = leave_is s.event.act l in
        let out = leave_in_turn s.event.act pass is.0 log is.1 turn in
        let change : operation_change_in setup (kept setup (history_of log)) (history_of log) s.event s.drawn s.reply ≡ returns (ticket_at (history_of log) is.0) =
        ap (operation_change_in setup (kept setup (history_of log)) (history_of log) s.event s.drawn) (leaving_answer setup (history_of log) s.event s.drawn s.reply is.0 is.1 follows) ∙ left_operation setup (history_of log) s.event s.drawn is.0 (ticket_at (history_of log) is.0) is.1 in
        subst (λ (c : OperationChange). AllWaitedFor (acted_of pass s ∷ log) (open_after (step_of (history_of log)) c (open_of setup (history_of log)))) (sym change)
        (returned_all setup pass s log facts follows is.0 (step_of (history_of log)) (ticket_at (history_of log) is.0) refl (facts.tickets.out_is pass is.0 out)
        (λ t. ap (λ (c : TicketChange). ticket_after c t (ticket_at (history_of log) t)) (left_change setup (history_of log) s.event s.drawn s.reply is.0 is.1 follows)) (open_of setup (history_of log)) facts.busy)

    quiet : is_leave s.event.act ≡ false → admits is_enter (Acted s.event s.drawn s.reply) ≡ false → AllWaitedFor (acted_of pass s ∷ log) (open_of setup (history_of (acted_of pass s ∷ log)))
    quiet l e = after_quiet (acted_of pass s ∷ log) (step_of (history_of log)) (operation_change_in setup (kept setup (history_of log)) (history_of log) s.event s.drawn s.reply) (open_of setup (history_of log)) (change_quiet setup (history_of log) s.event s.drawn s.reply l e)
        (all_kept setup pass s log facts follows (λ t. ap (λ (c : TicketChange). ticket_after c t (ticket_at (history_of log) t)) (quiet_change s.event s.drawn s.reply l (in_turn_goes_on s.event.act pass log turn) e)) (open_of setup (history_of log)) facts.busy)

    enter : is_leave s.event.act ≡ false → admits is_enter (Acted s.event s.drawn s.reply) ≡ true → AllWaitedFor (acted_of pass s ∷ log) (open_of setup (history_of (acted_of pass s ∷ log)))
    enter l e =
        let both = and_both (is_done s.reply) (is_enter s.event.act) e in
        let fields = done_of s.reply both.0 in
        let it = enter_is s.event.act both.1 in
        let may : MayFollow setup (history_of log) s.event s.drawn (Done fields.0) = subst (MayFollow setup (history_of log) s.event s.drawn) fields.1 follows in
        let given = entered_ticket setup (history_of log) s.event s.drawn fields.0 both.1 may in
        let next : ℕ = next_ticket (history_of log) in
        let entered : Entered = record { op = it.0; work = it.1 } in
        let ticket : ticket_change s.event s.reply ≡ GoesOut next entered = ap (ticket_change s.event) fields.1 ∙ (it.2 fields.0 ∙ ap (λ (o : Option ℕ). Rattle.rule_model.specs.Tickets.goes_out o it.0 it.1) given) in
        let change : operation_change_in setup (kept setup (history_of log)) (history_of log) s.event s.drawn s.reply ≡ Enters it.0 next =
        ap (operation_change_in setup (kept setup (history_of log)) (history_of log) s.event s.drawn) fields.1 ∙ (it.3 setup (history_of log) s.event s.drawn fields.0 ∙ ap (enters it.0) given) in
        let ok = it.4 setup (history_of log) (caller_of (history_of log) s.event) s.drawn (ap is_done (sym (by_rules setup (history_of log) s.event s.drawn fields.0 may))) in
        let found = own_found setup (history_of log) (operation_at setup (history_of log) it.0) (caller_of (history_of log) s.event) (brought_by it.1) it.5 ok in
        let apart = (paired_of setup before (history_of log) 0 legal).apart in
        let owner : pass_of_ticket next (acted_of pass s ∷ log) ≡ Some pass = then_is (gives_ticket next (Acted s.event s.drawn s.reply)) (Some pass) (pass_of_ticket next log)
        (ap (λ (r : Reply). is_enter s.event.act && gives (ticket_in r) next) fields.1 ∙ (ap (λ (b : Bool). b && gives fields.0.ticket next) both.1 ∙ (ap (λ (o : Option ℕ). gives o next) given ∙ eq-eqb next next refl))) in
        subst (λ (c : OperationChange). AllWaitedFor (acted_of pass s ∷ log) (open_after (step_of (history_of log)) c (open_of setup (history_of log)))) (sym change)
        (entered_all setup pass s log facts follows (it.6 s.event.client pass log own) it.0 next entered refl refl
        (λ t. ap (λ (c : TicketChange). ticket_after c t (ticket_at (history_of log) t)) ticket) owner (step_of (history_of log)) (open_of setup (history_of log))
        (each_own it.0 s.event.client (open_of setup (history_of log)) found.0 apart found.1 found.2) facts.busy)
