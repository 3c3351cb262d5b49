-- A work that comes back, and a client that goes: their answers, and the tables after them.
use Rattle.std.proofs.Common.{◌≡◌, ℕ, ◌+◌, ◌-◌, ◌^◌, ◌<◌, ◌≤◌, Bool, true, false, ◌&&◌, not, ◌==◌, min, if◌then◌else◌, List, [], ◌∷◌, ◌++◌, length, find, map, Option, Some, None, Result, Ok, Err, is_some, refl, sym, ap, ◌∙◌, subst, arith, inl, inr, length-append, append-nil}
use Rattle.std.proofs.lemmas.Bool.{cases_Bool, eqb-true, eq-eqb}
use Rattle.tags.specs.declared.code.Code.{Code}
use Rattle.tags.specs.declared.code.Code.TheVariants.{NoTicket}
use Rattle.tags.specs.declared.rule.Rule.{Rule}
use Rattle.tags.specs.declared.rule.RuleTable.TheVariants.{A}
use Rattle.tags.specs.declared.limits.TheConstants.{OPERATION_BYTES}
use Rattle.tags.specs.Table.{first_broken}
use Rattle.cipher_ops.specs.declared.job.Done.{Done as JobDone}
use Rattle.cipher_ops.specs.declared.room.Work.{Work}
use Rattle.cipher_ops.specs.declared.room.Work.TheVariants.{Aad, Text, Last}
use Rattle.cipher_ops.specs.declared.state.CipherState.{CipherState}
use Rattle.operation_slots.specs.declared.operation.SlotOperation.{SlotOperation as Slot}
use Rattle.operation_slots.specs.Table as table
use Rattle.slot_chain.specs.Linked.{AllDiffer}
use Rattle.operation_slots.specs.Table.{IsLater, given_back, held, numbers_of, operations_of}
use Rattle.rule_model.specs.Kept.{has_busy, open_of, operation_at, operation_change}
use Rattle.rule_model.specs.declared.entry.Entry.TheVariants.{Acted}
use Rattle.rule_model.specs.declared.event.Act.TheVariants.{Disconnect, Leave}
use Rattle.rule_model.specs.declared.event.Event.{Event}
use Rattle.rule_model.specs.declared.facts.Caller.{Caller}
use Rattle.rule_model.specs.declared.reply.Reply.{Reply}
use Rattle.rule_model.specs.declared.reply.Reply.TheVariants.{Done, Broken, Stopped}
use Rattle.rule_model.specs.Acts.{is_begin, is_connect, is_enter}
use Rattle.rule_model.specs.Answer.{answer_by_rules, given_or, leaving}
use Rattle.rule_model.specs.Replies.{broken_or, no_fields}
use Rattle.call_rules.specs.Table.{disconnect_rules}
use Rattle.rule_model.specs.Calls.{disconnect_ruling}
use Rattle.rule_model.specs.declared.entry_change.ClientChange.TheVariants.{SameClients as NoClients}
use Rattle.rule_model.specs.Clients.{caller_of, client_change}
use Rattle.std.specs.Prelude.{IfErr}
use Rattle.cipher_ops.specs.Jobs.{is_refusal}
use Rattle.rule_model.specs.Drawn.{is_entropy_fault}
use Rattle.rule_model.specs.Entries.{History, admits}
use Rattle.rule_model.specs.declared.entry_change.BootChange.TheVariants.{SameBoot as NoBoot}
use Rattle.rule_model.specs.Boot.{boot_change}
use Rattle.rule_model.specs.Jobs.{HasJob, IsDoneOn, IsDoneOut, Stays}
use Rattle.rule_model.specs.Legal.{Answered}
use Rattle.rule_model.specs.declared.entry_change.OperationChange.TheVariants.{Closes, ClosesOf, Returns, SameOperations}
use Rattle.rule_model.specs.declared.operation.Open.{Open}
use Rattle.rule_model.specs.declared.entry_change.OperationChange.{OperationChange}
use Rattle.rule_model.specs.Operations.{as_returned, has_number, is_busy, is_of, open_after, output_of, returns, step_of}
use Rattle.rule_model.specs.Setup.{Setup}
use Rattle.rule_model.specs.StepFacts.{brought_by}
use Rattle.rule_model.specs.declared.entry_change.TicketChange.TheVariants.{ComesBack}
use Rattle.rule_model.specs.declared.operation.Entered.{Entered}
use Rattle.rule_model.specs.Tickets.{ticket_after, ticket_at, ticket_change}
use Rattle.rule_model.specs.Settling.{is_disk_fault, is_system_error}
use Rattle.rule_model.proofs.Kept.{quiet_stored}
use Rattle.live_tables.specs.declared.operations.OperationRow.{OperationRow as Row}
use Rattle.live_tables.specs.declared.operations.RowChange.TheVariants.{Returns as RowReturns}
use Rattle.keystore_core.specs.declared.tables.Tables.{Tables}
use Rattle.live_tables.specs.declared.tickets.Out.{Out}
use Rattle.live_tables.specs.Alike.{Alike, BothFound}
use Rattle.keystore_core.specs.Leaving.{EndsClient}
use Rattle.live_tables.specs.Operations.{IsRow, changed, grown, has_busy_row, has_row, is_row_of, rows_in}
use Rattle.keystore_core.specs.Slots.{IsKept, IsSlot, IsStateOf}
use Rattle.keystore_core.specs.Stepping.{TakesBack, added_by, reply_of}
use Rattle.keystore_core.specs.Tables.{AnswersAfter, IsCaller, TablesStand, event_by}
use Rattle.live_tables.specs.Tickets.{BusyWith, IsBusyWith, IsOut, SameOut, out_in}
use Rattle.keystore_core.proofs.Booted.{boot_stays, same_boot}
use Rattle.live_tables.proofs.Alike.{alike_any, alike_at, alike_filter, alike_found, alike_images}
use Rattle.keystore_core.proofs.KeyTable.{keys_stay}
use Rattle.keystore_core.proofs.Opened.{found_apart, stays_by, stays_same, without_client, without_keeps}
use Rattle.keystore_core.proofs.Standing.{busy_after, called, clients_stay, count_grows, denied_tables, quiet, rows_after, same_tables, slots_after, tickets_stay, uncounted}
use Rattle.keystore_core.proofs.Stepped.{row_named, slot_found, slot_named}
use Rattle.keystore_core.proofs.Entered.{none_changed}

-- the number of an open operation
abbrev number_in : Open → ℕ
number_in o = o.operation.number

-- no number stands twice
pub numbers_differ : (setup : Setup) (past : History) (tables : Tables) → TablesStand setup tables past → AllDiffer (numbers_of (operations_of tables.slots)) → AllDiffer (map number_in (open_of setup past))
numbers_differ setup past tables stands differ =
    subst AllDiffer (alike_images IsSlot (λ slot. slot.number) number_in (λ slot o r. r.number) (operations_of tables.slots) (open_of setup past) stands.slots.slots_are) differ

-- a length within the limit grows as it is
grows : (before more n : ℕ) → before + more ≤ OPERATION_BYTES → before + more ≡ n → grown before more ≡ n
grows before more n within is = is_small (before + more) n within is where
  is_small : (sum n : ℕ) → sum ≤ OPERATION_BYTES → sum ≡ n → min sum (2 ^ 64 - 1) ≡ n
  is_small sum n within is = grind (arith, within, is)

-- the row after a work that came back
row_back : (step : ℕ) (aad text : List ℕ) (row : Row) (o : Open) → IsRow row o → length o.aad + length o.text + (length aad + length text) ≤ OPERATION_BYTES
    → IsRow (changed (RowReturns (record { aad = length aad; text = length text })) row) (as_returned step aad text o)
row_back step aad text row o r within = record {
  number = r.number;
  client = r.client;
  key = r.key;
  plan = r.plan;
  limited = r.limited;
  aad_is = grows row.aad (length aad) (length (o.aad ++ aad)) (omega (arith, r.aad_is, within)) (omega (arith, r.aad_is, length-append o.aad aad));
  text_is = grows row.text (length text) (length (o.text ++ text)) (omega (arith, r.text_is, within)) (omega (arith, r.text_is, length-append o.text text));
  busy_is = refl;
  challenge_is = r.challenge_is;
  shown_is = r.shown_is;
  list_is = r.list_is;
}

slot_back : (step : ℕ) (aad text : List ℕ) (state : CipherState) (slot : Slot CipherState) (o : Open) → IsSlot slot o → IsStateOf state (as_returned step aad text o)
    → IsSlot (given_back step state slot) (as_returned step aad text o)
slot_back step aad text state slot o r is = record { number = r.number; uid = r.uid; client = r.client; state = (refl, is) }

-- the reply of the code is that of the work
pub replied : (work : Work) (result : Result (List ℕ) Code) → reply_of (brought_by work).kind result ≡ given_or work result
replied (Aad input) (Ok out) = refl
replied (Aad input) (Err code) = refl
replied (Text input) (Ok out) = refl
replied (Text input) (Err code) = refl
replied (Last input signature) (Ok out) = refl
replied (Last input signature) (Err code) = refl

-- what a leave changes, whether its output is given or refused
leave_change : (setup : Setup) (past : History) (caller : Caller) (ticket : ℕ) (work : Work) (result : Result (List ℕ) Code)
    → operation_change setup past (event_by caller (Leave ticket)) [] (given_or work result) ≡ returns (ticket_at past ticket)
leave_change setup past caller ticket work (Ok bytes) = refl
leave_change setup past caller ticket work (Err code) = refl

leave_ticket : (caller : Caller) (ticket : ℕ) (work : Work) (result : Result (List ℕ) Code) → ticket_change (event_by caller (Leave ticket)) (given_or work result) ≡ ComesBack ticket
leave_ticket caller ticket work (Ok bytes) = refl
leave_ticket caller ticket work (Err code) = refl

leave_client : (caller : Caller) (ticket : ℕ) (work : Work) (result : Result (List ℕ) Code) → client_change (event_by caller (Leave ticket)) (given_or work result) ≡ NoClients
leave_client caller ticket work (Ok bytes) = refl
leave_client caller ticket work (Err code) = refl

leave_boot : (setup : Setup) (past : History) (caller : Caller) (ticket : ℕ) (work : Work) (result : Result (List ℕ) Code) → boot_change setup past (event_by caller (Leave ticket)) (given_or work result) ≡ NoBoot
leave_boot setup past caller ticket work (Ok bytes) = refl
leave_boot setup past caller ticket work (Err code) = refl

leave_job : (setup : Setup) (later : History) (work : Work) (result : Result (List ℕ) Code) → HasJob setup later (given_or work result) None
leave_job setup later work (Ok bytes) = refl
leave_job setup later work (Err code) = refl

-- what a job came back with is what its work puts out
came : (o : Open) (work : Work) (back : JobDone) → IsDoneOn (Some o) work back → back.result ≡ output_of (Some o) work
came o (Aad input) back is = is.comes.0
came o (Text input) back is = is.comes.0
came o (Last input signature) back is = is.comes.0

-- a change of the work before it came back
not_back : (before : Option Entered) (b : Bool) (entered : Entered) → (if b then None else before) ≡ Some entered → (b ≡ false) × (before ≡ Some entered)
not_back before true entered e = cc
not_back before false entered e = (refl, e)

no_system : (code : Code) → Rattle.cipher_ops.specs.Jobs.is_refusal code ≡ true → is_system_error code ≡ false
no_system Rattle.tags.specs.declared.code.Code.TheVariants.SystemError e = cc
no_system _ e = refl

-- no disk is at fault for what a work put out
no_disk_fault : (work : Work) (result : Result (List ℕ) Code) → IfErr result (λ code. is_refusal code ≡ true) → is_disk_fault (given_or work result) ≡ false
no_disk_fault work (Ok out) codes = refl
no_disk_fault work (Err code) codes = no_system code codes

module _ (setup : Setup) (past : History) (old : Tables) (caller : Caller) (ticket : ℕ) (stands : TablesStand setup old past) where
  abbrev Left : Reply → History
  Left reply = Acted (event_by caller (Leave ticket)) [] reply ∷ past

  -- a ticket that is not out
  gone : ticket_at past ticket ≡ None → (t : ℕ) → ticket_after (ComesBack ticket) t (ticket_at past t) ≡ ticket_at past t
  gone none t = elim (cases_Bool (ticket == t)) [
    | inl e ↦ rw e (sym (ap (ticket_at past) (sym (eqb-true ticket t e)) ∙ none))
    | inr e ↦ rw e refl
  ]

  pub not_out : ticket_at past ticket ≡ None → AnswersAfter setup past old (event_by caller (Leave ticket)) (record { reply = Stopped NoTicket; job = None; drawn = [] })
  not_out none =
      let same : operation_change setup past (event_by caller (Leave ticket)) [] (Stopped NoTicket) ≡ SameOperations = ap returns none in
      let stays : Stays setup past (Left (Stopped NoTicket)) = stays_same setup past (event_by caller (Leave ticket)) [] (Stopped NoTicket) same in
      record {
        follows = λ ready. Answered (record { ready = ready; drew = refl; is_answer = sym (ap (leaving setup past) none) });
        stands = record {
          clients = clients_stay setup past (event_by caller (Leave ticket)) [] (Stopped NoTicket) old.clients old.clients stands.clients (same_tables old).clients refl refl;
          keys = keys_stay setup past (Left (Stopped NoTicket)) old old stands.keys (same_tables old).keys (quiet_stored setup past (event_by caller (Leave ticket)) [] (Stopped NoTicket) refl refl);
          operations = Rattle.keystore_core.proofs.Standing.operations_stay setup past (event_by caller (Leave ticket)) [] (Stopped NoTicket) old.operations old.operations stands.operations (same_tables old).operations same refl;
          slots = Rattle.keystore_core.proofs.Standing.slots_stay setup past (event_by caller (Leave ticket)) [] (Stopped NoTicket) old.slots old.slots stands.slots refl same;
          tickets = record {
            outs = λ t. subst (SameOut (out_in old.tickets t)) (sym (gone none t)) (stands.tickets.outs t);
            given = stands.tickets.given;
            busy = λ t entered after. busy_after setup past (event_by caller (Leave ticket)) [] (Stopped NoTicket) stays stands.tickets.busy t entered (sym (gone none t) ∙ after) after;
          };
          boot = boot_stays setup past (event_by caller (Leave ticket)) [] (Stopped NoTicket) old.boot old.boot stands.boot (same_boot old.boot) refl;
        };
        has_job = refl;
        stays = stays;
      }

  module _ (new : Tables) (entered : Entered) (out : Out) (o : Open) (step : ℕ) (back : JobDone) (is_out : ticket_at past ticket ≡ Some entered) (same_out : IsOut out entered)
      (is_open : operation_at setup past entered.op ≡ Some o) (busy : IsBusyWith ticket entered.work o) (done_is : IsDoneOn (Some o) entered.work back) (is_step : step ≡ step_of past)
      (taken : TakesBack ticket out step back.state old new) where
    abbrev Reply_of : Reply
    Reply_of = given_or entered.work back.result

    -- another work that is out has another operation
    other_op : (t : ℕ) (e : Entered) (x : Open) → ticket_at (Left Reply_of) t ≡ Some e → x.ticket ≡ Some t → find (has_number e.op) (open_of setup past) ≡ Some x → (entered.op == e.op) ≡ false
    other_op t e x after named found =
        let apart = not_back (ticket_at past t) (ticket == t) e (sym (ap (λ c. ticket_after c t (ticket_at past t)) (leave_ticket caller ticket entered.work back.result)) ∙ after) in
        elim (cases_Bool (entered.op == e.op)) [
          | inl a ↦ absurd (
              let here : Some o ≡ Some x = sym is_open ∙ ap (λ n. find (has_number n) (open_of setup past)) (eqb-true entered.op e.op a) ∙ found in
              let same : o ≡ x = cc in
              let tickets : Some ticket ≡ Some t = sym busy.busy ∙ ap (λ (y : Open). y.ticket) same ∙ named in
              let equal : ticket ≡ t = cc in
              let yes : (ticket == t) ≡ true = eq-eqb ticket t equal in
              let no : (ticket == t) ≡ false = apart.0 in cc)
          | inr a ↦ a
        ]

    change_is : operation_change setup past (event_by caller (Leave ticket)) [] Reply_of ≡ returns (Some entered)
    change_is = leave_change setup past caller ticket entered.work back.result ∙ ap returns is_out

    -- what the rows and the slots are after the change
    pub record Moved (change : OperationChange) : Type 0 where
      pub change_same : returns (Some entered) ≡ change
      pub rows : Alike IsRow (rows_in new.operations) (open_after (step_of past) change (open_of setup past))
      pub given : Rattle.live_tables.specs.Operations.operations_given new.operations ≡ Rattle.live_tables.specs.Operations.operations_given old.operations
      pub most : Rattle.live_tables.specs.Operations.most_operations new.operations ≡ Rattle.live_tables.specs.Operations.most_operations old.operations
      pub slots : Alike IsSlot (operations_of new.slots) (open_after (step_of past) change (open_of setup past))
      pub capacity : table.capacity_of new.slots ≡ table.capacity_of old.slots
      pub fresh : (number : ℕ) → held old.slots number ≡ None → held new.slots number ≡ None
      pub later : (next : ℕ) → IsLater old.slots next → step_of past < next → IsLater new.slots next
      pub keeps : (n : ℕ) (x : Open) → (entered.op == n) ≡ false → find (has_number n) (open_of setup past) ≡ Some x → find (has_number n) (open_after (step_of past) change (open_of setup past)) ≡ Some x

    op_is : out.op ≡ entered.op
    op_is = same_out.op

    pub back_tables : (change : OperationChange) → Moved change → AnswersAfter setup past new (event_by caller (Leave ticket)) (record { reply = Reply_of; job = None; drawn = [] })
    back_tables change moved =
        let event : Event = event_by caller (Leave ticket) in
        let is : operation_change setup past event [] Reply_of ≡ change = change_is ∙ moved.change_same in
        let ticket_is : ticket_change event Reply_of ≡ ComesBack ticket = leave_ticket caller ticket entered.work back.result in
        let no_connect : admits is_connect (Acted event [] Reply_of) ≡ false = quiet is_connect past event [] Reply_of refl in
        let no_begin : admits is_begin (Acted event [] Reply_of) ≡ false = quiet is_begin past event [] Reply_of refl in
        let no_enter : admits is_enter (Acted event [] Reply_of) ≡ false = quiet is_enter past event [] Reply_of refl in
        let stays : Stays setup past (Left Reply_of) = stays_by setup past event [] Reply_of change is stands.tickets.busy
        (λ t e x after named b found. moved.keeps e.op x (other_op t e x after named found) found) in
        record {
          follows = λ ready. Answered (record { ready = ready; drew = refl; is_answer = ap (given_or entered.work) (came o entered.work back done_is ∙ ap (λ found. output_of found entered.work) (sym is_open)) ∙ sym (ap (leaving setup past) is_out) });
          stands = record {
            clients = clients_stay setup past event [] Reply_of old.clients new.clients stands.clients taken.clients (leave_client caller ticket entered.work back.result) no_connect;
            keys = keys_stay setup past (Left Reply_of) old new stands.keys taken.keys (quiet_stored setup past event [] Reply_of refl (no_disk_fault entered.work back.result done_is.refuses));
            operations = rows_after setup past event [] Reply_of change new.operations is moved.rows (moved.given ∙ stands.operations.given ∙ sym (uncounted is_begin past event [] Reply_of no_begin)) (moved.most ∙ stands.operations.most);
            slots = slots_after setup past event [] Reply_of change old.slots new.slots stands.slots is moved.slots moved.capacity
                (λ number l. moved.fresh number (stands.slots.fresh number (let grows = count_grows is_begin past event [] Reply_of in omega (arith, l, grows))))
                (λ next l. moved.later next (stands.slots.later next (omega (arith, l))) l);
            tickets = record {
              outs = λ t. subst (λ c. SameOut (out_in new.tickets t) (ticket_after c t (ticket_at past t))) (sym ticket_is)
                  (subst (λ x. SameOut x (if ticket == t then None else ticket_at past t)) (sym (taken.tickets.outs t)) (both (ticket == t) t));
              given = taken.tickets.given ∙ stands.tickets.given ∙ sym (uncounted is_enter past event [] Reply_of no_enter);
              busy = λ t e after.
                  let before = (not_back (ticket_at past t) (ticket == t) e (sym (ap (λ c. ticket_after c t (ticket_at past t)) ticket_is) ∙ after)).1 in
                  busy_after setup past event [] Reply_of stays stands.tickets.busy t e before after;
            };
            boot = boot_stays setup past event [] Reply_of old.boot new.boot stands.boot taken.boot (leave_boot setup past caller ticket entered.work back.result);
          };
          has_job = leave_job setup (Left Reply_of) entered.work back.result;
          stays = stays;
        } where
          both : (b : Bool) (t : ℕ) → SameOut (if b then None else out_in old.tickets t) (if b then None else ticket_at past t)
          both true t = tt
          both false t = stands.tickets.outs t

    -- the state of a work that goes on
    goes_on : (aad text : List ℕ) (state : CipherState) → returns (Some entered) ≡ Returns entered.op aad text → added_by out.brought ≡ record { aad = length aad; text = length text }
        → length o.aad + length o.text + (length aad + length text) ≤ OPERATION_BYTES → IsStateOf state (as_returned step aad text o) → back.state ≡ Some state
        → AnswersAfter setup past new (event_by caller (Leave ticket)) (record { reply = Reply_of; job = None; drawn = [] })
    goes_on aad text state same added within is e =
        let parts = subst (λ s. Rattle.keystore_core.specs.Stepping.BackAs s out step old new) e taken.back_as in
        let rows_are = parts.0.rows in
        let slots_are = parts.1.operations in
        let differ = numbers_differ setup past old stands parts.4.numbers in
        back_tables (Returns entered.op aad text) (record {
          change_same = same;
          rows = rw (rows_are, added, op_is, ← is_step)
              (alike_at IsRow (λ row. row.number) number_in (λ row x r. r.number) entered.op (changed (RowReturns (record { aad = length aad; text = length text }))) (as_returned step aad text)
              (rows_in old.operations) (open_of setup past) stands.operations.rows differ
              (λ row x u v. let same_x : Some o ≡ Some x = sym is_open ∙ v in let equal : o ≡ x = cc in
              row_back step aad text row x (found_row row x u v) (subst (λ (y : Open). length y.aad + length y.text + (length aad + length text) ≤ OPERATION_BYTES) equal within)));
          given = parts.0.given;
          most = parts.0.most;
          slots = rw (slots_are, op_is, ← is_step)
              (alike_at IsSlot (λ slot. slot.number) number_in (λ slot x r. r.number) entered.op (given_back step state) (as_returned step aad text)
              (operations_of old.slots) (open_of setup past) stands.slots.slots_are differ
              (λ slot x u v. let same_x : Some o ≡ Some x = sym is_open ∙ v in let equal : o ≡ x = cc in
              slot_back step aad text state slot x (found_slot slot x u v) (subst (λ (y : Open). IsStateOf state (as_returned step aad text y)) equal is)));
          capacity = parts.1.capacity;
          fresh = none_changed out.op (given_back step state) old.slots new.slots parts.2;
          later = λ next l m. parts.3 next l (omega (arith, m, is_step));
          keeps = λ n x apart found. found_apart n entered.op (as_returned (step_of past) aad text) apart (λ y. refl) (open_of setup past) ∙ found;
        }) where
          found_row : (row : Row) (x : Open) → find (λ z. z.number == entered.op) (rows_in old.operations) ≡ Some row → find (λ z. number_in z == entered.op) (open_of setup past) ≡ Some x → IsRow row x
          found_row row x u v = subst (λ f. BothFound IsRow f (Some x)) u (subst (BothFound IsRow (find (λ z. z.number == entered.op) (rows_in old.operations))) v
              (alike_found IsRow (has_row entered.op) (has_number entered.op) (row_named entered.op) (rows_in old.operations) (open_of setup past) stands.operations.rows))

          found_slot : (slot : Slot CipherState) (x : Open) → find (λ z. z.number == entered.op) (operations_of old.slots) ≡ Some slot → find (λ z. number_in z == entered.op) (open_of setup past) ≡ Some x → IsSlot slot x
          found_slot slot x u v = subst (λ f. BothFound IsSlot f (Some x)) u (subst (BothFound IsSlot (find (λ z. z.number == entered.op) (operations_of old.slots))) v
              (slot_found setup past old entered.op stands))

    -- the operation of a last work is closed
    ends : returns (Some entered) ≡ Closes entered.op → back.state ≡ None → AnswersAfter setup past new (event_by caller (Leave ticket)) (record { reply = Reply_of; job = None; drawn = [] })
    ends same e =
        let parts = subst (λ s. Rattle.keystore_core.specs.Stepping.BackAs s out step old new) e taken.back_as in
        back_tables (Closes entered.op) (record {
          change_same = same;
          rows = rw (parts.0.rows, op_is) (alike_filter IsRow (λ row. not (has_row entered.op row)) (λ x. not (has_number entered.op x)) (λ row x r. ap not (row_named entered.op row x r)) (rows_in old.operations) (open_of setup past) stands.operations.rows);
          given = parts.0.given;
          most = parts.0.most;
          slots = rw (parts.1.operations, op_is) (alike_filter IsSlot (λ slot. not (table.has_number entered.op slot)) (λ x. not (has_number entered.op x)) (λ slot x r. ap not (slot_named entered.op slot x r)) (operations_of old.slots) (open_of setup past) stands.slots.slots_are);
          capacity = parts.1.capacity;
          fresh = parts.2;
          later = λ next l m. parts.3 next l;
          keeps = λ n x apart found. without_keeps entered.op (open_of setup past) n x apart found;
        })

-- the state that goes on is there
going_state : (s : Option CipherState) (plan : Rattle.tags.specs.declared.plan.Plan.Plan) (limited : Bool) (key nonce aad text : List ℕ) → Rattle.cipher_ops.specs.Running.GoesOn s plan limited key nonce aad text
    → (state : CipherState) × (s ≡ Some state) × Rattle.cipher_ops.specs.Standing.StandsFor state plan limited key nonce aad text
going_state None plan limited key nonce aad text goes = absurd goes
going_state (Some state) plan limited key nonce aad text goes = (state, refl, goes)

-- a work that comes back
pub came_back : (setup : Setup) (past : History) (old : Tables) (caller : Caller) (ticket : ℕ) (stands : TablesStand setup old past) (new : Tables) (op : ℕ) (work : Work) (out : Out) (o : Open) (step : ℕ) (back : JobDone)
    → ticket_at past ticket ≡ Some (record { op = op; work = work }) → IsOut out (record { op = op; work = work }) → operation_at setup past op ≡ Some o → IsBusyWith ticket work o → IsDoneOn (Some o) work back → step ≡ step_of past
    → TakesBack ticket out step back.state old new → AnswersAfter setup past new (event_by caller (Leave ticket)) (record { reply = given_or work back.result; job = None; drawn = [] })
came_back setup past old caller ticket stands new op (Aad input) out o step back is_out same_out is_open busy done_is is_step taken =
    let state = going_state back.state o.operation.plan o.operation.limited o.operation.material o.operation.nonce (o.aad ++ input) o.text done_is.comes.1 in
    goes_on setup past old caller ticket stands new (record { op = op; work = Aad input }) out o step back is_out same_out is_open busy done_is is_step taken input [] state.0 refl (ap added_by same_out.brought)
    (omega (arith, busy.within)) (rw (append-nil o.text) state.2) state.1
came_back setup past old caller ticket stands new op (Text input) out o step back is_out same_out is_open busy done_is is_step taken =
    let state = going_state back.state o.operation.plan o.operation.limited o.operation.material o.operation.nonce o.aad (o.text ++ input) done_is.comes.1 in
    goes_on setup past old caller ticket stands new (record { op = op; work = Text input }) out o step back is_out same_out is_open busy done_is is_step taken [] input state.0 refl (ap added_by same_out.brought)
    (omega (arith, busy.within)) (rw (append-nil o.aad) state.2) state.1
came_back setup past old caller ticket stands new op (Last input signature) out o step back is_out same_out is_open busy done_is is_step taken =
    ends setup past old caller ticket stands new (record { op = op; work = Last input signature }) out o step back is_out same_out is_open busy done_is is_step taken refl done_is.comes.1

-- what is out has its operation, and what it came back with is there
pub record IsBack (setup : Setup) (past : History) (ticket : ℕ) (out : Out) (back : JobDone) : Type 0 where
  pub op : ℕ
  pub work : Work
  pub o : Open
  pub out_is : ticket_at past ticket ≡ Some (record { op = op; work = work })
  pub same : IsOut out (record { op = op; work = work })
  pub open_is : operation_at setup past op ≡ Some o
  pub busy : IsBusyWith ticket work o
  pub done_is : IsDoneOn (Some o) work back

pub is_back : (setup : Setup) (past : History) (ticket : ℕ) (found : Option Out) (entered : Option Entered) (out : Out) (back : Option JobDone) (done : JobDone) → SameOut found entered → found ≡ Some out → ticket_at past ticket ≡ entered
    → ((e : Entered) → entered ≡ Some e → BusyWith ticket e.work (operation_at setup past e.op)) → IsDoneOut setup past entered back → back ≡ Some done → IsBack setup past ticket out done
is_back setup past ticket None None out back done same found is busy done_is there = cc
is_back setup past ticket None (Some entered) out back done same found is busy done_is there = absurd same
is_back setup past ticket (Some own) None out back done same found is busy done_is there = absurd same
is_back setup past ticket (Some own) (Some entered) out None done same found is busy done_is there = cc
is_back setup past ticket (Some own) (Some entered) out (Some given) done same found is busy done_is there =
    let equal : own ≡ out = cc in
    let given_is : given ≡ done = cc in
    with_open (operation_at setup past entered.op) refl (busy entered refl) (subst (IsDoneOn (operation_at setup past entered.op) entered.work) given_is done_is) equal where
      with_open : (o : Option Open) → operation_at setup past entered.op ≡ o → BusyWith ticket entered.work o → IsDoneOn o entered.work done → own ≡ out → IsBack setup past ticket out done
      with_open None e b d q = absurd b
      with_open (Some o) e b d q = record { op = entered.op; work = entered.work; o = o; out_is = is; same = subst (λ (x : Out). IsOut x entered) q same; open_is = e; busy = b; done_is = d }

-- a ticket that is not out in the table is not out in the history, and the other way round
pub none_out : (found : Option Out) (entered : Option Entered) → SameOut found entered → found ≡ None → entered ≡ None
none_out None None same e = refl
none_out None (Some entered) same e = absurd same
none_out (Some out) entered same e = cc

pub some_done : (setup : Setup) (past : History) (found : Option Out) (entered : Option Entered) (out : Out) (back : Option JobDone) → SameOut found entered → found ≡ Some out → IsDoneOut setup past entered back → back ≡ None → ⊥
some_done setup past None None out back same found done_is none = cc
some_done setup past None (Some entered) out back same found done_is none = absurd same
some_done setup past (Some own) None out back same found done_is none = absurd same
some_done setup past (Some own) (Some entered) out None same found done_is none = absurd done_is
some_done setup past (Some own) (Some entered) out (Some done) same found done_is none = cc

-- the slot of a work that is out is busy
kept_busy : (v : Option CipherState) (stamp : ℕ) (o : Open) (t : Option ℕ) (ticket : ℕ) → IsKept v stamp o t → t ≡ Some ticket → is_some v ≡ false
kept_busy None stamp o t ticket kept e = refl
kept_busy (Some state) stamp o None ticket kept e = cc
kept_busy (Some state) stamp o (Some own) ticket kept e = absurd kept

pub slot_busy : (slot : Option (Slot CipherState)) (found : Option Open) (ticket : ℕ) (work : Work) → BothFound IsSlot slot found → BusyWith ticket work found → table.is_busy slot ≡ true
slot_busy None None ticket work both busy = absurd busy
slot_busy None (Some o) ticket work both busy = absurd both
slot_busy (Some slot) None ticket work both busy = absurd busy
slot_busy (Some slot) (Some o) ticket work both busy = ap not (kept_busy (table.idle_value (Some slot)) _ o o.ticket ticket both.state busy.busy)

no_draw : (code : Code) → Rattle.cipher_ops.specs.Jobs.is_refusal code ≡ true → Rattle.rule_model.specs.Drawn.is_entropy_code code ≡ false
no_draw Rattle.tags.specs.declared.code.Code.TheVariants.EntropyFault e = cc
no_draw _ e = refl

-- no draw is at fault for a work that came back
pub no_fault : (kind : Rattle.step_rules.specs.declared.facts.StepKind.StepKind) (result : Result (List ℕ) Code) → IfErr result (λ code. is_refusal code ≡ true) → is_entropy_fault (reply_of kind result) ≡ false
no_fault Rattle.step_rules.specs.declared.facts.StepKind.TheVariants.Aad (Ok out) codes = refl
no_fault _ (Ok out) codes = refl
no_fault kind (Err code) codes = no_draw code codes

-- nor is the disk
pub no_disk_fault_of : (kind : Rattle.step_rules.specs.declared.facts.StepKind.StepKind) (result : Result (List ℕ) Code) → IfErr result (λ code. is_refusal code ≡ true) → is_disk_fault (reply_of kind result) ≡ false
no_disk_fault_of Rattle.step_rules.specs.declared.facts.StepKind.TheVariants.Aad (Ok out) codes = refl
no_disk_fault_of _ (Ok out) codes = refl
no_disk_fault_of kind (Err code) codes = no_system code codes

-- a client that goes
module _ (setup : Setup) (past : History) (old : Tables) (caller : Caller) (stands : TablesStand setup old past) (is_caller : IsCaller old caller) where
  same_caller : caller ≡ caller_of past (event_by caller Disconnect)
  same_caller = called past old caller Disconnect stands.clients is_caller

  pub busy_is : has_busy_row old.operations caller.client ≡ has_busy setup past caller.client
  busy_is = alike_any IsRow (λ row. is_row_of caller.client row && row.busy) (λ o. is_of caller.client o && is_busy o) (λ row o r. rw (r.client, r.busy_is) refl) (rows_in old.operations) (open_of setup past) stands.operations.rows

  -- the ruling over what the tables say is that of the history
  pub ruling_is : (connected busy : Bool) → connected ≡ is_some caller.uid → busy ≡ has_busy_row old.operations caller.client → first_broken A (disconnect_rules connected busy) ≡ disconnect_ruling caller (has_busy setup past caller.client)
  ruling_is connected busy e f = rw (e, f, busy_is) refl

  pub stays_connected : (rule : Rule) (code : Code) → disconnect_ruling caller (has_busy setup past caller.client) ≡ Err (rule, code)
      → AnswersAfter setup past old (event_by caller Disconnect) (record { reply = Broken rule code; job = None; drawn = [] })
  stays_connected rule code e =
      let none : operation_change setup past (event_by caller Disconnect) [] (Broken rule code) ≡ SameOperations = either (Rattle.step_rules.specs.Table.ends_operation rule) in
      record {
        follows = λ ready. Answered (record { ready = ready; drew = refl; is_answer = sym (ap (λ found. broken_or found (Done no_fields)) e) ∙ ap (λ c. answer_by_rules Disconnect setup past c []) same_caller });
        stands = denied_tables setup past (event_by caller Disconnect) [] (Broken rule code) old old stands (same_tables old) refl refl none refl;
        has_job = refl;
        stays = stays_same setup past (event_by caller Disconnect) [] (Broken rule code) none;
      } where
        either : (b : Bool) → (if b then SameOperations else SameOperations) ≡ SameOperations
        either true = refl
        either false = refl

  pub disconnected : (new : Tables) → disconnect_ruling caller (has_busy setup past caller.client) ≡ Ok tt → has_busy setup past caller.client ≡ false → EndsClient caller.client old new
      → AnswersAfter setup past new (event_by caller Disconnect) (record { reply = Done no_fields; job = None; drawn = [] })
  disconnected new e idle ended =
      let event : Event = event_by caller Disconnect in
      let reply : Reply = Done no_fields in
      let stays : Stays setup past (Acted event [] reply ∷ past) = stays_by setup past event [] reply (ClosesOf caller.client) refl stands.tickets.busy
      (λ t entered x after named b found. without_client caller.client (open_of setup past) idle entered.op x found b) in
      record {
        follows = λ ready. Answered (record { ready = ready; drew = refl; is_answer = sym (ap (λ found. broken_or found (Done no_fields)) e) ∙ ap (λ c. answer_by_rules Disconnect setup past c []) same_caller });
        stands = record {
          clients = record {
            uids = λ client. ended.goes client ∙ ap (λ u. Rattle.rule_model.specs.Clients.uid_after (Rattle.rule_model.specs.declared.entry_change.ClientChange.TheVariants.Goes caller.client) client u) (stands.clients.uids client);
            given = ended.given ∙ stands.clients.given;
          };
          keys = keys_stay setup past (Acted event [] reply ∷ past) old new stands.keys ended.keys (quiet_stored setup past event [] reply refl refl);
          operations = rows_after setup past event [] reply (ClosesOf caller.client) new.operations refl
              (rw ended.rows.rows (alike_filter IsRow (λ row. not (is_row_of caller.client row)) (λ o. not (is_of caller.client o)) (λ row o r. ap (λ c. not (c == caller.client)) r.client) (rows_in old.operations) (open_of setup past) stands.operations.rows))
              (ended.rows.given ∙ stands.operations.given) (ended.rows.most ∙ stands.operations.most);
          slots = slots_after setup past event [] reply (ClosesOf caller.client) old.slots new.slots stands.slots refl
              (rw ended.slots.operations (alike_filter IsSlot (λ slot. not (table.is_client caller.client slot)) (λ o. not (is_of caller.client o)) (λ slot o r. ap (λ c. not (c == caller.client)) r.client) (operations_of old.slots) (open_of setup past) stands.slots.slots_are))
              ended.slots.capacity (λ number l. ended.fresh number (stands.slots.fresh number l)) (λ next l. ended.later next (stands.slots.later next (omega (arith, l))));
          tickets = tickets_stay setup past event [] reply old.tickets new.tickets stands.tickets ended.tickets refl refl stays;
          boot = boot_stays setup past event [] reply old.boot new.boot stands.boot ended.boot refl;
        };
        has_job = refl;
        stays = stays;
      }
