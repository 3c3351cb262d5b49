-- An enter that is let through: the key that a finish uses, its work that goes out, and a finish whose key could not be used.
use Rattle.key_database.specs.Adding.{StepsSurely}
use Rattle.journal_records.specs.Holding.{known}
use Rattle.journal_compact.specs.declared.areas.Areas.{Areas}
use Rattle.std.proofs.Common.{◌≡◌, ℕ, ◌+◌, ◌≤◌, Bool, true, false, not, ◌==◌, if◌then◌else◌, List, [], ◌∷◌, length, find, Option, Some, None, option_map, Ok, refl, sym, ap, ◌∙◌, subst, arith}
use Rattle.std.specs.Option.{option_and_then, option_or}
use Rattle.std.proofs.lemmas.Bool.{eqb-true, eq-eqb}
use Rattle.tags.specs.declared.code.Code.{Code}
use Rattle.tags.specs.declared.code.Code.TheVariants.{SystemError}
use Rattle.tags.specs.declared.limits.TheConstants.{OPERATION_BYTES}
use Rattle.ks_outside.specs.declared.disk.Disk.{Ghosts}
use Rattle.step_rules.specs.declared.facts.StepFacts.{StepFacts}
use Rattle.step_rules.specs.Rules.{Enters}
use Rattle.step_rules.specs.Table as step_table
use Rattle.cipher_ops.specs.declared.job.Job.{Job}
use Rattle.cipher_ops.specs.declared.room.JobRoom.{JobRoom}
use Rattle.cipher_ops.specs.declared.room.Work.{Work}
use Rattle.cipher_ops.specs.declared.room.Work.TheVariants.{Aad, Text, Last}
use Rattle.cipher_ops.specs.declared.state.CipherState.{CipherState}
use Rattle.operation_slots.specs.declared.operation.SlotOperation.{SlotOperation as Slot}
use Rattle.operation_slots.specs.Table as table
use Rattle.operation_slots.specs.Table.{SlotTable, held, made_busy, operations_of}
use Rattle.journal_records.specs.declared.change.Change.{Change}
use Rattle.journal_records.specs.declared.change.Change.TheVariants as changes
use Rattle.journal_records.specs.Needs.{is_met}
use Rattle.key_database.specs.declared.database.KeyDatabase.{KeyDatabase}
use Rattle.key_database.specs.Stands.{SameStore, lasting, areas_of}
use Rattle.key_database.proofs.Rereading.{same_holds}
use Rattle.keystore_core.proofs.SameStores.{one_store_same}
use Rattle.rule_model.specs.declared.entry.Entry.TheVariants.{Acted}
use Rattle.rule_model.specs.declared.event.Event.{Event}
use Rattle.rule_model.specs.declared.facts.Brought.{Brought}
use Rattle.rule_model.specs.declared.facts.Caller.{Caller}
use Rattle.rule_model.specs.declared.reply.Fields.{Fields}
use Rattle.rule_model.specs.declared.reply.Reply.{Reply}
use Rattle.rule_model.specs.declared.reply.Reply.TheVariants.{Done, Stopped}
use Rattle.rule_model.specs.Acts.{is_begin, is_connect, is_enter, is_restart}
use Rattle.rule_model.specs.Answer as model
use Rattle.rule_model.specs.Answer.{answer}
use Rattle.rule_model.specs.Blobs.{root_given}
use Rattle.rule_model.specs.Clients.{caller_of}
use Rattle.rule_model.specs.Drawn.{is_entropy_fault, size_of, wanted}
use Rattle.rule_model.specs.Entries.{History, admits, count_of, is_done}
use Rattle.rule_model.specs.Jobs.{IsJobOn, IsJobOut, Stays}
use Rattle.rule_model.specs.Kept.{is_live, open_of, operation_at, operation_change}
use Rattle.rule_model.specs.Legal.{MayFollow}
use Rattle.rule_model.specs.declared.entry_change.OperationChange.TheVariants.{Closes, Enters as EntersOne}
use Rattle.rule_model.specs.declared.operation.Open.{Open}
use Rattle.rule_model.specs.Operations.{as_entered, has_number, is_busy, limited_key, open_after, step_of}
use Rattle.rule_model.specs.Replies.{broken_or, no_fields}
use Rattle.rule_model.specs.Settling.{is_disk_fault, is_unsettled as waits}
use Rattle.rule_model.specs.Setup.{Setup}
use Rattle.rule_model.specs.StepFacts.{brought_by, facts_of, has_ended, input_of, step_facts}
use Rattle.rule_model.specs.Stored.{change_by}
use Rattle.rule_model.specs.declared.operation.Entered.{Entered}
use Rattle.rule_model.specs.declared.entry_change.TicketChange.TheVariants.{GoesOut, SameTickets as NoTickets}
use Rattle.rule_model.specs.Tickets.{next_ticket, ticket_after, ticket_at, ticket_change}
use Rattle.rule_model.proofs.Kept.{same_stored}
use Rattle.rule_model.proofs.UsesMet.{uses_met}
use Rattle.keystore_core.specs.declared.answered.Answered.{Answered as Answer}
use Rattle.live_tables.specs.declared.operations.OperationRow.{OperationRow as Row}
use Rattle.live_tables.specs.declared.operations.RowChange.TheVariants.{Enters as RowEnters}
use Rattle.live_tables.specs.declared.placed.OperationPlace.{OperationPlace}
use Rattle.keystore_core.specs.declared.tables.Tables.{Tables}
use Rattle.live_tables.specs.declared.tickets.Out.{Out}
use Rattle.live_tables.specs.Alike.{BothFound}
use Rattle.keystore_core.specs.Keys.{AreSettled, KeysStand, SameKeys}
use Rattle.keystore_core.specs.Leaving.{ClosesOne}
use Rattle.live_tables.specs.Operations.{IsRow, changed, has_row, operation_in, rows_in}
use Rattle.keystore_core.specs.Slots.{IsSlot}
use Rattle.keystore_core.specs.Stepping.{ClosesIf, IsRoomAt, SendsJob, entering, used_by, used_in}
use Rattle.keystore_core.specs.Tables.{AnswersAfter, IsCaller, IsLegal, TablesStand, event_by, row_at}
use Rattle.live_tables.specs.Tickets as out
use Rattle.live_tables.specs.Tickets.{BusyWith, IsOut, SameOut, tickets_given}
use Rattle.keystore_core.specs.Writing.{IsWrittenIf, Made, StoreGoes, Torn, change_for, used_of}
use Rattle.live_tables.proofs.Alike.{alike_change}
use Rattle.keystore_core.proofs.Booted.{boot_stays}
use Rattle.keystore_core.proofs.KeyTable.{keys_stay}
use Rattle.keystore_core.proofs.Opened.{found_apart, found_changed, is_other, stays_by}
use Rattle.keystore_core.proofs.Standing.{busy_after, called, clients_stay, count_grows, quiet, rows_after, slots_after, uncounted}
use Rattle.keystore_core.proofs.Stepped.{closed_tables, enter_begins, enter_boot, enter_change, enter_clients, enter_connects, enter_enters, enter_ticket, facts_at, is_idle, job_on, row_found, row_named, slot_found, slot_named}
use Rattle.keystore_core.proofs.Written.{told_follows, told_keys}

-- ---- what a finish uses

-- the limited key of a row is that of the open operation
pub same_used : (row : Option Row) (o : Option Open) → BothFound IsRow row o → used_of row ≡ option_and_then limited_key o
same_used None None both = refl
same_used (Some row) (Some o) r = rw (r.limited, r.key) refl
same_used None (Some o) both = absurd both
same_used (Some row) None both = absurd both

pub use_option : (used : Option ℕ) → option_or (option_map changes.Use used) None ≡ option_map changes.Use used
use_option None = refl
use_option (Some id) = refl

-- what the tables say that a step uses is the change that it would make
pub entering_change : (tables : Tables) (caller : Caller) (op : ℕ) (work : Work) (answered : Answer) → change_for tables caller (entering op work) answered ≡ used_by (used_in tables op (brought_by work).kind)
entering_change tables caller op (Aad input) answered = refl
entering_change tables caller op (Text input) answered = refl
entering_change tables caller op (Last input signature) answered = use_option (used_of (operation_in tables.operations op))

pub entering_restarts : (op : ℕ) (work : Work) → is_restart (entering op work) ≡ false
entering_restarts op (Aad input) = refl
entering_restarts op (Text input) = refl
entering_restarts op (Last input signature) = refl

entering_root : (op : ℕ) (work : Work) (before : List ℕ) → root_given (entering op work) before ≡ before
entering_root op (Aad input) before = refl
entering_root op (Text input) before = refl
entering_root op (Last input signature) before = refl

entering_draws : (setup : Setup) (past : History) (caller : Caller) (op : ℕ) (work : Work) → 0 ≡ size_of (wanted setup past (event_by caller (entering op work)))
entering_draws setup past caller op (Aad input) = refl
entering_draws setup past caller op (Text input) = refl
entering_draws setup past caller op (Last input signature) = refl

-- a key that has not ended, by the facts of a step on its operation
live_used : (live : ℕ → Bool) (caller : Caller) (brought : Brought) (found : Option Open) (id : ℕ) → option_and_then limited_key found ≡ Some id → (facts_of found live caller brought).ended ≡ false → live id ≡ true
live_used live caller brought None id used ended = cc
live_used live caller brought (Some o) id used ended = by_limit o.operation.limited o.operation.key used ended where
  by_life : (b : Bool) → not b ≡ false → b ≡ true
  by_life true e = refl
  by_life false e = cc

  by_limit : (limited : Bool) (key : Option ℕ) → (if limited then key else None) ≡ Some id → has_ended live key ≡ false → live id ≡ true
  by_limit true (Some n) e f = let same : n ≡ id = cc in subst (λ k. live k ≡ true) same (by_life (live n) f)
  by_limit true None e f = cc
  by_limit false key e f = cc

-- the need of a use is met where the rules let the finish through
pub use_met : (setup : Setup) (past : History) (tables : Tables) (caller : Caller) (op : ℕ) (work : Work) (id : ℕ) → TablesStand setup tables past → IsLegal setup past → used_in tables op (brought_by work).kind ≡ Some id
    → (step_facts setup past caller op (brought_by work)).ended ≡ false → is_met (lasting tables.keys) (changes.Use id) ≡ true
use_met setup past tables caller op (Aad input) id stands legal used ended = cc
use_met setup past tables caller op (Text input) id stands legal used ended = cc
use_met setup past tables caller op (Last input signature) id stands legal used ended =
    let own : option_and_then limited_key (operation_at setup past op) ≡ Some id = sym (same_used (row_at tables op) (operation_at setup past op) (row_found setup past tables op stands)) ∙ used in
    subst (λ part. is_met part (changes.Use id) ≡ true) (sym stands.keys.lasting_is)
    (uses_met setup legal.next past legal.legal legal.storable op id own (live_used (is_live setup past) caller (brought_by (Last input signature)) (operation_at setup past op) id own ended))

-- the answer of the store is that of the use, where it admits it
pub is_told : (old new : KeyDatabase) (used : Option Change) (fields : Fields) (reply : Reply) → IsWrittenIf old new used fields reply → is_done reply ≡ true → reply ≡ Done fields
is_told old new None fields reply written done = written.1
is_told old new (Some change) fields reply (Made made e) done = e
is_told old new (Some change) fields reply (Torn torn e) done = let no : is_done (Stopped SystemError) ≡ true = subst (λ r. is_done r ≡ true) e done in cc

-- no draw failed
pub no_draw : (old new : KeyDatabase) (used : Option Change) (fields : Fields) (reply : Reply) → IsWrittenIf old new used fields reply → is_entropy_fault reply ≡ false
no_draw old new None fields reply written = subst (λ r. is_entropy_fault r ≡ false) (sym written.1) refl
no_draw old new (Some change) fields reply (Made made e) = subst (λ r. is_entropy_fault r ≡ false) (sym e) refl
no_draw old new (Some change) fields reply (Torn torn e) = subst (λ r. is_entropy_fault r ≡ false) (sym e) refl

-- ---- a work that goes out

-- where a work has gone out
within_of : (live : ℕ → Bool) (caller : Caller) (o : Open) (work : Work) → Enters (facts_at (Some o) live caller work) → length o.aad + length o.text + length (input_of work) ≤ OPERATION_BYTES
within_of live caller o (Aad input) enters = enters.total
within_of live caller o (Text input) enters = enters.total
within_of live caller o (Last input signature) enters = enters.total

busy_entered : (live : ℕ → Bool) (caller : Caller) (step ticket : ℕ) (o : Open) (work : Work) → Enters (facts_at (Some o) live caller work) → BusyWith ticket work (Some (as_entered step ticket o))
busy_entered live caller step ticket o work enters = record { busy = refl; within = within_of live caller o work enters }

-- nothing is found where nothing was
pub none_changed : (op : ℕ) (f : Slot CipherState → Slot CipherState) (old new : SlotTable CipherState) → table.FindsChanged old new op f → (number : ℕ) → held old number ≡ None → held new number ≡ None
none_changed op f old new finds number none = finds number ∙ either (number == op) where
  either : (b : Bool) → (if b then option_map f (held old number) else held old number) ≡ None
  either true = ap (option_map f) none
  either false = none

-- a work that goes out, in the table and in the history
both_out : (b : Bool) (out : Out) (entered : Entered) (found : Option Out) (before : Option Entered) → IsOut out entered → SameOut found before
    → SameOut (if b then Some out else found) (if b then Some entered else before)
both_out true out entered found before same both = same
both_out false out entered found before same both = both

ticket_case : (b : Bool) (P : Entered → Type 0) (first : Entered) (before : Option Entered) (entered : Entered) → (if b then Some first else before) ≡ Some entered → (b ≡ true → P first) → (before ≡ Some entered → P entered) → P entered
ticket_case true P first before entered e one other = let same : first ≡ entered = cc in subst P same (one refl)
ticket_case false P first before entered e one other = other e

own_ticket : (ticket : ℕ) (first : Entered) (before : Option Entered) → (if ticket == ticket then Some first else before) ≡ Some first
own_ticket ticket first before = rw (eq-eqb ticket ticket refl) refl

module _ (setup : Setup) (past : History) (start : Tables) (keys : KeyDatabase) (caller : Caller) (op : ℕ) (work : Work) (now : TablesStand setup start past) (is_caller : IsCaller start caller) (settled : AreSettled start) where
  abbrev Entering : Event
  Entering = event_by caller (entering op work)

  abbrev Facts : StepFacts
  Facts = step_facts setup past caller op (brought_by work)

  abbrev Told : ℕ → Fields
  Told ticket = record no_fields { ticket = Some ticket }

  abbrev First : Entered
  First = record { op = op; work = work }

  abbrev Sent : OperationPlace → Out
  Sent place = record { op = op; place = place; brought = brought_by work }

  abbrev Used : Option Change
  Used = used_by (used_in start op (brought_by work).kind)

  abbrev Spent : Tables
  Spent = record start { keys = keys }

  idle_now : waits past ≡ false
  idle_now = sym now.keys.settled_is ∙ settled

  used_is : change_by setup past Entering [] ≡ Used
  used_is = by_work work where
    by_work : (w : Work) → change_by setup past (event_by caller (entering op w)) [] ≡ used_by (used_in start op (brought_by w).kind)
    by_work (Aad input) = refl
    by_work (Text input) = refl
    by_work (Last input signature) = ap (option_map changes.Use) (sym (same_used (row_at start op) (operation_at setup past op) (row_found setup past start op now)))

  told : (fields : Fields) → model.entering setup past (caller_of past Entering) op work ≡ Done fields → answer setup past Entering [] ≡ Done fields
  told fields ruled = by_work work ruled where
    by_work : (w : Work) → model.entering setup past (caller_of past (event_by caller (entering op w))) op w ≡ Done fields → answer setup past (event_by caller (entering op w)) [] ≡ Done fields
    by_work (Aad input) e = e
    by_work (Text input) e = e
    by_work (Last input signature) e = e

  ruled : (ticket : ℕ) → step_table.answer Facts ≡ Ok tt → ticket ≡ next_ticket past → model.entering setup past (caller_of past Entering) op work ≡ Done (Told ticket)
  ruled ticket let_through next =
      sym (ap (λ c. model.entering setup past c op work) (called past start caller (entering op work) now.clients is_caller))
      ∙ ap (λ found. broken_or found (Done (record no_fields { ticket = Some (next_ticket past) }))) let_through
      ∙ ap (λ n. Done (Told n)) (sym next)

  -- what the store's answer makes of the history, and of the keys and grants
  follows : (ticket : ℕ) (reply : Reply) → step_table.answer Facts ≡ Ok tt → ticket ≡ next_ticket past → IsWrittenIf start.keys keys Used (Told ticket) reply → MayFollow setup past Entering [] reply
  follows ticket reply let_through next written =
      told_follows setup past start start.keys keys Entering [] (Told ticket) now.keys (one_store_same start.keys) settled (entering_restarts op work) (entering_root op work) Used reply used_is (entering_draws setup past caller op work)
      (told (Told ticket) (ruled ticket let_through next)) written

  keys_after : (ticket : ℕ) (reply : Reply) → IsWrittenIf start.keys keys Used (Told ticket) reply → KeysStand setup Spent (Acted Entering [] reply ∷ past)
  keys_after ticket reply written =
      told_keys setup past start start.keys keys Entering [] (Told ticket) now.keys (one_store_same start.keys) settled (entering_restarts op work) (entering_root op work) Used reply used_is written

  keys_on : (later : History) (new : Tables) → KeysStand setup Spent later → SameKeys Spent new → KeysStand setup new later
  keys_on later new stands same = keys_stay setup later later Spent new stands same (same_stored setup later)

  idle_open : Facts.busy ≡ false → (x : Open) → operation_at setup past op ≡ Some x → is_busy x ≡ false
  idle_open idle = is_idle (is_live setup past) caller (operation_at setup past op) (brought_by work) idle

  -- a work goes out, after the room of its ticket was taken and its key was used
  pub goes_out : (new : Tables) (place : OperationPlace) (room : JobRoom) (job : Job) (ticket : ℕ) (o : Open) → operation_at setup past op ≡ Some o → step_table.answer Facts ≡ Ok tt → Facts.busy ≡ false → Enters Facts
      → IsRoomAt (row_at start op) work room → ticket ≡ tickets_given start.tickets + 1 → IsWrittenIf start.keys keys Used (Told ticket) (Done (Told ticket)) → SendsJob (Sent place) room Spent new job
      → AnswersAfter setup past new Entering (record { reply = Done (Told ticket); job = Some job; drawn = [] })
  goes_out new place room job ticket o e let_through idle enters is_room next written sent =
      let reply : Reply = Done (Told ticket) in
      let later : History = Acted Entering [] reply ∷ past in
      let first : ticket ≡ next_ticket past = next ∙ ap (λ n. n + 1) now.tickets.given in
      let is : operation_change setup past Entering [] reply ≡ EntersOne op ticket = enter_change setup past caller op work ticket in
      let ticket_is : ticket_change Entering reply ≡ GoesOut ticket First = enter_ticket caller op work ticket in
      let enters_o : Enters (facts_at (Some o) (is_live setup past) caller work) = subst (λ x. Enters (facts_at x (is_live setup past) caller work)) e enters in
      let stays : Stays setup past later = stays_by setup past Entering [] reply (EntersOne op ticket) is now.tickets.busy
      (λ t entered x after named busy found. found_apart entered.op op (as_entered (step_of past) ticket) (is_other op entered.op (open_of setup past) x (idle_open idle) found busy) (λ y. refl) (open_of setup past) ∙ found) in
      let here : operation_at setup later op ≡ Some (as_entered (step_of past) ticket o) =
      ap (λ c. find (has_number op) (open_after (step_of past) c (open_of setup past))) is ∙ found_changed op (as_entered (step_of past) ticket) (λ y. refl) (open_of setup past) o e in
      let no_connect : admits is_connect (Acted Entering [] reply) ≡ false = quiet is_connect past Entering [] reply (enter_connects op work) in
      let no_begin : admits is_begin (Acted Entering [] reply) ≡ false = quiet is_begin past Entering [] reply (enter_begins op work) in
      let busy_here : BusyWith ticket work (operation_at setup later op) = subst (BusyWith ticket work) (sym here) (busy_entered (is_live setup past) caller (step_of past) ticket o work enters_o) in
      let on : IsJobOn (operation_at setup past op) work job =
      job_on (is_live setup past) caller work (row_at start op) (operation_at setup past op) (held start.slots op) room job (row_found setup past start op now) (slot_found setup past start op now) idle enters is_room sent.job_is in
      let on_o : IsJobOn (Some o) work job = subst (λ x. IsJobOn x work job) e on in
      let ticket_here : ticket_at later ticket ≡ Some First = ap (λ c. ticket_after c ticket (ticket_at past ticket)) ticket_is ∙ own_ticket ticket First (ticket_at past ticket) in
      record {
        follows = λ ready. follows ticket reply let_through first written;
        stands = record {
          clients = clients_stay setup past Entering [] reply start.clients new.clients now.clients sent.clients (enter_clients caller op work reply) no_connect;
          keys = keys_on later new (keys_after ticket reply written) sent.keys;
          operations = rows_after setup past Entering [] reply (EntersOne op ticket) new.operations is
              (rw sent.rows.rows (alike_change IsRow (has_row op) (has_number op) (changed RowEnters) (as_entered (step_of past) ticket) (row_named op)
              (λ row x r named. record { number = r.number; client = r.client; key = r.key; plan = r.plan; limited = r.limited; aad_is = r.aad_is; text_is = r.text_is; busy_is = refl; challenge_is = r.challenge_is; shown_is = r.shown_is; list_is = r.list_is })
              (rows_in start.operations) (open_of setup past) now.operations.rows))
              (sent.rows.given ∙ now.operations.given ∙ sym (uncounted is_begin past Entering [] reply no_begin)) (sent.rows.most ∙ now.operations.most);
          slots = slots_after setup past Entering [] reply (EntersOne op ticket) start.slots new.slots now.slots is
              (rw sent.slots.operations (alike_change IsSlot (table.has_number op) (has_number op) made_busy (as_entered (step_of past) ticket) (slot_named op)
              (λ slot x r named. record { number = r.number; uid = r.uid; client = r.client; state = tt })
              (operations_of start.slots) (open_of setup past) now.slots.slots_are))
              sent.slots.capacity
              (λ n l. none_changed op made_busy start.slots new.slots sent.found n (now.slots.fresh n (let grows = count_grows is_begin past Entering [] reply in omega (arith, l, grows))))
              (λ m l. sent.later m (now.slots.later m (omega (arith, l))));
          tickets = record {
            outs = λ t. subst (λ c. SameOut (out.out_in new.tickets t) (ticket_after c t (ticket_at past t))) (sym ticket_is)
                (subst (λ x. SameOut x (if ticket == t then Some First else ticket_at past t)) (sym (sent.tickets.outs t))
                (subst (λ n. SameOut (if n == t then Some (Sent place) else out.out_in start.tickets t) (if ticket == t then Some First else ticket_at past t)) next
                (both_out (ticket == t) (Sent place) First (out.out_in start.tickets t) (ticket_at past t) (record { op = refl; brought = refl }) (now.tickets.outs t))));
            given = sent.tickets.given ∙ ap (λ n. n + 1) now.tickets.given ∙ sym (ap (λ b. if b then count_of is_enter past + 1 else count_of is_enter past) (enter_enters op work));
            busy = λ t entered after.
                ticket_case (ticket == t) (λ x. BusyWith t x.work (operation_at setup later x.op)) First (ticket_at past t) entered (sym (ap (λ c. ticket_after c t (ticket_at past t)) ticket_is) ∙ after)
                (λ b. subst (λ n. BusyWith n work (operation_at setup later op)) (eqb-true ticket t b) busy_here)
                (λ before. busy_after setup past Entering [] reply stays now.tickets.busy t entered before after);
          };
          boot = boot_stays setup past Entering [] reply start.boot new.boot now.boot sent.boot (enter_boot setup past caller op work reply);
        };
        has_job = (sent.number ∙ sym next, subst (λ x. IsJobOut setup later x job) (sym ticket_here) (subst (λ x. IsJobOn x work job) (sym here) on_o));
        stays = stays;
      }

  -- an operation that is the client's own is there
  own_open : (found : Option Open) → (facts_of found (is_live setup past) caller (brought_by work)).own ≡ true → (o : Open) × (found ≡ Some o)
  own_open None own = cc
  own_open (Some o) own = (o, refl)

  pub entered_after : (new : Tables) (place : OperationPlace) (room : JobRoom) (job : Job) (ticket : ℕ) (reply : Reply) → is_done reply ≡ true → step_table.answer Facts ≡ Ok tt → Facts.own ≡ true → Facts.busy ≡ false → Enters Facts
      → IsRoomAt (row_at start op) work room → ticket ≡ tickets_given start.tickets + 1 → IsWrittenIf start.keys keys Used (Told ticket) reply → SendsJob (Sent place) room Spent new job
      → AnswersAfter setup past new Entering (record { reply = Done (Told ticket); job = Some job; drawn = [] })
  entered_after new place room job ticket reply done let_through own idle enters is_room next written sent =
      let there = own_open (operation_at setup past op) own in
      goes_out new place room job ticket there.0 there.1 let_through idle enters is_room next (subst (IsWrittenIf start.keys keys Used (Told ticket)) (is_told start.keys keys Used (Told ticket) reply written done) written) sent

  -- ---- a finish whose key could not be used

  stopped_tickets : (code : Code) (w : Work) → ticket_change (event_by caller (entering op w)) (Stopped code) ≡ NoTickets
  stopped_tickets code (Aad input) = refl
  stopped_tickets code (Text input) = refl
  stopped_tickets code (Last input signature) = refl

  -- a device call failed: the operation is closed
  torn_after : (new : Tables) (ticket : ℕ) → step_table.answer Facts ≡ Ok tt → Facts.busy ≡ false → ticket ≡ next_ticket past → (change : Change) → Used ≡ Some change → IsWrittenIf start.keys keys Used (Told ticket) (Stopped SystemError) → ClosesOne op Spent new
      → AnswersAfter setup past new Entering (record { reply = Stopped SystemError; job = None; drawn = [] })
  torn_after new ticket let_through idle first change some written closed =
      let later : History = Acted Entering [] (Stopped SystemError) ∷ past in
      let after = closed_tables setup past Entering [] (Stopped SystemError) op start keys new now closed (keys_on later new (keys_after ticket (Stopped SystemError) written) closed.keys) (closes_it work some)
      (enter_clients caller op work (Stopped SystemError)) (stopped_tickets SystemError work) refl refl refl (enter_boot setup past caller op work (Stopped SystemError)) (idle_open idle) in
      record {
        follows = λ ready. follows ticket (Stopped SystemError) let_through first written;
        stands = after.0;
        has_job = refl;
        stays = after.1;
      } where
        closes_it : (w : Work) → used_by (used_in start op (brought_by w).kind) ≡ Some change → operation_change setup past (event_by caller (entering op w)) [] (Stopped SystemError) ≡ Closes op
        closes_it (Aad input) e = cc
        closes_it (Text input) e = cc
        closes_it (Last input signature) e = rw idle_now refl

  pub unspent_after : (new : Tables) (ticket : ℕ) (reply : Reply) → is_done reply ≡ false → step_table.answer Facts ≡ Ok tt → Facts.busy ≡ false → ticket ≡ tickets_given start.tickets + 1 → IsWrittenIf start.keys keys Used (Told ticket) reply
      → ClosesIf (is_disk_fault reply) op Spent new → AnswersAfter setup past new Entering (record { reply = reply; job = None; drawn = [] })
  unspent_after new ticket reply denied let_through idle next written closes = by_used Used refl written where
    first : ticket ≡ next_ticket past
    first = next ∙ ap (λ n. n + 1) now.tickets.given

    by_used : (used : Option Change) → Used ≡ used → IsWrittenIf start.keys keys used (Told ticket) reply → AnswersAfter setup past new Entering (record { reply = reply; job = None; drawn = [] })
    by_used None e w = let no : is_done (Done (Told ticket)) ≡ false = subst (λ r. is_done r ≡ false) w.1 denied in cc
    by_used (Some change) e (Made made is) = let no : is_done (Done (Told ticket)) ≡ false = subst (λ r. is_done r ≡ false) is denied in cc
    by_used (Some change) e (Torn torn is) =
        subst (λ r. AnswersAfter setup past new Entering (record { reply = r; job = None; drawn = [] })) (sym is)
        (torn_after new ticket let_through idle first change e (subst (IsWrittenIf start.keys keys Used (Told ticket)) is written) (subst (λ r. ClosesIf (is_disk_fault r) op Spent new) is closes))

-- the keys and grants where an operation is closed or not
pub closed_store : (b : Bool) (op : ℕ) (old new : Tables) → ClosesIf b op old new → SameStore old.keys new.keys
closed_store true op old new closed = closed.keys.store_is
closed_store false op old new same = subst (λ t. SameStore old.keys t.keys) (sym same) (one_store_same old.keys)

-- what is known of the disk stays where the keys and grants are moved
-- the store of tables in which an operation is closed, or of none
pub closes_store : (b : Bool) (op : ℕ) (old new : Tables) → ClosesIf b op old new → SameStore old.keys new.keys
closes_store true op old new closes = closes.keys.store_is
closes_store false op old new same = subst (λ (t : Tables). SameStore old.keys t.keys) (sym same) (one_store_same old.keys)

pub goes_into : {D : Type 0} (g : Ghosts D) (old middle new : KeyDatabase) (disk later : D) (restarts : Bool) (change : Option Change) (reply : Reply) → SameStore middle new → StoreGoes g old middle disk later restarts change reply
    → StoreGoes g old new disk later restarts change reply
goes_into g old middle new disk later restarts change reply same goes = record {
  holds = λ held h. same_holds g middle new later (Rattle.rule_model.specs.Stored.after_reply restarts change reply held) same (goes.holds held h);
  passes = goes.passes;
  goes = goes.goes;
  surely = λ held h keeps.
      subst (λ (a : Areas). StepsSurely g (areas_of old) a disk later (known held) (known (Rattle.rule_model.specs.Stored.after_reply restarts change reply held))) (sym same.areas_is)
      (goes.surely held h keeps);
}
