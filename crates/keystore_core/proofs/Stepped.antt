-- A step of an open operation: that its work may go out, its answer, and the tables after it.
use Rattle.std.proofs.Common.{◌≡◌, ◌&&◌, ℕ, Bool, true, false, not, ◌==◌, if◌then◌else◌, List, [], ◌∷◌, length, Option, Some, None, Ok, Err, is_some, IsTrue, refl, sym, ap, ◌∙◌, subst, arith, length-append}
use Rattle.std.proofs.Math.Bridge.{le_prop}
use Rattle.std.proofs.Props.{props}
use mathlib.Core.Logic.{∥∥₁_prop}
use Rattle.tags.specs.declared.code.Code.{Code}
use Rattle.tags.specs.declared.plan.Plan.{Plan}
use Rattle.tags.specs.declared.rule.Rule.{Rule}
use Rattle.tags.specs.Plan.{may_end}
use Rattle.step_rules.specs.declared.facts.StepFacts.{StepFacts}
use Rattle.step_rules.specs.Rules.{Enters}
use Rattle.step_rules.specs.Table as step_table
use Rattle.step_rules.specs.Table.{IsOwnAndIdle}
use Rattle.cipher_ops.specs.declared.job.Job.{Job}
use Rattle.cipher_ops.specs.declared.room.JobRoom.{JobRoom}
use Rattle.cipher_ops.specs.declared.room.Work.{Work}
use Rattle.cipher_ops.specs.declared.room.Work.TheVariants.{Aad, Text, Last}
use Rattle.cipher_ops.specs.declared.state.CipherState.{CipherState}
use Rattle.cipher_ops.specs.Jobs.{JobFor}
use Rattle.cipher_ops.specs.Running.{GoesOn, IsRoom, MayCome}
use Rattle.operation_slots.specs.declared.operation.SlotOperation.{SlotOperation as Slot}
use Rattle.operation_slots.specs.Table as table
use Rattle.operation_slots.specs.Table.{FindsWithout, SlotTable, held, idle_value, operations_of}
use Rattle.key_database.specs.declared.database.KeyDatabase.{KeyDatabase}
use Rattle.rule_model.specs.declared.entry.Entry.TheVariants.{Acted}
use Rattle.rule_model.specs.declared.event.Act.{Act}
use Rattle.rule_model.specs.declared.event.Act.TheVariants.{Abort}
use Rattle.rule_model.specs.declared.event.Event.{Event}
use Rattle.rule_model.specs.declared.facts.Brought.{Brought}
use Rattle.rule_model.specs.declared.facts.Caller.{Caller}
use Rattle.rule_model.specs.declared.reply.Reply.{Reply}
use Rattle.rule_model.specs.declared.reply.Reply.TheVariants.{Done, Broken}
use Rattle.rule_model.specs.Acts.{is_begin, is_connect, is_enter}
use Rattle.rule_model.specs.Answer.{answer_by_rules}
use Rattle.rule_model.specs.Replies.{broken_or, no_fields}
use Rattle.rule_model.specs.declared.entry_change.ClientChange.TheVariants.{SameClients as NoClients}
use Rattle.rule_model.specs.Clients.{caller_of, client_change}
use Rattle.rule_model.specs.Entries.{History, admits, is_done}
use Rattle.rule_model.specs.Jobs.{IsJobOn, Stays}
use Rattle.rule_model.specs.Kept.{is_live, open_of, operation_at, operation_change}
use Rattle.rule_model.specs.declared.entry_change.BootChange.TheVariants.{SameBoot as NoBoot}
use Rattle.rule_model.specs.Boot.{boot_change}
use Rattle.rule_model.specs.Legal.{MayFollow, Answered, is_ready}
use Rattle.rule_model.specs.declared.entry_change.OperationChange.TheVariants.{Closes, Enters as EntersOne, SameOperations}
use Rattle.rule_model.specs.declared.operation.Open.{Open}
use Rattle.rule_model.specs.Operations.{closes, has_number, is_busy, operation_of}
use Rattle.rule_model.specs.Setup.{Setup}
use Rattle.rule_model.specs.StepFacts.{brought_by, brought_by_abort, facts_of, has_ended, step_facts}
use Rattle.rule_model.specs.declared.entry_change.TicketChange.TheVariants.{GoesOut, SameTickets as NoTickets}
use Rattle.rule_model.specs.Tickets.{next_ticket, ticket_change}
use Rattle.rule_model.proofs.Kept.{denied_stored, quiet_stored}
use Rattle.live_tables.specs.declared.operations.OperationRow.{OperationRow as Row}
use Rattle.keystore_core.specs.declared.tables.Tables.{Tables}
use Rattle.live_tables.specs.Alike.{BothFound}
use Rattle.keystore_core.specs.Keys.{KeysStand}
use Rattle.keystore_core.specs.Leaving.{ClosesOne}
use Rattle.live_tables.specs.Operations.{IsRow, has_row, rows_in}
use Rattle.keystore_core.specs.Slots.{IsKept, IsSlot, IsStateOf}
use Rattle.keystore_core.specs.Stepping.{CanWork, ClosesIf, Denies, IsRoomAt, MayGrow, entering}
use Rattle.keystore_core.specs.Tables.{AnswersAfter, IsCaller, TablesStand, event_by, row_at, state_at}
use Rattle.live_tables.proofs.Alike.{alike_filter, alike_found}
use Rattle.keystore_core.proofs.Booted.{boot_stays}
use Rattle.keystore_core.proofs.KeyTable.{keys_stay}
use Rattle.keystore_core.proofs.Opened.{is_other, stays_by, stays_same, without_keeps}
use Rattle.keystore_core.proofs.Standing.{called, clients_stay, count_grows, denied_tables, rows_after, same_tables, slots_after, tickets_stay, uncounted}

-- the tests of a row and a slot are those of the open operation
pub row_named : (op : ℕ) (row : Row) (o : Open) → IsRow row o → has_row op row ≡ has_number op o
row_named op row o r = ap (λ n. n == op) r.number

pub slot_named : (op : ℕ) (slot : Slot CipherState) (o : Open) → IsSlot slot o → table.has_number op slot ≡ has_number op o
slot_named op slot o r = ap (λ n. n == op) r.number

-- what the three find under a number
pub row_found : (setup : Setup) (past : History) (tables : Tables) (op : ℕ) → TablesStand setup tables past → BothFound IsRow (row_at tables op) (operation_at setup past op)
row_found setup past tables op stands = alike_found IsRow (has_row op) (has_number op) (row_named op) (rows_in tables.operations) (open_of setup past) stands.operations.rows

pub slot_found : (setup : Setup) (past : History) (tables : Tables) (op : ℕ) → TablesStand setup tables past → BothFound IsSlot (held tables.slots op) (operation_at setup past op)
slot_found setup past tables op stands = alike_found IsSlot (table.has_number op) (has_number op) (slot_named op) (operations_of tables.slots) (open_of setup past) stands.slots.slots_are

-- an idle operation has its state
pub kept_state : (v : Option CipherState) (stamp : ℕ) (o : Open) (t : Option ℕ) → IsKept v stamp o t → is_some t ≡ false → (state : CipherState) × (v ≡ Some state) × IsStateOf state o
kept_state None stamp o None kept idle = absurd kept
kept_state (Some state) stamp o None kept idle = (state, refl, kept.1)
kept_state v stamp o (Some ticket) kept idle = cc

pub idle_state : (slot : Option (Slot CipherState)) (o : Option Open) → BothFound IsSlot slot o → ((x : Open) → o ≡ Some x → is_busy x ≡ false) → is_some o ≡ true → is_some (idle_value slot) ≡ true
idle_state None None both idle there = cc
idle_state None (Some o) both idle there = absurd both
idle_state (Some slot) None both idle there = absurd both
idle_state (Some slot) (Some o) both idle there = ap is_some (kept_state (idle_value (Some slot)) _ o o.ticket both.state (idle o refl)).1

-- and an operation that has its state is idle
not_busy : (v : Option CipherState) (stamp : ℕ) (o : Open) (t : Option ℕ) → IsKept v stamp o t → is_some v ≡ true → is_some t ≡ false
not_busy None stamp o t kept there = cc
not_busy (Some state) stamp o None kept there = refl
not_busy (Some state) stamp o (Some ticket) kept there = absurd kept

pub idle_there : (slot : Option (Slot CipherState)) (o : Option Open) → BothFound IsSlot slot o → is_some (idle_value slot) ≡ true → (x : Open) → o ≡ Some x → is_busy x ≡ false
idle_there None None both there x e = cc
idle_there None (Some o) both there x e = absurd both
idle_there (Some slot) None both there x e = absurd both
idle_there (Some slot) (Some o) both there x e =
    let same : o ≡ x = cc in
    ap (λ (y : Open). is_busy y) (sym same) ∙ not_busy (idle_value (Some slot)) _ o o.ticket both.state there

-- ---- what the rules read

ended_same : (live other : ℕ → Bool) → ((id : ℕ) → live id ≡ other id) → (key : Option ℕ) → has_ended live key ≡ has_ended other key
ended_same live other same None = refl
ended_same live other same (Some id) = ap not (same id)

pub some_facts : (live other : ℕ → Bool) → ((id : ℕ) → live id ≡ other id) → (row : Row) (o : Option Open) (found : Option Row) (caller : Caller) (brought : Brought) → BothFound IsRow found o → found ≡ Some row
    → record { kind = brought.kind; own = row.client == caller.client; busy = row.busy; input = brought.input; signature = brought.signature; ended = has_ended live row.key; waiting = is_some row.challenge && not row.shown; plan = row.plan; aad = row.aad; text = row.text }
    ≡ facts_of o other caller brought
some_facts live other same row None None caller brought both e = cc
some_facts live other same row (Some o) None caller brought both e = cc
some_facts live other same row None (Some r) caller brought both e = absurd both
some_facts live other same row (Some o) (Some r) caller brought both e =
    let is : r ≡ row = cc in
    let row_is : IsRow row o = subst (λ x. IsRow x o) is both in
    rw (row_is.client, row_is.busy_is, row_is.plan, row_is.aad_is, row_is.text_is, row_is.challenge_is, row_is.shown_is, ended_same live other same row.key, row_is.key) refl

pub none_facts : (other : ℕ → Bool) (o : Option Open) (found : Option Row) (caller : Caller) (brought : Brought) → BothFound IsRow found o → found ≡ None
    → record { kind = brought.kind; own = false; busy = false; input = brought.input; signature = brought.signature; ended = false; waiting = false; plan = Rattle.tags.specs.declared.plan.Plan.TheVariants.Ctr; aad = 0; text = 0 }
    ≡ facts_of o other caller brought
none_facts other None None caller brought both e = refl
none_facts other (Some o) None caller brought both e = absurd both
none_facts other o (Some r) caller brought both e = cc

-- the facts of a step that brings a work
abbrev pub facts_at : Option Open → (ℕ → Bool) → Caller → Work → StepFacts
facts_at o live caller work = facts_of o live caller (brought_by work)

no_text : (text : List ℕ) → length text ≡ 0 → text ≡ []
no_text [] e = refl
no_text (x ∷ text) e = absurd (omega arith)

module _ (live : ℕ → Bool) (caller : Caller) where
  -- what the rules let through may come
  may_come : (o : Open) (work : Work) → Enters (facts_at (Some o) live caller work) → MayCome o.operation.plan o.text work
  may_come o (Aad input) enters = ((enters.aad refl).0, no_text o.text (enters.aad refl).1)
  may_come o (Text input) enters = tt
  may_come o (Last input signature) enters =
      ap (may_end o.operation.plan) (length-append o.text input) ∙ enters.whole refl

  pub may_grow : (work : Work) (row : Option Row) (o : Option Open) → BothFound IsRow row o
      → (facts_at o live caller work).own ≡ true → Enters (facts_at o live caller work) → MayGrow row work
  may_grow work None None same own enters = cc
  may_grow work None (Some o) same own enters = absurd same
  may_grow work (Some row) None same own enters = absurd same
  may_grow (Aad input) (Some row) (Some o) same own enters = omega (arith, same.text_is, enters.total)
  may_grow (Text input) (Some row) (Some o) same own enters = omega (arith, same.text_is, enters.total)
  may_grow (Last input signature) (Some row) (Some o) same own enters = omega (arith, same.text_is, enters.total)

  -- the room of a row is that of its operation
  pub room_of : (row : Row) (o : Open) (work : Work) (room : JobRoom) → IsRow row o → IsRoom room row.plan row.limited row.text work
      → IsRoom room o.operation.plan o.operation.limited (length o.text) work
  room_of row o work room same is_room = rw (same.plan, same.limited, same.text_is) at is_room

  pub can_work : (work : Work) (row : Option Row) (o : Option Open) (slot : Option (Slot CipherState)) (room : JobRoom) → BothFound IsRow row o → BothFound IsSlot slot o
      → (facts_at o live caller work).busy ≡ false → Enters (facts_at o live caller work) → IsRoomAt row work room → CanWork (idle_value slot) room
  can_work work None o slot room same kept idle enters is_room = absurd is_room
  can_work work (Some row) None slot room same kept idle enters is_room = absurd same
  can_work work (Some row) (Some o) None room same kept idle enters is_room = absurd kept
  can_work work (Some row) (Some o) (Some slot) room same kept idle enters is_room =
      let state = kept_state (idle_value (Some slot)) _ o o.ticket kept.state idle in
      subst (λ v. CanWork v room) (sym state.1) ∣ record {
        plan = o.operation.plan;
        limited = o.operation.limited;
        key = o.operation.material;
        nonce = o.operation.nonce;
        aad = o.aad;
        text = o.text;
        work = work;
        stands = state.2;
        fits = room_of row o work room same is_room;
        may = may_come o work enters;
      } ∣₁

  -- the job that goes out is the work on its operation
  pub job_on : (work : Work) (row : Option Row) (o : Option Open) (slot : Option (Slot CipherState)) (room : JobRoom) (job : Job) → BothFound IsRow row o → BothFound IsSlot slot o
      → (facts_at o live caller work).busy ≡ false → Enters (facts_at o live caller work) → IsRoomAt row work room
      → ((plan : Plan) (limited : Bool) (key nonce aad text : List ℕ) (work : Work) → GoesOn (idle_value slot) plan limited key nonce aad text → IsRoom room plan limited (length text) work → MayCome plan text work
      → JobFor job plan limited key nonce aad text work) → IsJobOn o work job
  job_on work None o slot room job same kept idle enters is_room is = absurd is_room
  job_on work (Some row) None slot room job same kept idle enters is_room is = absurd same
  job_on work (Some row) (Some o) None room job same kept idle enters is_room is = absurd kept
  job_on work (Some row) (Some o) (Some slot) room job same kept idle enters is_room is =
      let state = kept_state (idle_value (Some slot)) _ o o.ticket kept.state idle in
      is o.operation.plan o.operation.limited o.operation.material o.operation.nonce o.aad o.text work
      (subst (λ v. GoesOn v o.operation.plan o.operation.limited o.operation.material o.operation.nonce o.aad o.text) (sym state.1) state.2)
      (room_of row o work room same is_room) (may_come o work enters)

  -- it is not busy, where the facts say so
  pub facts_idle : (o : Option Open) (work : Work) → (facts_at o live caller work).busy ≡ false → (x : Open) → o ≡ Some x → is_busy x ≡ false
  facts_idle None work idle x e = cc
  facts_idle (Some o) work idle x e = let same : o ≡ x = cc in ap (λ (y : Open). is_busy y) (sym same) ∙ idle

  pub is_there : (o : Option Open) (brought : Brought) → (facts_of o live caller brought).own ≡ true → is_some o ≡ true
  is_there None brought own = cc
  is_there (Some o) brought own = refl

  pub is_idle : (o : Option Open) (brought : Brought) → (facts_of o live caller brought).busy ≡ false → (x : Open) → o ≡ Some x → is_busy x ≡ false
  is_idle None brought idle x e = cc
  is_idle (Some o) brought idle x e = let same : o ≡ x = cc in ap (λ (y : Open). is_busy y) (sym same) ∙ idle

pub MayGrow-prop : (row : Option Row) (work : Work) → IsProp (MayGrow row work)
MayGrow-prop None work = hlevel props
MayGrow-prop (Some row) work = le_prop

pub CanWork-prop : (state : Option CipherState) (room : JobRoom) → IsProp (CanWork state room)
CanWork-prop None room = hlevel props
CanWork-prop (Some state) room = ∥∥₁_prop

-- the enters by their works
pub enter_operation : (op : ℕ) (work : Work) → operation_of (entering op work) ≡ Some op
enter_operation op (Aad input) = refl
enter_operation op (Text input) = refl
enter_operation op (Last input signature) = refl

pub enter_change : (setup : Setup) (past : History) (caller : Caller) (op : ℕ) (work : Work) (ticket : ℕ)
    → operation_change setup past (event_by caller (entering op work)) [] (Done (record no_fields { ticket = Some ticket })) ≡ EntersOne op ticket
enter_change setup past caller op (Aad input) ticket = refl
enter_change setup past caller op (Text input) ticket = refl
enter_change setup past caller op (Last input signature) ticket = refl

pub enter_ticket : (caller : Caller) (op : ℕ) (work : Work) (ticket : ℕ)
    → ticket_change (event_by caller (entering op work)) (Done (record no_fields { ticket = Some ticket })) ≡ GoesOut ticket (record { op = op; work = work })
enter_ticket caller op (Aad input) ticket = refl
enter_ticket caller op (Text input) ticket = refl
enter_ticket caller op (Last input signature) ticket = refl

pub enter_answer : (setup : Setup) (past : History) (caller : Caller) (op : ℕ) (work : Work) (drawn : List ℕ)
    → answer_by_rules (entering op work) setup past caller drawn ≡ Rattle.rule_model.specs.Answer.entering setup past caller op work
enter_answer setup past caller op (Aad input) drawn = refl
enter_answer setup past caller op (Text input) drawn = refl
enter_answer setup past caller op (Last input signature) drawn = refl

enter_follows : (setup : Setup) (past : History) (caller : Caller) (op : ℕ) (work : Work) (reply : Reply) → IsTrue (is_ready past (entering op work)) → is_done reply ≡ false
    → reply ≡ Rattle.rule_model.specs.Answer.entering setup past (caller_of past (event_by caller (entering op work))) op work → MayFollow setup past (event_by caller (entering op work)) [] reply
enter_follows setup past caller op (Aad input) reply ready denied is = Answered (record { ready = ready; drew = refl; is_answer = is })
enter_follows setup past caller op (Text input) reply ready denied is = Answered (record { ready = ready; drew = refl; is_answer = is })
enter_follows setup past caller op (Last input signature) reply ready denied is = Answered (record { ready = ready; drew = refl; is_answer = is })

pub enter_clients : (caller : Caller) (op : ℕ) (work : Work) (reply : Reply) → client_change (event_by caller (entering op work)) reply ≡ NoClients
enter_clients caller op (Aad input) (Done fields) = refl
enter_clients caller op (Text input) (Done fields) = refl
enter_clients caller op (Last input signature) (Done fields) = refl
enter_clients caller op work (Broken rule code) = refl
enter_clients caller op work (Rattle.rule_model.specs.declared.reply.Reply.TheVariants.Stopped code) = refl

pub enter_connects : (op : ℕ) (work : Work) → is_connect (entering op work) ≡ false
enter_connects op (Aad input) = refl
enter_connects op (Text input) = refl
enter_connects op (Last input signature) = refl

pub enter_begins : (op : ℕ) (work : Work) → is_begin (entering op work) ≡ false
enter_begins op (Aad input) = refl
enter_begins op (Text input) = refl
enter_begins op (Last input signature) = refl

pub enter_enters : (op : ℕ) (work : Work) → is_enter (entering op work) ≡ true
enter_enters op (Aad input) = refl
enter_enters op (Text input) = refl
enter_enters op (Last input signature) = refl

pub enter_boot : (setup : Setup) (past : History) (caller : Caller) (op : ℕ) (work : Work) (reply : Reply) → boot_change setup past (event_by caller (entering op work)) reply ≡ NoBoot
enter_boot setup past caller op (Aad input) (Done fields) = refl
enter_boot setup past caller op (Text input) (Done fields) = refl
enter_boot setup past caller op (Last input signature) (Done fields) = refl
enter_boot setup past caller op work (Broken rule code) = refl
enter_boot setup past caller op work (Rattle.rule_model.specs.declared.reply.Reply.TheVariants.Stopped code) = refl

-- nothing is found under a number where nothing was, and under that of the one that is gone
pub none_without : (op : ℕ) (old new : SlotTable CipherState) → FindsWithout old new op → (number : ℕ) → held old number ≡ None → held new number ≡ None
none_without op old new finds number none = finds number ∙ either (number == op) where
  either : (b : Bool) → (if b then None else held old number) ≡ None
  either true = refl
  either false = none

module _ (setup : Setup) (past : History) (event : Event) (drawn : List ℕ) (reply : Reply) where
  -- An entry that closes one operation, and touches nothing else but the keys and grants, which are these.
  pub closed_tables : (op : ℕ) (old : Tables) (keys : KeyDatabase) (new : Tables) → TablesStand setup old past → ClosesOne op (record old { keys = keys }) new → KeysStand setup new (Acted event drawn reply ∷ past)
      → operation_change setup past event drawn reply ≡ Closes op
      → client_change event reply ≡ NoClients → ticket_change event reply ≡ NoTickets → admits is_connect (Acted event drawn reply) ≡ false → admits is_begin (Acted event drawn reply) ≡ false
      → admits is_enter (Acted event drawn reply) ≡ false → boot_change setup past event reply ≡ NoBoot → ((x : Open) → operation_at setup past op ≡ Some x → is_busy x ≡ false)
      → TablesStand setup new (Acted event drawn reply ∷ past) × Stays setup past (Acted event drawn reply ∷ past)
  closed_tables op old keys new stands closed keys_after is no_client no_ticket no_connect no_begin no_enter no_boot idle =
      let stays : Stays setup past (Acted event drawn reply ∷ past) = stays_by setup past event drawn reply (Closes op) is stands.tickets.busy
      (λ ticket entered o after named busy found. without_keeps op (open_of setup past) entered.op o (is_other op entered.op (open_of setup past) o idle found busy) found) in (
        record {
          clients = clients_stay setup past event drawn reply old.clients new.clients stands.clients closed.clients no_client no_connect;
          keys = keys_after;
          operations = rows_after setup past event drawn reply (Closes op) new.operations is
              (rw closed.rows.rows (alike_filter IsRow (λ row. not (has_row op row)) (λ o. not (has_number op o)) (λ row o r. ap not (row_named op row o r)) (rows_in old.operations) (open_of setup past) stands.operations.rows))
              (closed.rows.given ∙ stands.operations.given ∙ sym (uncounted is_begin past event drawn reply no_begin)) (closed.rows.most ∙ stands.operations.most);
          slots = slots_after setup past event drawn reply (Closes op) old.slots new.slots stands.slots is
              (rw closed.slots.operations (alike_filter IsSlot (λ slot. not (table.has_number op slot)) (λ o. not (has_number op o)) (λ slot o r. ap not (slot_named op slot o r)) (operations_of old.slots) (open_of setup past) stands.slots.slots_are))
              closed.slots.capacity
              (λ number l. closed.fresh number (stands.slots.fresh number (let grows = count_grows is_begin past event drawn reply in omega (arith, l, grows))))
              (λ next l. closed.later next (stands.slots.later next (omega (arith, l))));
          tickets = tickets_stay setup past event drawn reply old.tickets new.tickets stands.tickets closed.tickets no_ticket no_enter stays;
          boot = boot_stays setup past event drawn reply old.boot new.boot stands.boot closed.boot no_boot;
        },
        stays,
      )

module _ (setup : Setup) (past : History) (tables : Tables) (caller : Caller) (op : ℕ) (stands : TablesStand setup tables past) (is_caller : IsCaller tables caller) where
  -- a denial, which closes the operation where its rule ends it
  denied : (act : Act) (new : Tables) (rule : Rule) (code : Code) → operation_of act ≡ Some op → client_change (event_by caller act) (Broken rule code) ≡ NoClients
      → (step_table.ends_operation rule ≡ true → (x : Open) → operation_at setup past op ≡ Some x → is_busy x ≡ false) → Denies rule op tables new
      → TablesStand setup new (Acted (event_by caller act) [] (Broken rule code) ∷ past) × Stays setup past (Acted (event_by caller act) [] (Broken rule code) ∷ past)
  denied act new rule code names no_client idle = by_rule (step_table.ends_operation rule) refl where
    by_rule : (b : Bool) → step_table.ends_operation rule ≡ b → ClosesIf b op tables new
        → TablesStand setup new (Acted (event_by caller act) [] (Broken rule code) ∷ past) × Stays setup past (Acted (event_by caller act) [] (Broken rule code) ∷ past)
    by_rule true e closed =
        closed_tables setup past (event_by caller act) [] (Broken rule code) op tables tables.keys new stands closed
        (keys_stay setup past (Acted (event_by caller act) [] (Broken rule code) ∷ past) tables new stands.keys closed.keys (denied_stored setup past (event_by caller act) [] (Broken rule code) refl refl))
        (ap (λ b. if b then closes (operation_of act) else SameOperations) e ∙ ap closes names) no_client refl refl refl refl refl (idle e)
    by_rule false e same =
        let none : operation_change setup past (event_by caller act) [] (Broken rule code) ≡ SameOperations = ap (λ b. if b then closes (operation_of act) else SameOperations) e in (
          subst (λ t. TablesStand setup t (Acted (event_by caller act) [] (Broken rule code) ∷ past)) (sym same)
              (denied_tables setup past (event_by caller act) [] (Broken rule code) tables tables stands (same_tables tables) refl refl none refl),
          stays_same setup past (event_by caller act) [] (Broken rule code) none,
        )

  same_caller : (act : Act) → caller ≡ caller_of past (event_by caller act)
  same_caller act = called past tables caller act stands.clients is_caller

  -- an enter that a rule denies
  pub refused : (work : Work) (new : Tables) (rule : Rule) (code : Code) → step_table.answer (step_facts setup past caller op (brought_by work)) ≡ Err (rule, code)
      → (step_table.ends_operation rule ≡ true → IsOwnAndIdle (step_facts setup past caller op (brought_by work))) → Denies rule op tables new
      → AnswersAfter setup past new (event_by caller (entering op work)) (record { reply = Broken rule code; job = None; drawn = [] })
  refused work new rule code e ends closed =
      let tables_after = denied (entering op work) new rule code (enter_operation op work) (enter_clients caller op work (Broken rule code))
      (λ r. is_idle (is_live setup past) caller (operation_at setup past op) (brought_by work) (ends r).idle) closed in
      record {
        follows = λ ready. enter_follows setup past caller op work (Broken rule code) ready refl
            (sym (ap (λ found. broken_or found (Done (record no_fields { ticket = Some (next_ticket past) }))) e)
            ∙ ap (λ c. Rattle.rule_model.specs.Answer.entering setup past c op work) (same_caller (entering op work)));
        stands = tables_after.0;
        has_job = refl;
        stays = tables_after.1;
      }

  -- an abort that a rule denies, and one that is let through
  pub abort_refused : (new : Tables) (rule : Rule) (code : Code) → step_table.answer (step_facts setup past caller op brought_by_abort) ≡ Err (rule, code)
      → (step_table.ends_operation rule ≡ true → IsOwnAndIdle (step_facts setup past caller op brought_by_abort)) → Denies rule op tables new
      → AnswersAfter setup past new (event_by caller (Abort op)) (record { reply = Broken rule code; job = None; drawn = [] })
  abort_refused new rule code e ends closed =
      let tables_after = denied (Abort op) new rule code refl refl (λ r. is_idle (is_live setup past) caller (operation_at setup past op) brought_by_abort (ends r).idle) closed in
      record {
        follows = λ ready. Answered (record {
          ready = ready;
          drew = refl;
          is_answer = sym (ap (λ found. broken_or found (Done no_fields)) e) ∙ ap (λ c. answer_by_rules (Abort op) setup past c []) (same_caller (Abort op));
        });
        stands = tables_after.0;
        has_job = refl;
        stays = tables_after.1;
      }

  pub aborted : (new : Tables) → step_table.answer (step_facts setup past caller op brought_by_abort) ≡ Ok tt → (step_facts setup past caller op brought_by_abort).busy ≡ false
      → ClosesOne op tables new → AnswersAfter setup past new (event_by caller (Abort op)) (record { reply = Done no_fields; job = None; drawn = [] })
  aborted new e idle closed =
      let tables_after = closed_tables setup past (event_by caller (Abort op)) [] (Done no_fields) op tables tables.keys new stands closed
      (keys_stay setup past (Acted (event_by caller (Abort op)) [] (Done no_fields) ∷ past) tables new stands.keys closed.keys (quiet_stored setup past (event_by caller (Abort op)) [] (Done no_fields) refl refl))
      refl refl refl refl refl refl refl
      (is_idle (is_live setup past) caller (operation_at setup past op) brought_by_abort idle) in
      record {
        follows = λ ready. Answered (record {
          ready = ready;
          drew = refl;
          is_answer = sym (ap (λ found. broken_or found (Done no_fields)) e) ∙ ap (λ c. answer_by_rules (Abort op) setup past c []) (same_caller (Abort op));
        });
        stands = tables_after.0;
        has_job = refl;
        stays = tables_after.1;
      }

-- a step whose facts say that it is of the client's own idle operation finds its state
pub idle_facts : (setup : Setup) (past : History) (tables : Tables) (caller : Caller) (op : ℕ) (brought : Brought) (facts : StepFacts) → TablesStand setup tables past
    → facts ≡ step_facts setup past caller op brought → facts.own ≡ true → facts.busy ≡ false → is_some (state_at tables op) ≡ true
idle_facts setup past tables caller op brought facts stands is own idle =
    idle_state (held tables.slots op) (operation_at setup past op) (slot_found setup past tables op stands)
    (is_idle (is_live setup past) caller (operation_at setup past op) brought (ap (λ (f : StepFacts). f.busy) (sym is) ∙ idle))
    (is_there (is_live setup past) caller (operation_at setup past op) brought (ap (λ (f : StepFacts). f.own) (sym is) ∙ own))

pub ends_idle : (setup : Setup) (past : History) (tables : Tables) (caller : Caller) (op : ℕ) (brought : Brought) (facts : StepFacts) → TablesStand setup tables past
    → facts ≡ step_facts setup past caller op brought → IsOwnAndIdle facts → is_some (state_at tables op) ≡ true
ends_idle setup past tables caller op brought facts stands is both = idle_facts setup past tables caller op brought facts stands is both.own both.idle

-- the steps that enter are let through with lengths that the operation has room for
pub step_enters : (setup : Setup) (past : History) (caller : Caller) (op : ℕ) (work : Work) (facts : StepFacts) → facts ≡ step_facts setup past caller op (brought_by work)
    → (Rattle.step_rules.specs.Rules.is_enter facts.kind ≡ true → Enters facts) → Enters (step_facts setup past caller op (brought_by work))
step_enters setup past caller op work facts is enters = subst Enters is (enters (ap (λ (f : StepFacts). Rattle.step_rules.specs.Rules.is_enter f.kind) is ∙ by_work (operation_at setup past op) work)) where
  by_work : (o : Option Open) (work : Work) → Rattle.step_rules.specs.Rules.is_enter (facts_of o (is_live setup past) caller (brought_by work)).kind ≡ true
  by_work None (Aad input) = refl
  by_work None (Text input) = refl
  by_work None (Last input signature) = refl
  by_work (Some o) (Aad input) = refl
  by_work (Some o) (Text input) = refl
  by_work (Some o) (Last input signature) = refl
