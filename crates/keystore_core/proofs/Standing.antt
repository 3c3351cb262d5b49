-- The parts of the relation between the tables and a history, each after an entry that leaves it as it is, or makes a change.
use Rattle.std.proofs.Common.{◌≡◌, ℕ, ◌+◌, ◌<◌, ◌≤◌, ◌-◌, ◌^◌, Bool, true, false, IsTrue, ◌&&◌, not, if◌then◌else◌, List, [], ◌∷◌, length, Option, Some, None, Result, Ok, Err, refl, sym, ap, ◌∙◌, subst, arith}
use Rattle.std.specs.Prelude.{IfSome}
use Rattle.std.proofs.Math.Bridge.{le_prop}
use Rattle.std.proofs.Props.{props}
use mathlib.Core.Logic.{∥∥₁_elim, ∥∥₁_map}
use Rattle.tags.specs.declared.bytes.NoMemory.{NoMemory}
use Rattle.tags.specs.declared.code.Code.TheVariants.{MemoryAllocationFailed, SystemError}
use Rattle.tags.specs.declared.descriptor.Descriptor.{Descriptor}
use Rattle.cipher_ops.specs.declared.job.Done.{Done as JobDone}
use Rattle.cipher_ops.specs.declared.room.Work.{Work}
use Rattle.cipher_ops.specs.declared.state.CipherState.{CipherState}
use Rattle.operation_slots.specs.Table.{IsLater, SlotTable, capacity_of, held, operations_of}
use Rattle.rule_model.specs.Kept.{open_of, operation_at, operation_change}
use Rattle.rule_model.specs.declared.entry.Entry.TheVariants.{Acted}
use Rattle.rule_model.specs.declared.event.Act.{Act}
use Rattle.rule_model.specs.declared.event.Act.TheVariants.{CreateOperation, EnterFinish, Leave}
use Rattle.rule_model.specs.declared.event.Event.{Event}
use Rattle.rule_model.specs.declared.facts.Caller.{Caller}
use Rattle.rule_model.specs.declared.reply.Reply.{Reply}
use Rattle.rule_model.specs.declared.reply.Reply.TheVariants.{Done, Broken, Stopped}
use Rattle.rule_model.specs.Acts.{fixed_for, is_begin, is_connect, is_enter, is_leave, is_restart, left_by}
use Rattle.rule_model.specs.declared.entry_change.BootChange.TheVariants.{SameBoot as NoBoot}
use Rattle.rule_model.specs.Boot.{boot_change}
use Rattle.rule_model.specs.declared.entry_change.ClientChange.TheVariants.{SameClients as NoClients}
use Rattle.rule_model.specs.Clients.{caller_of, client_change, uid_after, uid_of}
use Rattle.rule_model.specs.Entries.{History, admits, count_of, is_done}
use Rattle.rule_model.specs.Jobs.{HasDone, Stays, but_shown}
use Rattle.rule_model.specs.declared.operation.Open.{Open}
use Rattle.rule_model.specs.declared.entry_change.OperationChange.{OperationChange}
use Rattle.rule_model.specs.declared.entry_change.OperationChange.TheVariants.{SameOperations}
use Rattle.rule_model.specs.Operations.{open_after, step_of, stopped_operation}
use Rattle.rule_model.specs.Settling.{is_faulted, is_unsettled}
use Rattle.rule_model.specs.Setup.{Setup}
use Rattle.rule_model.specs.declared.operation.Entered.{Entered}
use Rattle.rule_model.specs.declared.entry_change.TicketChange.TheVariants.{SameTickets as NoTickets}
use Rattle.rule_model.specs.Tickets.{stopped_ticket, ticket_after, ticket_at, ticket_change}
use Rattle.rule_model.proofs.Boot.{begins_few}
use Rattle.rule_model.proofs.Counting.{count_few}
use Rattle.rule_model.proofs.Kept.{same_stored, unfaulted_stored}
use Rattle.keystore_core.specs.declared.answered.Answered.{Answered}
use Rattle.live_tables.specs.declared.begins.Begins.{Begins}
use Rattle.live_tables.specs.declared.clients.Clients.{Clients}
use Rattle.key_database.specs.declared.database.KeyDatabase.{KeyDatabase}
use Rattle.key_database.specs.Stands.{SameStore}
use Rattle.live_tables.specs.declared.operations.Operations.{Operations}
use Rattle.keystore_core.specs.declared.tables.Tables.{Tables}
use Rattle.live_tables.specs.declared.tickets.Tickets.{Tickets}
use Rattle.live_tables.specs.Alike.{Alike}
use Rattle.live_tables.specs.Begins.{SameBegins, begins_in}
use Rattle.live_tables.specs.Clients.{ClientsStand, SameClients, clients_given}
use Rattle.live_tables.specs.Operations.{IsRow, OperationsStand, SameRows, most_operations, operations_given, rows_in}
use Rattle.keystore_core.specs.Slots.{IsSlot, SlotsStand}
use Rattle.keystore_core.specs.Tables.{IsAt, IsCaller, IsTables, SameTables, ServesAfter, ServesAt, StandsAt, TablesStand, event_by}
use Rattle.live_tables.specs.Tickets.{BusyWith, SameOut, SameTickets, TicketsStand, out_in, tickets_given}
use Rattle.keystore_core.proofs.Booted.{boot_stays, boot_still, same_boot}
use Rattle.keystore_core.proofs.KeyTable.{keys_stay, same_keys, same_keys_as}
use Rattle.keystore_core.proofs.Opened.{AreBusy, stays_same}

pub same_tables : (tables : Tables) → SameTables tables tables
same_tables tables = record {
  clients = record { uids = λ client. refl; given = refl };
  keys = same_keys tables;
  operations = record { rows = refl; given = refl; most = refl };
  slots = refl;
  tickets = record { outs = λ ticket. refl; given = refl };
  boot = same_boot tables.boot;
}

-- an entry that no count looks at
pub uncounted : (test : Act → Bool) (past : History) (event : Event) (drawn : List ℕ) (reply : Reply) → admits test (Acted event drawn reply) ≡ false
    → count_of test (Acted event drawn reply ∷ past) ≡ count_of test past
uncounted test past event drawn reply e = ap (λ b. if b then count_of test past + 1 else count_of test past) e

-- a count never falls
one_more : (b : Bool) (n : ℕ) → n ≤ (if b then n + 1 else n)
one_more true n = omega arith
one_more false n = omega arith

pub count_grows : (test : Act → Bool) (past : History) (event : Event) (drawn : List ℕ) (reply : Reply) → count_of test past ≤ count_of test (Acted event drawn reply ∷ past)
count_grows test past event drawn reply = one_more (admits test (Acted event drawn reply)) (count_of test past)

and_false : (b : Bool) → (b && false) ≡ false
and_false true = refl
and_false false = refl

pub quiet : (test : Act → Bool) (past : History) (event : Event) (drawn : List ℕ) (reply : Reply) → test event.act ≡ false → admits test (Acted event drawn reply) ≡ false
quiet test past event drawn reply e = ap (λ b. is_done reply && b) e ∙ and_false (is_done reply)

-- whether an operation is busy with a work, whether or not a token was shown to it
busy_shown : (ticket : ℕ) (work : Work) (found : Option Open) → BusyWith ticket work found → BusyWith ticket work (but_shown found)
busy_shown ticket work None busy = absurd busy
busy_shown ticket work (Some o) busy = record { busy = busy.busy; within = busy.within }

shown_busy : (ticket : ℕ) (work : Work) (found : Option Open) → BusyWith ticket work (but_shown found) → BusyWith ticket work found
shown_busy ticket work None busy = absurd busy
shown_busy ticket work (Some o) busy = record { busy = busy.busy; within = busy.within }

module _ (setup : Setup) (past : History) (event : Event) (drawn : List ℕ) (reply : Reply) where
  pub clients_stay : (old new : Clients) → ClientsStand old past → SameClients old new → client_change event reply ≡ NoClients
      → admits is_connect (Acted event drawn reply) ≡ false → ClientsStand new (Acted event drawn reply ∷ past)
  clients_stay old new stands same none uncounts = record {
    uids = λ client. same.uids client ∙ stands.uids client ∙ sym (ap (λ change. uid_after change client (uid_of past client)) none);
    given = same.given ∙ stands.given ∙ sym (uncounted is_connect past event drawn reply uncounts);
  }

  -- the rows after a change of the operations
  pub rows_after : (change : OperationChange) (new : Operations) → operation_change setup past event drawn reply ≡ change
      → Alike IsRow (rows_in new) (open_after (step_of past) change (open_of setup past)) → operations_given new ≡ count_of is_begin (Acted event drawn reply ∷ past) → most_operations new ≡ setup.slots
      → OperationsStand setup new (Acted event drawn reply ∷ past)
  rows_after change new is alike given most = record {
    rows = subst (λ c. Alike IsRow (rows_in new) (open_after (step_of past) c (open_of setup past))) (sym is) alike;
    given = given;
    most = most;
  }

  pub operations_stay : (old new : Operations) → OperationsStand setup old past → SameRows old new → operation_change setup past event drawn reply ≡ SameOperations
      → admits is_begin (Acted event drawn reply) ≡ false → OperationsStand setup new (Acted event drawn reply ∷ past)
  operations_stay old new stands same none uncounts =
      rows_after SameOperations new none (rw same.rows stands.rows) (same.given ∙ stands.given ∙ sym (uncounted is_begin past event drawn reply uncounts)) (same.most ∙ stands.most)

  -- the slots after a change of the operations
  pub slots_after : (change : OperationChange) (old new : SlotTable CipherState) → SlotsStand setup old past → operation_change setup past event drawn reply ≡ change
      → Alike IsSlot (operations_of new) (open_after (step_of past) change (open_of setup past)) → capacity_of new ≡ capacity_of old
      → ((number : ℕ) → count_of is_begin (Acted event drawn reply ∷ past) < number → held new number ≡ None) → ((next : ℕ) → length past + 1 < next → IsLater new next)
      → SlotsStand setup new (Acted event drawn reply ∷ past)
  slots_after change old new stands is alike capacity fresh later = record {
    slots_are = subst (λ c. Alike IsSlot (operations_of new) (open_after (step_of past) c (open_of setup past))) (sym is) alike;
    capacity_is = capacity ∙ stands.capacity_is;
    fresh = fresh;
    later = λ next l. later next (omega (arith, l));
  }

  pub slots_stay : (old new : SlotTable CipherState) → SlotsStand setup old past → new ≡ old → operation_change setup past event drawn reply ≡ SameOperations
      → SlotsStand setup new (Acted event drawn reply ∷ past)
  slots_stay old new stands same none =
      slots_after SameOperations old new stands none (rw same stands.slots_are) (ap capacity_of same)
      (λ number l. rw same (stands.fresh number (let grows = count_grows is_begin past event drawn reply in omega (arith, l, grows))))
      (λ next l. rw same (stands.later next (omega (arith, l))))

  -- an operation that was busy with a work and stays is so later
  pub busy_after : Stays setup past (Acted event drawn reply ∷ past) → AreBusy setup past event drawn reply → (ticket : ℕ) (entered : Entered) → ticket_at past ticket ≡ Some entered
      → ticket_at (Acted event drawn reply ∷ past) ticket ≡ Some entered → BusyWith ticket entered.work (operation_at setup (Acted event drawn reply ∷ past) entered.op)
  busy_after stays busy ticket entered before after =
      shown_busy ticket entered.work (operation_at setup (Acted event drawn reply ∷ past) entered.op)
      (subst (BusyWith ticket entered.work) (sym (stays ticket entered before after)) (busy_shown ticket entered.work (operation_at setup past entered.op) (busy ticket entered before)))

  pub tickets_stay : (old new : Tickets) → TicketsStand setup old past → SameTickets old new → ticket_change event reply ≡ NoTickets
      → admits is_enter (Acted event drawn reply) ≡ false → Stays setup past (Acted event drawn reply ∷ past) → TicketsStand setup new (Acted event drawn reply ∷ past)
  tickets_stay old new stands same none uncounts stays = record {
    outs = λ ticket. subst (λ c. SameOut (out_in new ticket) (ticket_after c ticket (ticket_at past ticket))) (sym none)
        (subst (λ out. SameOut out (ticket_at past ticket)) (sym (same.outs ticket)) (stands.outs ticket));
    given = same.given ∙ stands.given ∙ sym (uncounted is_enter past event drawn reply uncounts);
    busy = λ ticket entered after.
        let before : ticket_at past ticket ≡ Some entered = sym (ap (λ c. ticket_after c ticket (ticket_at past ticket)) none) ∙ after in
        busy_after stays stands.busy ticket entered before after;
  }

  not_admitted : is_done reply ≡ false → (test : Act → Bool) → admits test (Acted event drawn reply) ≡ false
  not_admitted denied test = ap (λ b. b && test event.act) denied

  denied_clients : is_done reply ≡ false → client_change event reply ≡ NoClients
  denied_clients denied = by_reply reply denied where
    by_reply : (r : Reply) → is_done r ≡ false → client_change event r ≡ NoClients
    by_reply (Done fields) e = cc
    by_reply (Broken rule code) e = refl
    by_reply (Stopped code) e = refl

  denied_boot : is_done reply ≡ false → boot_change setup past event reply ≡ NoBoot
  denied_boot denied = by_reply reply denied where
    by_reply : (r : Reply) → is_done r ≡ false → boot_change setup past event r ≡ NoBoot
    by_reply (Done fields) e = cc
    by_reply (Broken rule code) e = refl
    by_reply (Stopped code) e = refl

  -- an event that is not admitted, and changes no operation and no ticket
  pub denied_tables : (old new : Tables) → TablesStand setup old past → SameTables old new → is_done reply ≡ false → is_faulted (is_unsettled past) event.act reply ≡ false
      → operation_change setup past event drawn reply ≡ SameOperations → ticket_change event reply ≡ NoTickets → TablesStand setup new (Acted event drawn reply ∷ past)
  denied_tables old new stands same denied no_fault none no_ticket = record {
    clients = clients_stay old.clients new.clients stands.clients same.clients (denied_clients denied) (not_admitted denied is_connect);
    keys = keys_stay setup past (Acted event drawn reply ∷ past) old new stands.keys same.keys (unfaulted_stored setup past event drawn reply denied no_fault);
    operations = operations_stay old.operations new.operations stands.operations same.operations none (not_admitted denied is_begin);
    slots = slots_stay old.slots new.slots stands.slots same.slots none;
    tickets = tickets_stay old.tickets new.tickets stands.tickets same.tickets no_ticket (not_admitted denied is_enter) (stays_same setup past event drawn reply none);
    boot = boot_stays setup past event drawn reply old.boot new.boot stands.boot same.boot (denied_boot denied);
  }

-- tables that answer as others do stand for what those stood for
pub still : (setup : Setup) (past : History) (old new : Tables) → TablesStand setup old past → SameTables old new → TablesStand setup new past
still setup past old new stands same = record {
  clients = record {
    uids = λ client. same.clients.uids client ∙ stands.clients.uids client;
    given = same.clients.given ∙ stands.clients.given;
  };
  keys = keys_stay setup past past old new stands.keys same.keys (same_stored setup past);
  operations = record { rows = rw same.operations.rows stands.operations.rows; given = same.operations.given ∙ stands.operations.given; most = same.operations.most ∙ stands.operations.most };
  slots = rw same.slots stands.slots;
  tickets = record {
    outs = λ ticket. subst (λ out. SameOut out (ticket_at past ticket)) (sym (same.tickets.outs ticket)) (stands.tickets.outs ticket);
    given = same.tickets.given ∙ stands.tickets.given;
    busy = stands.tickets.busy;
  };
  boot = boot_still setup past old.boot new.boot stands.boot same.boot;
}

-- who makes a call, by the history
pub called : (past : History) (tables : Tables) (caller : Caller) (act : Act) → ClientsStand tables.clients past → IsCaller tables caller
    → caller ≡ caller_of past (event_by caller act)
called past tables caller act stands is = ap (λ (uid : Option ℕ). record { reading = caller.reading; client = caller.client; uid = uid }) (is ∙ stands.uids caller.client)

-- the numbers that were given are few
pub few_clients : (tables : Tables) → ∥ IsTables tables (2 ^ 63 - 1) ∥₁ → clients_given tables.clients < 2 ^ 63
few_clients tables is = ∥∥₁_elim is le_prop (λ t. omega (arith, t.stands.clients.given, count_few is_connect t.past, t.few))

pub few_operations : (tables : Tables) → ∥ IsTables tables (2 ^ 63 - 1) ∥₁ → operations_given tables.operations < 2 ^ 63
few_operations tables is = ∥∥₁_elim is le_prop (λ t. omega (arith, t.stands.operations.given, count_few is_begin t.past, t.few))

pub few_begins : (tables : Tables) (key : ℕ) → ∥ IsTables tables (2 ^ 63 - 1) ∥₁ → begins_in tables.boot.begins key < 2 ^ 63
few_begins tables key is = ∥∥₁_elim is le_prop (λ t. omega (arith, t.stands.boot.begins key, begins_few t.setup t.past key, t.few))

-- a begin on a key, stored or not, is counted in a number
pub few_counted : (tables : Tables) (new : Begins) (id : Option ℕ) → SameBegins tables.boot.begins new → ∥ IsTables tables (2 ^ 63 - 1) ∥₁ → IfSome id (λ key. begins_in new key < 2 ^ 63)
few_counted tables new None same is = tt
few_counted tables new (Some id) same is = omega (arith, same id, few_begins tables id is)

pub few_tickets : (tables : Tables) → ∥ IsTables tables (2 ^ 63 - 1) ∥₁ → tickets_given tables.tickets < 2 ^ 63
few_tickets tables is = ∥∥₁_elim is le_prop (λ t. omega (arith, t.stands.tickets.given, count_few is_enter t.past, t.few))

-- tables at a step are tables of few entries
pub at_few : (tables : Tables) (step : ℕ) (act : Act) (back : Option JobDone) → step ≤ 2 ^ 63 → ∥ IsAt tables step act back ∥₁ → ∥ IsTables tables (2 ^ 63 - 1) ∥₁
at_few tables step act back few at = ∥∥₁_map at (λ t. record {
  setup = t.setup;
  past = t.past;
  stands = t.stands.tables_stand;
  legal = t.legal;
  few = omega (arith, t.stands.step_is, few);
})

pub IsLater-prop : (slots : SlotTable CipherState) (next : ℕ) → IsProp (IsLater slots next)
IsLater-prop slots next = hlevel props

-- the stamps of the slots are of steps before this one
pub at_later : (tables : Tables) (step : ℕ) (act : Act) (back : Option JobDone) → ∥ IsAt tables step act back ∥₁ → IsLater tables.slots step
at_later tables step act back at = ∥∥₁_elim at (IsLater-prop tables.slots step) (λ t. t.stands.tables_stand.slots.later step (omega (arith, t.stands.step_is)))

-- tables in which one part is another that answers the same
pub same_but_keys : (tables : Tables) (new : KeyDatabase) → SameStore tables.keys new → SameTables tables (record tables { keys = new })
same_but_keys tables new same = record {
  clients = record { uids = λ client. refl; given = refl };
  keys = record { device_is = refl; policy_is = refl; store_is = same };
  operations = record { rows = refl; given = refl; most = refl };
  slots = refl;
  tickets = record { outs = λ ticket. refl; given = refl };
  boot = same_boot tables.boot;
}

-- the tables with room for a begin more on a key
pub same_but_begun : (tables : Tables) (begins : Begins) → SameBegins tables.boot.begins begins → SameTables tables (record tables { boot = record tables.boot { begins = begins } })
same_but_begun tables begins same_begins = record {
  clients = record { uids = λ client. refl; given = refl };
  keys = same_keys_as tables (record tables { boot = record tables.boot { begins = begins } }) refl refl refl;
  operations = record { rows = refl; given = refl; most = refl };
  slots = refl;
  tickets = record { outs = λ ticket. refl; given = refl };
  boot = record { device = refl; tokens = record { tokens = refl; key = refl }; begins = same_begins };
}

pub same_but_tickets : (tables : Tables) (tickets : Tickets) → SameTickets tables.tickets tickets → SameTables tables (record tables { tickets = tickets })
same_but_tickets tables tickets same = record {
  clients = record { uids = λ client. refl; given = refl };
  keys = same_keys_as tables (record tables { tickets = tickets }) refl refl refl;
  operations = record { rows = refl; given = refl; most = refl };
  slots = refl;
  tickets = same;
  boot = same_boot tables.boot;
}

-- what serves after every history serves at a step
pub at_any : (old new : Tables) (event : Event) (result : Result Answered NoMemory) (step : ℕ) (back : Option JobDone) → ServesAfter old new event result → ServesAt step back old new event result
at_any old new event (Ok answered) step back serves = λ setup past at. serves setup past at.tables_stand
at_any old new event (Err fault) step back serves = serves

-- a begin looks at no job
-- an act that gives no ticket back is no leave, and one that gives this one back is its leave
pub no_leave : (act : Act) → left_by act ≡ None → is_leave act ≡ false
no_leave (Leave ticket) e = cc
no_leave _ e = refl

pub leave_is : (act : Act) (ticket : ℕ) → left_by act ≡ Some ticket → act ≡ Leave ticket
leave_is (Leave own) ticket e = let same : own ≡ ticket = cc in ap (λ n. Leave n) same
leave_is _ ticket e = cc

-- an act other than a leave looks at nothing that came back
done_none : (setup : Setup) (past : History) (act : Act) → is_leave act ≡ false → HasDone setup past act None
done_none setup past (Leave ticket) e = cc
done_none setup past _ e = tt

pub at_none : (tables : Tables) (step : ℕ) (act : Act) (back : Option JobDone) → is_leave act ≡ false → ∥ IsAt tables step act back ∥₁ → ∥ IsAt tables step act None ∥₁
at_none tables step act back other at = ∥∥₁_map at (λ t. record {
  setup = t.setup;
  past = t.past;
  stands = record { tables_stand = t.stands.tables_stand; step_is = t.stands.step_is; done_is = done_none t.setup t.past act other };
  legal = t.legal;
})

pub stands_none : (setup : Setup) (past : History) (tables : Tables) (step : ℕ) (act : Act) (back : Option JobDone) → is_leave act ≡ false → StandsAt setup tables past step act back → StandsAt setup tables past step act None
stands_none setup past tables step act back other at = record { tables_stand = at.tables_stand; step_is = at.step_is; done_is = done_none setup past act other }

pub at_begin : (tables : Tables) (step : ℕ) (act : Act) (back : Option JobDone) (key : Descriptor) (params : List ℕ) (forced : Bool) → ∥ IsAt tables step act back ∥₁ → ∥ IsAt tables step (CreateOperation key params forced) None ∥₁
at_begin tables step act back key params forced at = ∥∥₁_map at (λ t. record {
  setup = t.setup;
  past = t.past;
  stands = record { tables_stand = t.stands.tables_stand; step_is = t.stands.step_is; done_is = tt };
  legal = t.legal;
})

-- an act that is not made since an earlier change could not be settled: it settles first, and so it is no leave
settles_first : (act : Act) (past : History) → (fixed_for act).settles ≡ true → (stopped_operation false act past ≡ SameOperations) × (stopped_ticket act ≡ NoTickets)
settles_first (Leave ticket) past settles = cc
settles_first (EnterFinish op input signature) past settles = (refl, refl)
settles_first _ past settles = (refl, refl)

pub not_made : (setup : Setup) (past : History) (old new : Tables) (event : Event) → TablesStand setup old past → SameTables old new → is_unsettled past ≡ true → (fixed_for event.act).settles ≡ true
    → TablesStand setup new (Acted event [] (Stopped SystemError) ∷ past) × Stays setup past (Acted event [] (Stopped SystemError) ∷ past)
not_made setup past old new event stands same waiting settles =
    let none = settles_first event.act past settles in
    let unfaulted : is_faulted (is_unsettled past) event.act (Stopped SystemError) ≡ false = rw waiting (no_more (is_restart event.act)) in
    let operations : operation_change setup past event [] (Stopped SystemError) ≡ SameOperations = ap (λ faulted. stopped_operation faulted event.act past) unfaulted ∙ none.0 in
    (denied_tables setup past event [] (Stopped SystemError) old new stands same refl unfaulted operations none.1, stays_same setup past event [] (Stopped SystemError) operations) where
      no_more : (restarts : Bool) → (not restarts && false) ≡ false
      no_more true = refl
      no_more false = refl

-- an act that takes memory is no leave
takes_memory : (act : Act) (past : History) → IsTrue (fixed_for act).takes_memory → (stopped_operation false act past ≡ SameOperations) × (stopped_ticket act ≡ NoTickets)
takes_memory (Leave ticket) past takes = cc
takes_memory _ past takes = (refl, refl)

-- a call that is given up for want of memory
pub without_memory : (setup : Setup) (past : History) (old new : Tables) (event : Event) (drawn : List ℕ) → TablesStand setup old past → IsTrue (fixed_for event.act).takes_memory → SameTables old new
    → TablesStand setup new (Acted event drawn (Stopped MemoryAllocationFailed) ∷ past) × Stays setup past (Acted event drawn (Stopped MemoryAllocationFailed) ∷ past)
without_memory setup past old new event drawn stands takes same =
    let none = takes_memory event.act past takes in
    (denied_tables setup past event drawn (Stopped MemoryAllocationFailed) old new stands same refl refl none.0 none.1, stays_same setup past event drawn (Stopped MemoryAllocationFailed) none.0)
