-- What one entry makes of the tickets and the clients.
use Rattle.std.proofs.Common.{◌≡◌, ℕ, ◌+◌, ◌==◌, ◌&&◌, Bool, true, false, if◌then◌else◌, List, ◌∷◌, Option, Some, None, is_some, refl, ap, ◌∙◌, subst, inl, inr}
use Rattle.std.proofs.lemmas.Bool.{cases_Bool}
use Rattle.cipher_ops.specs.declared.room.Work.{Work}
use Rattle.cipher_ops.specs.declared.room.Work.TheVariants.{Aad, Text, Last}
use Rattle.rule_model.specs.declared.entry.Entry.TheVariants.{Acted}
use Rattle.rule_model.specs.declared.event.Act.{Act}
use Rattle.rule_model.specs.declared.event.Act.TheVariants.{Connect, Disconnect, EnterAad, EnterUpdate, EnterFinish, Leave, Restart}
use Rattle.rule_model.specs.declared.event.Event.{Event}
use Rattle.rule_model.specs.declared.reply.Fields.{Fields}
use Rattle.rule_model.specs.declared.reply.Reply.{Reply}
use Rattle.rule_model.specs.declared.reply.Reply.TheVariants.{Done, Broken, Stopped}
use Rattle.rule_model.specs.Acts.{is_connect, is_disconnect, is_enter, is_leave, is_restart}
use Rattle.rule_model.specs.declared.entry_change.ClientChange.{ClientChange}
use Rattle.rule_model.specs.declared.entry_change.ClientChange.TheVariants.{SameClients, Comes, Goes}
use Rattle.rule_model.specs.Clients.{admitted_client, client_change, comes, uid_after, uid_of}
use Rattle.rule_model.specs.Entries.{admits, count_of, gives, is_done}
use Rattle.rule_model.specs.declared.entry_change.TicketChange.{TicketChange}
use Rattle.rule_model.specs.declared.entry_change.TicketChange.TheVariants.{SameTickets, GoesOut, ComesBack}
use Rattle.rule_model.specs.declared.operation.Entered.{Entered}
use Rattle.rule_model.specs.Tickets.{admitted_ticket, goes_out, stopped_ticket, ticket_after, ticket_at, ticket_change, next_ticket}
use Rattle.rule_model.specs.Acts.{is_asked}
use Rattle.service_book.specs.declared.entry.BookEntry.{BookEntry}
use Rattle.service_book.specs.Book.{Counts, client_given, client_of, gives_ticket, history_of, later_client, pass_of_ticket, ticket_in}
use Rattle.service_book.specs.Limits.{count, is_of}
use Rattle.shared_service.specs.Calls.{entry_by}
use Rattle.shared_service.specs.Desks.{ComesInTurn}
use Rattle.shared_service.specs.Facts.{ClientFacts, TicketFacts, is_given, pass_of_client}
use Rattle.shared_service.specs.Owning.{is_connected, later_ticket, out_of, ticket_given}
use Rattle.shared_service.proofs.Fitting.{clients_come, clients_go, clients_same, else_is, same_if, then_is, tickets_back, tickets_out, tickets_same}

-- ---- acts by their kinds

pub asked_goes_on : (act : Act) → is_asked act ≡ true → is_restart act ≡ false
asked_goes_on (Leave ticket) e = cc
asked_goes_on (Restart root) e = cc
asked_goes_on _ e = refl

pub leave_goes_on : (act : Act) → is_leave act ≡ true → is_restart act ≡ false
leave_goes_on (Leave ticket) e = refl
leave_goes_on _ e = cc

pub in_turn_goes_on : (act : Act) (pass : ℕ) (log : List BookEntry) → ComesInTurn act pass log → is_restart act ≡ false
in_turn_goes_on (Leave ticket) pass log t = refl
in_turn_goes_on (Restart root) pass log t = let no = t.0 in cc
in_turn_goes_on _ pass log t = refl

pub enter_no_leave : (act : Act) → is_enter act ≡ true → is_leave act ≡ false
enter_no_leave (Leave ticket) e = cc
enter_no_leave _ e = refl

pub enter_asked : (act : Act) → is_enter act ≡ true → (is_connect act ≡ false) × (is_disconnect act ≡ false)
enter_asked (EnterAad op input) e = (refl, refl)
enter_asked (EnterUpdate op input) e = (refl, refl)
enter_asked (EnterFinish op input signature) e = (refl, refl)
enter_asked _ e = cc

pub idle_in_turn : (act : Act) (pass : ℕ) (log : List BookEntry) → is_leave act ≡ false → ComesInTurn act pass log → out_of pass log ≡ None
idle_in_turn (Leave ticket) pass log e t = cc
idle_in_turn (Restart root) pass log e t = t.1
idle_in_turn _ pass log e t = t.1

-- a leave, and its ticket
pub leave_is : (act : Act) → is_leave act ≡ true → (ticket : ℕ) × (act ≡ Leave ticket)
leave_is (Leave ticket) e = (ticket, refl)
leave_is _ e = cc

pub leave_in_turn : (act : Act) (pass ticket : ℕ) (log : List BookEntry) → act ≡ Leave ticket → ComesInTurn act pass log → out_of pass log ≡ Some ticket
leave_in_turn act pass ticket log e t = subst (λ (a : Act). ComesInTurn a pass log) e t

-- ---- tickets

and_false : (a b : Bool) → a && b ≡ false → b ≡ true → a ≡ false
and_false true b e f = cc
and_false false b e f = refl

quiet_out : (op : ℕ) (work : Work) (ticket : Option ℕ) → ticket ≡ None → goes_out ticket op work ≡ SameTickets
quiet_out op work None e = refl
quiet_out op work (Some t) e = cc

quiet_done : (act : Act) (fields : Fields) → is_leave act ≡ false → is_restart act ≡ false → is_enter act ≡ false → admitted_ticket act fields ≡ SameTickets
quiet_done (EnterAad op input) fields l r e = cc
quiet_done (EnterUpdate op input) fields l r e = cc
quiet_done (EnterFinish op input signature) fields l r e = cc
quiet_done (Leave ticket) fields l r e = cc
quiet_done (Restart root) fields l r e = cc
quiet_done _ fields l r e = refl

quiet_stopped : (act : Act) → is_leave act ≡ false → stopped_ticket act ≡ SameTickets
quiet_stopped (Leave ticket) l = cc
quiet_stopped _ l = refl

pub quiet_change : (event : Event) (drawn : List ℕ) (reply : Reply) → is_leave event.act ≡ false → is_restart event.act ≡ false → admits is_enter (Acted event drawn reply) ≡ false → ticket_change event reply ≡ SameTickets
quiet_change event drawn (Done fields) l r e = quiet_done event.act fields l r e
quiet_change event drawn (Broken rule code) l r e = refl
quiet_change event drawn (Stopped code) l r e = quiet_stopped event.act l

quiet_given : (event : Event) (drawn : List ℕ) (reply : Reply) → admits is_enter (Acted event drawn reply) ≡ false → ticket_given (Acted event drawn reply) ≡ None
quiet_given event drawn (Done fields) e = else_is (is_enter event.act) fields.ticket None e
quiet_given event drawn (Broken rule code) e = same_if (is_enter event.act) None
quiet_given event drawn (Stopped code) e = same_if (is_enter event.act) None

none_gives : (b : Bool) (given : Option ℕ) (t : ℕ) → (if b then given else None) ≡ None → b && gives given t ≡ false
none_gives true None t e = refl
none_gives true (Some n) t e = cc
none_gives false given t e = refl

enter_change : (act : Act) (fields : Fields) (ticket : ℕ) → is_enter act ≡ true → fields.ticket ≡ Some ticket → (entered : Entered) × (admitted_ticket act fields ≡ GoesOut ticket entered)
enter_change (EnterAad op input) fields ticket e f = (record { op = op; work = Aad input }, ap (λ o. goes_out o op (Aad input)) f)
enter_change (EnterUpdate op input) fields ticket e f = (record { op = op; work = Text input }, ap (λ o. goes_out o op (Text input)) f)
enter_change (EnterFinish op input signature) fields ticket e f = (record { op = op; work = Last input signature }, ap (λ o. goes_out o op (Last input signature)) f)
enter_change _ fields ticket e f = cc

some_after : (ticket t : ℕ) (entered : Entered) (before : Option Entered) → is_some (ticket_after (GoesOut ticket entered) t before) ≡ (if ticket == t then true else is_some before)
some_after ticket t entered before = elim (cases_Bool (ticket == t)) [
  | inl e ↦ rw e refl
  | inr e ↦ rw e refl
]

none_after : (ticket t : ℕ) (before : Option Entered) → is_some (ticket_after (ComesBack ticket) t before) ≡ (if ticket == t then false else is_some before)
none_after ticket t before = elim (cases_Bool (ticket == t)) [
  | inl e ↦ rw e refl
  | inr e ↦ rw e refl
]

module _ (pass : ℕ) (before behind : Counts) (event : Event) (drawn : List ℕ) (reply : Reply) (log : List BookEntry) (facts : TicketFacts log) where
  pub tickets_quiet : is_leave event.act ≡ false → is_restart event.act ≡ false → admits is_enter (Acted event drawn reply) ≡ false → TicketFacts (entry_by pass before behind (Acted event drawn reply) ∷ log)
  tickets_quiet l r e = tickets_same _ _ _ _ _ _ _ _ _ _ _ _ facts
      (λ n. ap (λ (o : Option ℕ). if pass == n then o else out_of n log) (else_is (is_leave event.act) None (later_ticket (ticket_given (Acted event drawn reply)) (out_of n log)) l
      ∙ ap (λ (o : Option ℕ). later_ticket o (out_of n log)) (quiet_given event drawn reply e)) ∙ same_if (pass == n) (out_of n log))
      (λ t. ap (λ (c : TicketChange). is_some (ticket_after c t (ticket_at (history_of log) t))) (quiet_change event drawn reply l r e))
      (λ t. else_is (gives_ticket t (Acted event drawn reply)) (Some pass) (pass_of_ticket t log) (none_gives (is_enter event.act) (ticket_in reply) t (quiet_given event drawn reply e)))
      (else_is (admits is_enter (Acted event drawn reply)) (count_of is_enter (history_of log) + 1) (count_of is_enter (history_of log)) e)
      (else_is (admits is_enter (Acted event drawn reply)) (count (admits is_enter) log + 1) (count (admits is_enter) log) e)
      (else_is (is_leave event.act) (count (is_of is_leave) log + 1) (count (is_of is_leave) log) l)

  pub tickets_left : (ticket : ℕ) → event.act ≡ Leave ticket → ticket_change event reply ≡ ComesBack ticket → out_of pass log ≡ Some ticket → TicketFacts (entry_by pass before behind (Acted event drawn reply) ∷ log)
  tickets_left ticket is change out =
      let l : is_leave event.act ≡ true = ap is_leave is in
      let no : is_enter event.act ≡ false = ap is_enter is in
      let idle : admits is_enter (Acted event drawn reply) ≡ false = ap (λ (b : Bool). is_done reply && b) no ∙ and_none (is_done reply) in
      tickets_back _ _ _ _ _ _ _ _ _ _ _ _ facts pass ticket out
      (λ n. ap (λ (o : Option ℕ). if pass == n then o else out_of n log) (then_is (is_leave event.act) None (later_ticket (ticket_given (Acted event drawn reply)) (out_of n log)) l))
      (λ t. ap (λ (c : TicketChange). is_some (ticket_after c t (ticket_at (history_of log) t))) change ∙ none_after ticket t (ticket_at (history_of log) t))
      (λ t. else_is (gives_ticket t (Acted event drawn reply)) (Some pass) (pass_of_ticket t log) (none_gives (is_enter event.act) (ticket_in reply) t (quiet_given event drawn reply idle)))
      (else_is (admits is_enter (Acted event drawn reply)) (count_of is_enter (history_of log) + 1) (count_of is_enter (history_of log)) idle)
      (else_is (admits is_enter (Acted event drawn reply)) (count (admits is_enter) log + 1) (count (admits is_enter) log) idle)
      (then_is (is_leave event.act) (count (is_of is_leave) log + 1) (count (is_of is_leave) log) l)
    where
      and_none : (b : Bool) → b && false ≡ false
      and_none true = refl
      and_none false = refl

module _ (pass : ℕ) (before behind : Counts) (event : Event) (drawn : List ℕ) (fields : Fields) (log : List BookEntry) (facts : TicketFacts log) where
  pub tickets_entered : (ticket : ℕ) → is_enter event.act ≡ true → fields.ticket ≡ Some ticket → ticket ≡ next_ticket (history_of log) → out_of pass log ≡ None → TicketFacts (entry_by pass before behind (Acted event drawn (Done fields)) ∷ log)
  tickets_entered ticket enters given next idle =
      let l = enter_no_leave event.act enters in
      let change = enter_change event.act fields ticket enters given in
      tickets_out _ _ _ _ _ _ _ _ _ _ _ _ facts pass ticket next
      (λ n. ap (λ (o : Option ℕ). if pass == n then o else out_of n log) (else_is (is_leave event.act) None (later_ticket (ticket_given (Acted event drawn (Done fields))) (out_of n log)) l
      ∙ ap (λ (o : Option ℕ). later_ticket o (out_of n log)) (then_is (is_enter event.act) fields.ticket None enters ∙ given)))
      (λ t. ap (λ (c : TicketChange). is_some (ticket_after c t (ticket_at (history_of log) t))) change.1 ∙ some_after ticket t change.0 (ticket_at (history_of log) t))
      (λ t. ap (λ (b : Bool). if b then Some pass else pass_of_ticket t log) (ap (λ (b : Bool). b && gives fields.ticket t) enters ∙ ap (λ (o : Option ℕ). gives o t) given))
      (then_is (is_enter event.act) (count_of is_enter (history_of log) + 1) (count_of is_enter (history_of log)) enters)
      (then_is (is_enter event.act) (count (admits is_enter) log + 1) (count (admits is_enter) log) enters)
      (else_is (is_leave event.act) (count (is_of is_leave) log + 1) (count (is_of is_leave) log) l)
      idle

-- ---- clients

quiet_client : (event : Event) (drawn : List ℕ) (reply : Reply) → is_restart event.act ≡ false → admits is_connect (Acted event drawn reply) ≡ false → admits is_disconnect (Acted event drawn reply) ≡ false → client_change event reply ≡ SameClients
quiet_client event drawn (Done fields) r c d = by_act event.act r c d where
  by_act : (act : Act) → is_restart act ≡ false → is_connect act ≡ false → is_disconnect act ≡ false → admitted_client act event.client fields ≡ SameClients
  by_act (Connect uid) r c d = cc
  by_act Disconnect r c d = cc
  by_act (Restart root) r c d = cc
  by_act _ r c d = refl
quiet_client event drawn (Broken rule code) r c d = refl
quiet_client event drawn (Stopped code) r c d = refl

quiet_client_given : (event : Event) (drawn : List ℕ) (reply : Reply) → admits is_connect (Acted event drawn reply) ≡ false → client_given (Acted event drawn reply) ≡ None
quiet_client_given event drawn (Done fields) e = else_is (is_connect event.act) fields.client None e
quiet_client_given event drawn (Broken rule code) e = same_if (is_connect event.act) None
quiet_client_given event drawn (Stopped code) e = same_if (is_connect event.act) None

module _ (pass : ℕ) (before behind : Counts) (event : Event) (drawn : List ℕ) (reply : Reply) (log : List BookEntry) (facts : ClientFacts log) where
  pub clients_quiet : is_restart event.act ≡ false → admits is_connect (Acted event drawn reply) ≡ false → admits is_disconnect (Acted event drawn reply) ≡ false → ClientFacts (entry_by pass before behind (Acted event drawn reply) ∷ log)
  clients_quiet r c d = clients_same _ _ _ _ _ _ _ _ _ _ _ _ _ _ facts
      (λ n. ap (λ (o : Option ℕ). if pass == n then later_client o (client_of n log) else client_of n log) (quiet_client_given event drawn reply c) ∙ same_if (pass == n) (client_of n log))
      (λ n. ap (λ (b : Bool). if pass == n then b else is_connected n log) (else_is (admits is_connect (Acted event drawn reply)) true (if admits is_disconnect (Acted event drawn reply) then false else is_connected n log) c
      ∙ else_is (admits is_disconnect (Acted event drawn reply)) false (is_connected n log) d) ∙ same_if (pass == n) (is_connected n log))
      (λ number. ap (λ (k : ClientChange). is_some (uid_after k number (uid_of (history_of log) number))) (quiet_client event drawn reply r c d))
      (λ number. ap (λ (o : Option ℕ). if is_given o number then Some pass else pass_of_client number log) (quiet_client_given event drawn reply c))
      (else_is (admits is_connect (Acted event drawn reply)) (count_of is_connect (history_of log) + 1) (count_of is_connect (history_of log)) c)
      (else_is (admits is_connect (Acted event drawn reply)) (count (admits is_connect) log + 1) (count (admits is_connect) log) c)
      (else_is (admits is_disconnect (Acted event drawn reply)) (count (admits is_disconnect) log + 1) (count (admits is_disconnect) log) d)

connect_is : (act : Act) → is_connect act ≡ true → (uid : ℕ) × (act ≡ Connect uid)
connect_is (Connect uid) e = (uid, refl)
connect_is _ e = cc

disconnect_is : (act : Act) → is_disconnect act ≡ true → act ≡ Disconnect
disconnect_is Disconnect e = refl
disconnect_is _ e = cc

came : (number n uid : ℕ) (before : Option ℕ) → is_some (uid_after (Comes number uid) n before) ≡ (if number == n then true else is_some before)
came number n uid before = elim (cases_Bool (number == n)) [
  | inl e ↦ rw e refl
  | inr e ↦ rw e refl
]

went : (number n : ℕ) (before : Option ℕ) → is_some (uid_after (Goes number) n before) ≡ (if number == n then false else is_some before)
went number n before = elim (cases_Bool (number == n)) [
  | inl e ↦ rw e refl
  | inr e ↦ rw e refl
]

module _ (pass : ℕ) (before behind : Counts) (event : Event) (drawn : List ℕ) (fields : Fields) (log : List BookEntry) (facts : ClientFacts log) where
  pub clients_connected : (number : ℕ) → is_connect event.act ≡ true → fields.client ≡ Some number → number ≡ count_of is_connect (history_of log) + 1 → ClientFacts (entry_by pass before behind (Acted event drawn (Done fields)) ∷ log)
  clients_connected number connects given next =
      let is = connect_is event.act connects in
      let d : is_disconnect event.act ≡ false = ap is_disconnect is.1 in
      let change : client_change event (Done fields) ≡ Comes number is.0 = ap (λ (a : Act). admitted_client a event.client fields) is.1 ∙ ap (λ (o : Option ℕ). comes o is.0) given in
      let client : client_given (Acted event drawn (Done fields)) ≡ Some number = then_is (is_connect event.act) fields.client None connects ∙ given in
      clients_come _ _ _ _ _ _ _ _ _ _ _ _ _ _ facts pass number next
      (λ n. ap (λ (o : Option ℕ). if pass == n then later_client o (client_of n log) else client_of n log) client)
      (λ n. ap (λ (b : Bool). if pass == n then b else is_connected n log) (then_is (is_connect event.act) true (if is_disconnect event.act then false else is_connected n log) connects))
      (λ n. ap (λ (k : ClientChange). is_some (uid_after k n (uid_of (history_of log) n))) change ∙ came number n is.0 (uid_of (history_of log) n))
      (λ n. ap (λ (o : Option ℕ). if is_given o n then Some pass else pass_of_client n log) client)
      (then_is (is_connect event.act) (count_of is_connect (history_of log) + 1) (count_of is_connect (history_of log)) connects)
      (then_is (is_connect event.act) (count (admits is_connect) log + 1) (count (admits is_connect) log) connects)
      (else_is (is_disconnect event.act) (count (admits is_disconnect) log + 1) (count (admits is_disconnect) log) d)

  pub clients_parted : is_disconnect event.act ≡ true → client_of pass log ≡ Some event.client → is_connected pass log ≡ true → ClientFacts (entry_by pass before behind (Acted event drawn (Done fields)) ∷ log)
  clients_parted parts mine on =
      let is = disconnect_is event.act parts in
      let c : is_connect event.act ≡ false = ap is_connect is in
      let change : client_change event (Done fields) ≡ Goes event.client = ap (λ (a : Act). admitted_client a event.client fields) is in
      let client : client_given (Acted event drawn (Done fields)) ≡ None = else_is (is_connect event.act) fields.client None c in
      clients_go _ _ _ _ _ _ _ _ _ _ _ _ _ _ facts pass event.client mine on
      (λ n. ap (λ (o : Option ℕ). if pass == n then later_client o (client_of n log) else client_of n log) client ∙ same_if (pass == n) (client_of n log))
      (λ n. ap (λ (b : Bool). if pass == n then b else is_connected n log) (else_is (is_connect event.act) true (if is_disconnect event.act then false else is_connected n log) c ∙ then_is (is_disconnect event.act) false (is_connected n log) parts))
      (λ n. ap (λ (k : ClientChange). is_some (uid_after k n (uid_of (history_of log) n))) change ∙ went event.client n (uid_of (history_of log) n))
      (λ n. ap (λ (o : Option ℕ). if is_given o n then Some pass else pass_of_client n log) client)
      (else_is (is_connect event.act) (count_of is_connect (history_of log) + 1) (count_of is_connect (history_of log)) c)
      (else_is (is_connect event.act) (count (admits is_connect) log + 1) (count (admits is_connect) log) c)
      (then_is (is_disconnect event.act) (count (admits is_disconnect) log + 1) (count (admits is_disconnect) log) parts)
