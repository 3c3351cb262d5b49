-- What holds of a log still holds after a step.
use Rattle.std.proofs.Common.{◌≡◌, ℕ, ◌+◌, ◌==◌, ◌&&◌, Bool, true, false, List, [], ◌∷◌, Option, Some, None, is_some, unwrap_or, refl, sym, ap, ◌∙◌, subst, ⊎_elim}
use Rattle.std.proofs.lemmas.Bool.{cases_Bool}
use Rattle.tags.specs.declared.settled.Settled.{Settled}
use Rattle.rule_model.specs.declared.entry.Entry.TheVariants.{Acted}
use Rattle.rule_model.specs.declared.event.Act.{Act}
use Rattle.rule_model.specs.declared.event.Act.TheVariants.{Connect, Disconnect, Leave}
use Rattle.rule_model.specs.declared.event.Event.{Event}
use Rattle.rule_model.specs.declared.reply.Fields.{Fields}
use Rattle.rule_model.specs.declared.reply.Reply.{Reply}
use Rattle.rule_model.specs.declared.reply.Reply.TheVariants.{Done, Broken, Stopped}
use Rattle.rule_model.specs.Acts.{is_connect, is_disconnect, is_enter, is_leave}
use Rattle.rule_model.specs.Clients.{uid_of}
use Rattle.rule_model.specs.Entries.{admits, after_settling, after_step, count_of, is_done}
use Rattle.rule_model.specs.Jobs.{Stays}
use Rattle.rule_model.specs.Kept.{open_of}
use Rattle.rule_model.specs.Legal.{Legal, LegalBefore, MayFollow, MaySettleFirst, MayStep}
use Rattle.rule_model.specs.Setup.{Setup}
use Rattle.rule_model.specs.Tickets.{next_ticket}
use Rattle.service_book.specs.declared.entry.BookEntry.{BookEntry}
use Rattle.service_book.specs.Book.{IsOwnAct, client_of, history_of}
use Rattle.shared_service.specs.Calls.{OneStep}
use Rattle.shared_service.specs.Desks.{ComesInTurn}
use Rattle.shared_service.specs.Facts.{AllFacts, ClientFacts, Facts, TicketFacts}
use Rattle.shared_service.specs.Owning.{is_connected, out_of}
use Rattle.shared_service.proofs.Entries.{clients_connected, clients_parted, clients_quiet, idle_in_turn, in_turn_goes_on, leave_in_turn, leave_is, tickets_entered, tickets_left, tickets_quiet}
use Rattle.shared_service.proofs.Fitting.{clients_same, same_if, tickets_same}
use Rattle.shared_service.proofs.Logs.{acted_of, settled_log, settling_of, step_log}
use Rattle.shared_service.proofs.Replying.{connected_client, entered_ticket, left_change, parted_client}
use Rattle.shared_service.proofs.Waiting.{waited_after, waited_settled}

-- ---- a settling changes nothing

module _ (pass : ℕ) (s : OneStep) (v : Settled) (log : List BookEntry) where
  tickets_settled : TicketFacts log → TicketFacts (settling_of pass s v ∷ log)
  tickets_settled facts = tickets_same _ _ _ _ _ _ _ _ _ _ _ _ facts (λ n. same_if (pass == n) (out_of n log)) (λ t. refl) (λ t. refl) refl refl refl

  clients_settled : ClientFacts log → ClientFacts (settling_of pass s v ∷ log)
  clients_settled facts = clients_same _ _ _ _ _ _ _ _ _ _ _ _ _ _ facts (λ n. same_if (pass == n) (client_of n log)) (λ n. same_if (pass == n) (is_connected n log)) (λ c. refl) (λ c. refl) refl refl refl

  facts_settled : (setup : Setup) → Facts setup log → Facts setup (settling_of pass s v ∷ log)
  facts_settled setup facts = record {
    tickets = tickets_settled facts.tickets;
    clients = clients_settled facts.clients;
    busy = waited_settled pass s v log (open_of setup (history_of log)) facts.busy;
    still = λ ticket entered before after. refl;
  }

-- ---- the entry of an event

done_of : (reply : Reply) → is_done reply ≡ true → (fields : Fields) × (reply ≡ Done fields)
done_of (Done fields) e = (fields, refl)
done_of (Broken rule code) e = cc
done_of (Stopped code) e = cc

and_both : (a b : Bool) → a && b ≡ true → (a ≡ true) × (b ≡ true)
and_both true b e = (refl, e)
and_both false b e = cc

module _ (setup : Setup) (next : Option Event) (pass : ℕ) (s : OneStep) (log : List BookEntry) (facts : Facts setup log) (legal : LegalBefore setup next (history_of log)) (follows : MayFollow setup (history_of log) s.event s.drawn s.reply) (own : IsOwnAct s.event.act s.event.client pass log) (turn : ComesInTurn s.event.act pass log) where
  with_fields : (fields : Fields) → s.reply ≡ Done fields → MayFollow setup (history_of log) s.event s.drawn (Done fields)
  with_fields fields is = subst (MayFollow setup (history_of log) s.event s.drawn) is follows

  tickets_acted : TicketFacts (acted_of pass s ∷ log)
  tickets_acted = ⊎_elim
      (λ (l : is_leave s.event.act ≡ true).
      let is = leave_is s.event.act l in
      tickets_left pass s.before s.behind s.event s.drawn s.reply log facts.tickets is.0 is.1 (left_change setup (history_of log) s.event s.drawn s.reply is.0 is.1 follows) (leave_in_turn s.event.act pass is.0 log is.1 turn))
      (λ (l : is_leave s.event.act ≡ false). ⊎_elim
      (λ (e : admits is_enter (Acted s.event s.drawn s.reply) ≡ true).
      let both = and_both (is_done s.reply) (is_enter s.event.act) e in
      let fields = done_of s.reply both.0 in
      subst (λ (r : Reply). TicketFacts (acted_of pass (record s { reply = r }) ∷ log)) (sym fields.1)
      (tickets_entered pass s.before s.behind s.event s.drawn fields.0 log facts.tickets (next_ticket (history_of log)) both.1 (entered_ticket setup (history_of log) s.event s.drawn fields.0 both.1 (with_fields fields.0 fields.1)) refl
      (idle_in_turn s.event.act pass log l turn)))
      (λ (e : admits is_enter (Acted s.event s.drawn s.reply) ≡ false). tickets_quiet pass s.before s.behind s.event s.drawn s.reply log facts.tickets l (in_turn_goes_on s.event.act pass log turn) e)
      (cases_Bool (admits is_enter (Acted s.event s.drawn s.reply))))
      (cases_Bool (is_leave s.event.act))

  own_client : is_disconnect s.event.act ≡ true → is_some (uid_of (history_of log) s.event.client) ≡ true → (client_of pass log ≡ Some s.event.client) × (is_connected pass log ≡ true)
  own_client d there = found (client_of pass log) refl
    where
      disconnect_of : (act : Act) → is_disconnect act ≡ true → act ≡ Disconnect
      disconnect_of Disconnect e = refl
      disconnect_of _ e = cc

      mine : s.event.client ≡ unwrap_or (client_of pass log) 0
      mine = subst (λ (a : Act). IsOwnAct a s.event.client pass log) (disconnect_of s.event.act d) own

      found : (o : Option ℕ) → client_of pass log ≡ o → (client_of pass log ≡ Some s.event.client) × (is_connected pass log ≡ true)
      found None is =
          let zero : s.event.client ≡ 0 = mine ∙ ap (λ (o : Option ℕ). unwrap_or o 0) is in
          let nobody : is_some (uid_of (history_of log) s.event.client) ≡ false = ap (λ (c : ℕ). is_some (uid_of (history_of log) c)) zero ∙ facts.clients.nobody in
          absurd (differ (sym nobody ∙ there))
        where
          differ : false ≡ true → ⊥
          differ e = cc
      found (Some client) is =
          let same : s.event.client ≡ client = mine ∙ ap (λ (o : Option ℕ). unwrap_or o 0) is in
          let here : client_of pass log ≡ Some s.event.client = is ∙ ap Some (sym same) in
          (here, sym (facts.clients.seen pass s.event.client here) ∙ there)

  clients_acted : ClientFacts (acted_of pass s ∷ log)
  clients_acted = ⊎_elim
      (λ (c : admits is_connect (Acted s.event s.drawn s.reply) ≡ true).
      let both = and_both (is_done s.reply) (is_connect s.event.act) c in
      let fields = done_of s.reply both.0 in
      subst (λ (r : Reply). ClientFacts (acted_of pass (record s { reply = r }) ∷ log)) (sym fields.1)
      (clients_connected pass s.before s.behind s.event s.drawn fields.0 log facts.clients (count_of is_connect (history_of log) + 1) both.1 (connected_client setup (history_of log) s.event s.drawn fields.0 both.1 (with_fields fields.0 fields.1)) refl))
      (λ (c : admits is_connect (Acted s.event s.drawn s.reply) ≡ false). ⊎_elim
      (λ (d : admits is_disconnect (Acted s.event s.drawn s.reply) ≡ true).
      let both = and_both (is_done s.reply) (is_disconnect s.event.act) d in
      let fields = done_of s.reply both.0 in
      let mine = own_client both.1 (parted_client setup (history_of log) s.event s.drawn fields.0 both.1 (with_fields fields.0 fields.1)) in
      subst (λ (r : Reply). ClientFacts (acted_of pass (record s { reply = r }) ∷ log)) (sym fields.1)
      (clients_parted pass s.before s.behind s.event s.drawn fields.0 log facts.clients both.1 mine.0 mine.1))
      (λ (d : admits is_disconnect (Acted s.event s.drawn s.reply) ≡ false). clients_quiet pass s.before s.behind s.event s.drawn s.reply log facts.clients (in_turn_goes_on s.event.act pass log turn) c d)
      (cases_Bool (admits is_disconnect (Acted s.event s.drawn s.reply))))
      (cases_Bool (admits is_connect (Acted s.event s.drawn s.reply)))

  facts_acted : Stays setup (history_of log) (history_of (acted_of pass s ∷ log)) → Facts setup (acted_of pass s ∷ log)
  facts_acted still = record {
    tickets = tickets_acted;
    clients = clients_acted;
    busy = waited_after setup next pass s log facts legal follows own turn;
    still = still;
  }

pub facts_step : (setup : Setup) (pass : ℕ) (s : OneStep) (log : List BookEntry) → AllFacts setup log → Legal setup (history_of log) → MayStep setup (history_of log) s.settled s.event s.drawn s.reply
    → Stays setup (history_of log) (after_step s.settled s.event s.drawn s.reply (history_of log)) → IsOwnAct s.event.act s.event.client pass log → ComesInTurn s.event.act pass log → AllFacts setup (step_log pass s log)
facts_step setup pass s log all legal may stays own turn = by_settled s.settled may.settles may.follows stays where
  first : (log : List BookEntry) → AllFacts setup log → Facts setup log
  first [] all = all
  first (e ∷ log) all = all.0

  own_on : (v : Settled) (act : Act) → IsOwnAct act s.event.client pass log → IsOwnAct act s.event.client pass (settling_of pass s v ∷ log)
  own_on v (Leave ticket) own = own
  own_on v (Connect uid) own = own
  own_on v _ own = own ∙ ap (λ (o : Option ℕ). unwrap_or o 0) (sym (same_if (pass == pass) (client_of pass log)))

  turn_on : (v : Settled) (act : Act) → ComesInTurn act pass log → ComesInTurn act pass (settling_of pass s v ∷ log)
  turn_on v (Leave ticket) turn = same_if (pass == pass) (out_of pass log) ∙ turn
  turn_on v _ turn = (turn.0, same_if (pass == pass) (out_of pass log) ∙ turn.1)

  by_settled : (v : Option Settled) → MaySettleFirst v (history_of log) s.event → MayFollow setup (after_settling v (history_of log)) s.event s.drawn s.reply → Stays setup (history_of log) (after_step v s.event s.drawn s.reply (history_of log)) → AllFacts setup (acted_of pass s ∷ settled_log pass s v log)
  by_settled None settles follows stays = (facts_acted setup None pass s log (first log all) legal follows own turn stays, all)
  by_settled (Some v) settles follows stays =
      let mid = facts_settled pass s v log setup (first log all) in
      (facts_acted setup (Some s.event) pass s (settling_of pass s v ∷ log) mid (settles, legal) follows (own_on v s.event.act own) (turn_on v s.event.act turn) stays, (mid, all))
