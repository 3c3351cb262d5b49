-- What a pass has seen after a turn.
use Rattle.std.proofs.Common.{◌≡◌, ℕ, ◌==◌, ◌&&◌, Bool, true, false, if◌then◌else◌, List, ◌++◌, Option, Some, None, unwrap_or, refl, sym, ap, ◌∙◌}
use Rattle.std.proofs.lemmas.Bool.{eq-eqb}
use Rattle.ks_outside.specs.declared.disk.Disk.{Ghosts as DiskGhosts}
use Rattle.ks_outside.specs.declared.entropy.Entropy.{Ghosts as EntropyGhosts}
use Rattle.tags.specs.declared.settled.Settled.{Settled}
use Rattle.turn_lock.specs.Rule.{own}
use Rattle.rule_model.specs.declared.entry.Entry.TheVariants.{Acted}
use Rattle.rule_model.specs.declared.event.Act.{Act}
use Rattle.rule_model.specs.declared.event.Act.TheVariants.{Connect, Disconnect}
use Rattle.rule_model.specs.declared.reply.Reply.{Reply}
use Rattle.rule_model.specs.declared.reply.Reply.TheVariants.{Done, Broken, Stopped}
use Rattle.rule_model.specs.Acts.{is_connect, is_disconnect, is_enter, is_leave}
use Rattle.rule_model.specs.Entries.{admits, is_done}
use Rattle.keystore_core.specs.declared.engine.Engine.{Engine}
use Rattle.service_book.specs.declared.entry.BookEntry.{BookEntry}
use Rattle.service_book.specs.Book.{client_given, client_of, later_client, log_of, ticket_in}
use Rattle.shared_service.specs.declared.name.ServiceId.{ServiceId}
use Rattle.shared_service.specs.Calls.{OneStep, entries_of}
use Rattle.shared_service.specs.Desks.{HasSeen, IsDesk}
use Rattle.shared_service.specs.Kinds.{client_after, kind_of}
use Rattle.shared_service.specs.Owning.{by, is_connected, later_ticket, out_of, ticket_given}
use Rattle.shared_service.specs.Requests.{IsCaller}
use Rattle.shared_service.proofs.Fitting.{else_is, same_if, then_is}
use Rattle.shared_service.proofs.Logs.{log_step, same_client, same_connected, same_out, settled_log, step_log}

-- all of a book is seen
pub seen_of : {D N : Type 0} (d : DiskGhosts D) (n : EntropyGhosts N) (name : ServiceId N) (engine : Engine) (disk : D) (entropy : N) (book : List BookEntry) (pass client : ℕ) (connected : Bool) → IsDesk d n name engine disk entropy book
    → IsCaller pass client connected (log_of book) → HasSeen n name pass book client connected
seen_of d n name engine disk entropy book pass client connected desk caller = record {
  legal = λ s of. (desk.stands s of).legal;
  caused = desk.caused;
  drew = (n.content entropy, desk.drew);
  client_is = caller.client_is;
  connected_is = caller.connected_is;
  idle = caller.idle;
}

-- a pass says the same of itself over a longer book that has no more of its own
pub caller_on : {N : Type 0} {g : EntropyGhosts N} (name : ServiceId N) (pass client : ℕ) (connected : Bool) (front book : List BookEntry) → HasSeen g name pass front client connected → own by pass front ≡ own by pass book → IsCaller pass client connected (log_of book)
caller_on name pass client connected front book seen same = record {
  client_is = seen.client_is ∙ ap (λ (o : Option ℕ). unwrap_or o 0) (same_client pass front book same);
  connected_is = seen.connected_is ∙ same_connected pass front book same;
  idle = sym (same_out pass front book same) ∙ seen.idle;
}

-- ---- after a step of its own

module _ (pass : ℕ) (s : OneStep) (log : List BookEntry) where
  here : (pass == pass) ≡ true
  here = eq-eqb pass pass refl

  settled_client : (v : Option Settled) → client_of pass (settled_log pass s v log) ≡ client_of pass log
  settled_client None = refl
  settled_client (Some v) = same_if (pass == pass) (client_of pass log)

  settled_connected : (v : Option Settled) → is_connected pass (settled_log pass s v log) ≡ is_connected pass log
  settled_connected None = refl
  settled_connected (Some v) = same_if (pass == pass) (is_connected pass log)

  settled_out : (v : Option Settled) → out_of pass (settled_log pass s v log) ≡ out_of pass log
  settled_out None = refl
  settled_out (Some v) = same_if (pass == pass) (out_of pass log)

  pub step_client : client_of pass (step_log pass s log) ≡ later_client (client_given (Acted s.event s.drawn s.reply)) (client_of pass log)
  step_client = then_is (pass == pass) (later_client (client_given (Acted s.event s.drawn s.reply)) (client_of pass (settled_log pass s s.settled log))) (client_of pass (settled_log pass s s.settled log)) here
      ∙ ap (later_client (client_given (Acted s.event s.drawn s.reply))) (settled_client s.settled)

  pub step_connected : is_connected pass (step_log pass s log) ≡ (if admits is_connect (Acted s.event s.drawn s.reply) then true else if admits is_disconnect (Acted s.event s.drawn s.reply) then false else is_connected pass log)
  step_connected = then_is (pass == pass) (if admits is_connect (Acted s.event s.drawn s.reply) then true else if admits is_disconnect (Acted s.event s.drawn s.reply) then false else is_connected pass (settled_log pass s s.settled log))
      (is_connected pass (settled_log pass s s.settled log)) here
      ∙ ap (λ (b : Bool). if admits is_connect (Acted s.event s.drawn s.reply) then true else if admits is_disconnect (Acted s.event s.drawn s.reply) then false else b) (settled_connected s.settled)

  pub step_out : out_of pass (step_log pass s log) ≡ (if is_leave s.event.act then None else later_ticket (ticket_given (Acted s.event s.drawn s.reply)) (out_of pass log))
  step_out = then_is (pass == pass) (if is_leave s.event.act then None else later_ticket (ticket_given (Acted s.event s.drawn s.reply)) (out_of pass (settled_log pass s s.settled log))) (out_of pass (settled_log pass s s.settled log)) here
      ∙ ap (λ (o : Option ℕ). if is_leave s.event.act then None else later_ticket (ticket_given (Acted s.event s.drawn s.reply)) o) (settled_out s.settled)

-- the client that the pass keeps is its own after the step
after_reply : (act : Act) (reply : Reply) (before : Option ℕ) (connected : Bool) → ◌≡◌ {A = ℕ × Bool} (client_after (kind_of act) reply (unwrap_or before 0, connected))
    (unwrap_or (later_client (if is_connect act then Rattle.service_book.specs.Book.client_in reply else None) before) 0, if is_done reply && is_connect act then true else if is_done reply && is_disconnect act then false else connected)
after_reply (Connect uid) (Done fields) before connected = by_client fields.client where
  by_client : (given : Option ℕ) → ◌≡◌ {A = ℕ × Bool} (unwrap_or given (unwrap_or before 0), true) (unwrap_or (later_client given before) 0, true)
  by_client None = refl
  by_client (Some client) = refl
after_reply (Connect uid) (Broken rule code) before connected = refl
after_reply (Connect uid) (Stopped code) before connected = refl
after_reply Disconnect (Done fields) before connected = refl
after_reply Disconnect (Broken rule code) before connected = refl
after_reply Disconnect (Stopped code) before connected = refl
after_reply _ (Done fields) before connected = refl
after_reply _ (Broken rule code) before connected = refl
after_reply _ (Stopped code) before connected = refl

pub caller_after : (pass : ℕ) (s : OneStep) (old new : List BookEntry) (client : ℕ) (connected : Bool) (next : ℕ × Bool) → new ≡ old ++ entries_of pass s → client ≡ unwrap_or (client_of pass (log_of old)) 0
    → connected ≡ is_connected pass (log_of old) → next ≡ client_after (kind_of s.event.act) s.reply (client, connected) → (next.0 ≡ unwrap_or (client_of pass (log_of new)) 0) × (next.1 ≡ is_connected pass (log_of new))
caller_after pass s old new client connected next grown client_is connected_is is =
    let log : log_of new ≡ step_log pass s (log_of old) = ap log_of grown ∙ log_step pass s old in
    let before : ◌≡◌ {A = ℕ × Bool} (client, connected) (unwrap_or (client_of pass (log_of old)) 0, is_connected pass (log_of old)) = λ i. (client_is i, connected_is i) in
    let both = is ∙ (ap (client_after (kind_of s.event.act) s.reply) before ∙ after_reply s.event.act s.reply (client_of pass (log_of old)) (is_connected pass (log_of old))) in (
      ap (λ (p : ℕ × Bool). p.0) both ∙ sym (ap (λ (l : List BookEntry). unwrap_or (client_of pass l) 0) log ∙ ap (λ (o : Option ℕ). unwrap_or o 0) (step_client pass s (log_of old))),
      ap (λ (p : ℕ × Bool). p.1) both ∙ sym (ap (is_connected pass) log ∙ step_connected pass s (log_of old)),
    )

-- no ticket is out after a step that gives none
pub idle_after : (pass : ℕ) (s : OneStep) (old new : List BookEntry) → new ≡ old ++ entries_of pass s → out_of pass (log_of old) ≡ None → ticket_in s.reply ≡ None → out_of pass (log_of new) ≡ None
idle_after pass s old new grown idle none =
    let given : ticket_given (Acted s.event s.drawn s.reply) ≡ None = ap (λ (o : Option ℕ). if is_enter s.event.act then o else None) none ∙ same_if (is_enter s.event.act) None in
    ap (λ (l : List BookEntry). out_of pass l) (ap log_of grown ∙ log_step pass s old) ∙ (step_out pass s (log_of old)
    ∙ ((λ i. if is_leave s.event.act then None else later_ticket (given i) (idle i)) ∙ same_if (is_leave s.event.act) None))

-- and the ticket is that of an enter
pub out_after : (pass ticket : ℕ) (s : OneStep) (old new : List BookEntry) → new ≡ old ++ entries_of pass s → is_leave s.event.act ≡ false → is_enter s.event.act ≡ true → ticket_in s.reply ≡ Some ticket → out_of pass (log_of new) ≡ Some ticket
out_after pass ticket s old new grown l enters gives =
    let given : ticket_given (Acted s.event s.drawn s.reply) ≡ Some ticket = then_is (is_enter s.event.act) (ticket_in s.reply) None enters ∙ gives in
    ap (λ (l : List BookEntry). out_of pass l) (ap log_of grown ∙ log_step pass s old) ∙ (step_out pass s (log_of old)
    ∙ (else_is (is_leave s.event.act) None (later_ticket (ticket_given (Acted s.event s.drawn s.reply)) (out_of pass (log_of old))) l ∙ ap (λ (o : Option ℕ). later_ticket o (out_of pass (log_of old))) given))

-- after its leave none is out
pub idle_left : (pass : ℕ) (s : OneStep) (old new : List BookEntry) → new ≡ old ++ entries_of pass s → is_leave s.event.act ≡ true → out_of pass (log_of new) ≡ None
idle_left pass s old new grown l =
    ap (λ (l : List BookEntry). out_of pass l) (ap log_of grown ∙ log_step pass s old) ∙ (step_out pass s (log_of old) ∙ then_is (is_leave s.event.act) None (later_ticket (ticket_given (Acted s.event s.drawn s.reply)) (out_of pass (log_of old))) l)
