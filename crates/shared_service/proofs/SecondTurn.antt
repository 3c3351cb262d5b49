-- What the second turn of a call comes to.
use Rattle.std.proofs.Common.{◌≡◌, ℕ, ◌+◌, ◌&&◌, Bool, true, false, List, [], ◌∷◌, ◌++◌, length, Option, Some, None, is_some, unwrap_or, IfErr, refl, sym, ap, ◌∙◌, subst, inr, append_assoc, length-append}
use mathlib.Core.List.{IsPrefix}
use Rattle.ks_outside.specs.declared.clock.Reading.{Reading}
use Rattle.tags.specs.declared.plan.Plan.{Plan}
use Rattle.turn_lock.specs.Fronts.{Extends, IsFrontOf}
use Rattle.turn_lock.specs.Rule as lock
use Rattle.cipher_ops.specs.declared.job.Done.{Done as JobDone}
use Rattle.cipher_ops.specs.declared.job.Job.{Job}
use Rattle.cipher_ops.specs.declared.room.Work.{Work}
use Rattle.cipher_ops.specs.Jobs.{ComesTo, JobFor, is_refusal}
use Rattle.rule_model.specs.declared.event.Act.{Act}
use Rattle.rule_model.specs.declared.event.Act.TheVariants.{Disconnect, Leave}
use Rattle.rule_model.specs.declared.event.Event.{Event}
use Rattle.rule_model.specs.declared.field_sizes.FieldSizes.{FieldSizes}
use Rattle.rule_model.specs.declared.reply.Reply.{Reply}
use Rattle.rule_model.specs.Acts.{is_disconnect, is_enter, is_leave}
use Rattle.rule_model.specs.Entries.{is_done}
use Rattle.rule_model.specs.Jobs.{IsDoneOn, IsDoneOut, IsJobOn, IsJobOut}
use Rattle.rule_model.specs.Kept.{operation_at}
use Rattle.rule_model.specs.declared.operation.Open.{Open}
use Rattle.rule_model.specs.Setup.{Setup}
use Rattle.rule_model.specs.declared.operation.Entered.{Entered}
use Rattle.rule_model.specs.Tickets.{ticket_at}
use Rattle.keystore_core.specs.Outputs.{PutsOut}
use Rattle.service_book.specs.declared.entry.BookEntry.{BookEntry}
use Rattle.service_book.specs.Book.{history_of, log_of}
use Rattle.shared_service.specs.declared.name.ServiceId.{ServiceId}
use Rattle.shared_service.specs.Away.{IsBack, IsEntered, IsJobAway}
use Rattle.shared_service.specs.Calls.{IsCall, Recorded, Twice, entries_of}
use Rattle.shared_service.specs.Facts.{AllFacts}
use Rattle.shared_service.specs.Kinds.{client_after, kind_of}
use Rattle.shared_service.specs.Names.{IsSetupOf}
use Rattle.shared_service.specs.Owning.{by, is_connected, is_parting, out_of}
use Rattle.shared_service.specs.Requests.{AreNumbers, IsCaller, IsLeaveRoom}
use Rattle.shared_service.specs.Turns.{HasLeft, MayLeave, leave_by}
use Rattle.shared_service.proofs.Entries.{enter_asked}
use Rattle.shared_service.proofs.FirstTurn.{leave_after}
use Rattle.shared_service.proofs.Logs.{same_client, same_connected, same_out}
use Rattle.shared_service.proofs.Seeing.{caller_after, idle_left}
use Rattle.shared_service.proofs.StepNumbers.{newest}
use Rattle.shared_service.proofs.Walking.{done_later, log_later, puts_later, waited_on}

-- ---- a job that ran

done_on : (found : Option Open) (work : Work) (job : Job) (back : JobDone) → ((plan : Plan) (limited : Bool) (key nonce aad text : List ℕ) (w : Work) → JobFor job plan limited key nonce aad text w → ComesTo back plan limited key nonce aad text w)
    → IfErr back.result (λ code. is_refusal code ≡ true) → IsJobOn found work job → IsDoneOn found work back
done_on None work job back comes refuses is = absurd is
done_on (Some o) work job back comes refuses is = record { comes = comes _ _ _ _ _ _ work is; refuses = refuses }

pub back_ran : {N : Type 0} (name : ServiceId N) (front : List BookEntry) (ticket : ℕ) (job : Job) (back : JobDone) → ((plan : Plan) (limited : Bool) (key nonce aad text : List ℕ) (w : Work) → JobFor job plan limited key nonce aad text w → ComesTo back plan limited key nonce aad text w)
    → IfErr back.result (λ code. is_refusal code ≡ true) → IsJobAway name front ticket job → IsBack name front ticket back
back_ran name front ticket job back comes refuses away = λ s of. by_out s (ticket_at (history_of (log_of front)) ticket) (away s of)
  where
    by_out : (s : Setup) (o : Option Entered) → IsJobOut s (history_of (log_of front)) o job → IsDoneOut s (history_of (log_of front)) o (Some back)
    by_out s None out = absurd out
    by_out s (Some entered) out = done_on (operation_at s (history_of (log_of front)) entered.op) entered.work job back comes refuses out

-- ---- its ticket is still out

facts_before : (setup : Setup) (later log : List BookEntry) → AllFacts setup (later ++ log) → AllFacts setup log
facts_before setup [] log all = all
facts_before setup (e ∷ later) log all = facts_before setup later log all.1

some_entered : (o : Option Entered) → is_some o ≡ true → (entered : Entered) × (o ≡ Some entered)
some_entered None e = cc
some_entered (Some entered) e = (entered, refl)

entered_at : (setup : Setup) (pass ticket : ℕ) (front book : List BookEntry) → AllFacts setup (log_of book) → IsPrefix front book → out_of pass (log_of front) ≡ Some ticket → (entered : Entered) × (ticket_at (history_of (log_of front)) ticket ≡ Some entered)
entered_at setup pass ticket front book all p out =
    let facts = facts_before setup (log_of p.0) (log_of front) (subst (AllFacts setup) (log_later front p.0 book p.1) all) in
    some_entered (ticket_at (history_of (log_of front)) ticket) ((newest setup (log_of front) facts).tickets.out_is pass ticket out)

pub may_leave : {N : Type 0} (name : ServiceId N) (pass ticket : ℕ) (back : JobDone) (room : FieldSizes) (front book : List BookEntry) → ((s : Setup) → IsSetupOf name s → AllFacts s (log_of book)) → IsFrontOf by pass front book → out_of pass (log_of front) ≡ Some ticket
    → IsBack name front ticket back → IsLeaveRoom name front ticket room → MayLeave name (log_of book) pass ticket back room
may_leave name pass ticket back room front book facts begins out is has = record {
  is_out = sym (same_out pass front book begins.owned) ∙ out;
  back_is = λ s of.
      let found = entered_at s pass ticket front book (facts s of) begins.begins out in
      done_later s (history_of (log_of front)) (history_of (log_of book)) ticket found.0 back (waited_on s pass ticket front book found.0 (facts s of) begins.begins begins.owned out found.1) found.1 (is s of);
  has_room = λ b e. record {
    out = has.out;
    few = has.few;
    room_is = has.room_is;
    enough = λ s of.
        let found = entered_at s pass ticket front book (facts s of) begins.begins out in
        subst (λ (l : List BookEntry). PutsOut s (history_of l) ticket has.out) (sym e)
        (puts_later s (history_of (log_of front)) (history_of (log_of book)) ticket has.out found.0 (waited_on s pass ticket front book found.0 (facts s of) begins.begins begins.owned out found.1) found.1 (has.enough s of));
  };
}

-- ---- the whole call

trans : (xs ys zs : List BookEntry) → IsPrefix xs ys → IsPrefix ys zs → IsPrefix xs zs
trans xs ys zs p q = (p.0 ++ q.0, sym (append_assoc xs p.0 q.0) ∙ (ap (λ (w : List BookEntry). w ++ q.0) p.1 ∙ q.1))

pub call_left : {N : Type 0} (name : ServiceId N) (pass client : ℕ) (connected : Bool) (reading : Reading) (act : Act) (old front book new : List BookEntry) (first from last ticket : ℕ) (room : FieldSizes) (reply : Reply)
    → IsEntered name pass client connected reading act old front first ticket room → IsFrontOf by pass front book → ((more : List BookEntry) → new ≡ book ++ more → Extends by pass front new more)
    → HasLeft name pass client reading ticket book new reply → AreNumbers book new from last → IsCall pass reading act old new (record { first = first; last = last; reply = reply })
call_left name pass client connected reading act old front book new first from last ticket room reply entered begins extends left numbers =
    let e : List BookEntry = entries_of pass entered.s in
    let l : List BookEntry = entries_of pass left.s in
    let grows = extends l left.grown in
    let p = begins.begins in
    let whole : new ≡ (entered.log ++ e) ++ (p.0 ++ l) =
    left.grown ∙ (ap (λ (w : List BookEntry). w ++ l) (sym p.1) ∙ (append_assoc front p.0 l ∙ ap (λ (w : List BookEntry). w ++ (p.0 ++ l)) entered.grown)) in
    Recorded (record {
      log = entered.log;
      more = e ++ l;
      begins = entered.begins;
      goes_on = trans old front new (trans old entered.log front entered.begins.begins (e, sym entered.grown)) grows.begins;
      grown = grows.grown ∙ (ap (λ (w : List BookEntry). w ++ l) entered.own_grown ∙ append_assoc (lock.own by pass old) e l);
      adds = Twice entered.s left.s ticket p.0 entered.enters entered.event_is entered.gives (left.event_is ∙ ap (λ (c : ℕ). leave_by reading c ticket) entered.client_was) left.none left.reply_is left.has_memory refl whole;
      within = inr entered.within;
      first_is = entered.first_is;
      last_is = numbers.last_is;
      has_ticket = left.has_ticket;
      parts = λ q. absurd (differ q (enter_asked act entered.enters).1);
    })
  where
    differ : is_parting act pass (log_of entered.log) ≡ true → is_disconnect act ≡ false → ⊥
    differ q other = let none : is_parting act pass (log_of entered.log) ≡ false = ap (λ (b : Bool). b && is_connected pass (log_of entered.log)) other in cc

pub caller_left : {N : Type 0} (name : ServiceId N) (pass client : ℕ) (connected : Bool) (reading : Reading) (act : Act) (old front book new : List BookEntry) (first ticket : ℕ) (room : FieldSizes) (reply : Reply)
    → IsEntered name pass client connected reading act old front first ticket room → IsFrontOf by pass front book → HasLeft name pass client reading ticket book new reply → IsCaller pass client connected (log_of new)
caller_left name pass client connected reading act old front book new first ticket room reply entered begins left =
    let leaves : left.s.event.act ≡ Leave ticket = ap (λ (e : Event). e.act) left.event_is in
    let after : ◌≡◌ {A = ℕ × Bool} (client, connected) (client_after (kind_of left.s.event.act) left.s.reply (client, connected)) =
    sym (leave_after ticket left.s.reply (client, connected)) ∙ ap (λ (a : Act). client_after (kind_of a) left.s.reply (client, connected)) (sym leaves) in
    let now = caller_after pass left.s book new client connected (client, connected) left.grown
    (entered.client_is ∙ ap (λ (o : Option ℕ). unwrap_or o 0) (same_client pass front book begins.owned)) (entered.connected_is ∙ same_connected pass front book begins.owned) after in
    record { client_is = now.0; connected_is = now.1; idle = idle_left pass left.s book new left.grown (ap is_leave leaves) }

-- one entry
pub left_one : {N : Type 0} (name : ServiceId N) (pass client : ℕ) (reading : Reading) (ticket : ℕ) (old new : List BookEntry) (reply : Reply) → HasLeft name pass client reading ticket old new reply → length new ≡ length old + 1
left_one name pass client reading ticket old new reply left =
    let one : length (entries_of pass left.s) ≡ 1 = ap (λ (o : Option Rattle.tags.specs.declared.settled.Settled.Settled). length (Rattle.shared_service.specs.Calls.settling_by pass left.s.before left.s.behind o ++ Rattle.shared_service.proofs.Logs.acted_of pass left.s ∷ [])) left.none in
    ap length left.grown ∙ (length-append old (entries_of pass left.s) ∙ ap (λ (k : ℕ). length old + k) one)

pub enter_parts : (act : Act) (reply : Reply) → is_enter act ≡ true → act ≡ Disconnect → is_done reply ≡ true
enter_parts act reply enters is = absurd (differ (sym (ap is_enter is) ∙ enters))
  where
    differ : false ≡ true → ⊥
    differ e = cc
