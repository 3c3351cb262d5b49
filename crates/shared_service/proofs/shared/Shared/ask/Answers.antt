use Rattle.std.proofs.Common.{◌≡◌, ℕ, Bool, true, List, None, Ok, Err, refl, sym, ap, ◌∙◌, arith}
use Rattle.std.proofs.lemmas.List.{length-reverse}
use Rattle.std.proofs.Math.Logic.{∥∥₁_elim, ∥∥₁_map}
use Rattle.std.proofs.Math.Bool.{Bool-set}
use Rattle.turn_lock.specs.Passes.{seen, turn_number}
use Rattle.turn_lock.specs.Resting.{resting_front, resting_number}
use Rattle.service_book.specs.declared.entry.BookEntry.{BookEntry}
use Rattle.service_book.specs.Book.{log_of, ticket_in}
use Rattle.shared_service.specs.Away.{IsEntered, IsJobAway}
use Rattle.shared_service.specs.Calls.{IsCall}
use Rattle.shared_service.specs.Prepared.{act_in}
use Rattle.shared_service.specs.DeskWords.{desk_book, desk_name}
use Rattle.shared_service.specs.Kinds.{client_after, kind_of}
use Rattle.shared_service.specs.Owning.{event_for}
use Rattle.shared_service.specs.Passes.{front_of, number_of, service_lock, service_name}
use Rattle.shared_service.specs.Requests.{IsCaller, IsRequested}
use Rattle.shared_service.specs.declared.shared.turns.ClientAct.{ClientAct}
use Rattle.shared_service.specs.declared.shared.away.Sent.{Sent}
use Rattle.shared_service.proofs.Calling.{recorded_once}
use Rattle.shared_service.proofs.FirstTurn.{after_connected, call_at, caller_at, enter_after, entered_at, entered_made, extends_at, first_caller, front_at, job_at, job_away, refused_so, requested_parts, seen_made, sent_none, sent_some, turned_asks}
use Rattle.shared_service.proofs.Longer.{added_some, appends_by, longer_by}
use Rattle.shared_service.proofs.Preparing.{act_is, at_reading, comes_of, told_of}
use Rattle.shared_service.proofs.shared.Shared.ask.Goals as goal

pub request-requires-clause-comes : goal.request-requires-clause-comes
request-requires-clause-comes g c =
    let self = c.args.self.now in
    let mine = c.args.pass in
    let number : resting_number mine.seat ≡ c.number-number.result = sym c.number-number.ensures in
    let begins = front_at _ c.number-number.result _ (resting_front mine.seat) (desk_book c.enter-turn.result.1) (c.wake.ensures.same.0 ∙ number) c.wake.ensures.same.1 c.enter-turn.ensures.later in
    comes_of c.number-number.result mine.kept.client mine.kept.connected c.args.reading c.args.request (log_of (desk_book c.enter-turn.result.1)) c.of-coming.result
    (first_caller (service_name self) (resting_number mine.seat) c.number-number.result mine.kept.client mine.kept.connected (resting_front mine.seat) (desk_book c.enter-turn.result.1) number
    (mine.seen (service_lock self) (service_name self) c.requires.ours.resting) begins.owned)
    c.of-coming.ensures

pub turned_away-requires-clause-same : goal.turned_away-requires-clause-same
turned_away-requires-clause-same g c =
    let self = c.args.self.now in
    let mine = c.args.pass in
    let n = c.number-number.result in
    let before : List BookEntry = desk_book c.enter-turn.result.1 in
    let number : resting_number mine.seat ≡ n = sym c.number-number.ensures in
    let begins = front_at _ n _ (resting_front mine.seat) before (c.wake.ensures.same.0 ∙ number) c.wake.ensures.same.1 c.enter-turn.ensures.later in
    let told = told_of (desk_name c.enter-turn.result.1) n c.args.reading (act_in c.of-coming.result) c.args.request before (desk_book c.request.new.self) (Err c.in-Err.code)
    (act_is c.args.reading mine.kept.client mine.kept.connected c.args.request c.of-coming.result c.of-coming.ensures)
    (c.in-Err.ensures.requests c.args.reading (at_reading c.args.reading mine.kept.client mine.kept.connected c.args.request c.of-coming.result c.of-coming.ensures)) in
    let so = refused_so (desk_name c.enter-turn.result.1) n c.args.reading c.args.request (front_of mine) before (desk_book c.request.new.self) c.in-Err.code begins told in
    so.0 ∙ sym c.enter-turn.ensures.value

pub overflow_add-added : goal.overflow_add-added
overflow_add-added g c =
    let self = c.args.self.now in
    let mine = c.args.pass in
    let told = c.in-Ok.ensures.requests c.args.reading (at_reading c.args.reading mine.kept.client mine.kept.connected c.args.request c.of-coming.result c.of-coming.ensures) in
    let last = told.1.last_is in
    let few = c.request.new.self.few in
    omega (arith, length-reverse (desk_book c.request.new.self))

pub overflow_sub-added : goal.overflow_sub-added
overflow_sub-added g c =
    let self = c.args.self.now in
    let mine = c.args.pass in
    let told = c.in-Ok.ensures.requests c.args.reading (at_reading c.args.reading mine.kept.client mine.kept.connected c.args.request c.of-coming.result c.of-coming.ensures) in
    let first = told.1.first_is in
    let last = told.1.last_is in
    let longer = longer_by c.number-number.result (desk_book c.enter-turn.result.1) (desk_book c.request.new.self) told.2 in
    omega arith

pub leave-requires-clause-grown : goal.leave-requires-clause-grown
leave-requires-clause-grown g c =
    let self = c.args.self.now in
    let mine = c.args.pass in
    let told = c.in-Ok.ensures.requests c.args.reading (at_reading c.args.reading mine.kept.client mine.kept.connected c.args.request c.of-coming.result c.of-coming.ensures) in
    let turned : turn_number c.enter-turn.result.0 ≡ c.number-number.result = c.enter-turn.ensures.number ∙ (c.wake.ensures.same.0 ∙ sym c.number-number.ensures) in
    rw (turned, c.enter-turn.ensures.value)
    (appends_by c.number-number.result c.in-Ok.step.first c.in-Ok.step.last (desk_book c.enter-turn.result.1) (desk_book c.request.new.self) told.2 told.1)

pub turned_away-requires-clause-caller : goal.turned_away-requires-clause-caller
turned_away-requires-clause-caller g c =
    let self = c.args.self.now in
    let mine = c.args.pass in
    let n = c.number-number.result in
    let before : List BookEntry = desk_book c.enter-turn.result.1 in
    let number : resting_number mine.seat ≡ n = sym c.number-number.ensures in
    let begins = front_at _ n _ (resting_front mine.seat) before (c.wake.ensures.same.0 ∙ number) c.wake.ensures.same.1 c.enter-turn.ensures.later in
    let caller : IsCaller n mine.kept.client mine.kept.connected (log_of before) =
    first_caller (service_name self) (resting_number mine.seat) n mine.kept.client mine.kept.connected (resting_front mine.seat) before number (mine.seen (service_lock self) (service_name self) c.requires.ours.resting) begins.owned in
    let told = told_of (desk_name c.enter-turn.result.1) n c.args.reading (act_in c.of-coming.result) c.args.request before (desk_book c.request.new.self) (Err c.in-Err.code)
    (act_is c.args.reading mine.kept.client mine.kept.connected c.args.request c.of-coming.result c.of-coming.ensures)
    (c.in-Err.ensures.requests c.args.reading (at_reading c.args.reading mine.kept.client mine.kept.connected c.args.request c.of-coming.result c.of-coming.ensures)) in
    let so = refused_so (desk_name c.enter-turn.result.1) n c.args.reading c.args.request (front_of mine) before (desk_book c.request.new.self) c.in-Err.code begins told in
    caller_at (turn_number c.enter-turn.result.0) n mine.kept.client mine.kept.connected before (desk_book c.request.new.self) (c.enter-turn.ensures.number ∙ (c.wake.ensures.same.0 ∙ number)) so.0 caller

pub returns-in-Err : goal.returns-in-Err
returns-in-Err g c =
    let self = c.args.self.now in
    let mine = c.args.pass in
    let n = c.number-number.result in
    let old = c.enter-turn.result.1 in
    let new = c.request.new.self in
    let before : List BookEntry = desk_book old in
    let number : resting_number mine.seat ≡ n = sym c.number-number.ensures in
    let begins = front_at _ n _ (resting_front mine.seat) before (c.wake.ensures.same.0 ∙ number) c.wake.ensures.same.1 c.enter-turn.ensures.later in
    let caller : IsCaller n mine.kept.client mine.kept.connected (log_of before) =
    first_caller (service_name self) (resting_number mine.seat) n mine.kept.client mine.kept.connected (resting_front mine.seat) before number (mine.seen (service_lock self) (service_name self) c.requires.ours.resting) begins.owned in
    let told = told_of (desk_name old) n c.args.reading (act_in c.of-coming.result) c.args.request before (desk_book new) (Err c.in-Err.code)
    (act_is c.args.reading mine.kept.client mine.kept.connected c.args.request c.of-coming.result c.of-coming.ensures)
    (c.in-Err.ensures.requests c.args.reading (at_reading c.args.reading mine.kept.client mine.kept.connected c.args.request c.of-coming.result c.of-coming.ensures)) in
    let so = refused_so (desk_name old) n c.args.reading c.args.request (front_of mine) before (desk_book new) c.in-Err.code begins told in
    record {
      asks = turned_asks self mine c.args.reading c.args.request n (turn_number c.enter-turn.result.0) mine.kept.client before (desk_book new) c.in-Err.code c.turned_away.result number (c.enter-turn.ensures.number ∙ (c.wake.ensures.same.0 ∙ number)) so.0 caller so.1
          so.2 c.turned_away.ensures.turned;
    }

pub seated-requires-clause-seen : goal.seated-requires-clause-seen
seated-requires-clause-seen g c =
    let self = c.args.self.now in
    let mine = c.args.pass in
    let n = c.number-number.result in
    let old = c.enter-turn.result.1 in
    let new = c.request.new.self in
    let before : List BookEntry = desk_book old in
    let number : resting_number mine.seat ≡ n = sym c.number-number.ensures in
    let begins = front_at _ n _ (resting_front mine.seat) before (c.wake.ensures.same.0 ∙ number) c.wake.ensures.same.1 c.enter-turn.ensures.later in
    let caller : IsCaller n mine.kept.client mine.kept.connected (log_of before) =
    first_caller (service_name self) (resting_number mine.seat) n mine.kept.client mine.kept.connected (resting_front mine.seat) before number (mine.seen (service_lock self) (service_name self) c.requires.ours.resting) begins.owned in
    let made = c.in-Ok.step in
    let told = told_of (desk_name old) n c.args.reading (act_in c.of-coming.result) c.args.request before (desk_book new) (Ok made)
    (act_is c.args.reading mine.kept.client mine.kept.connected c.args.request c.of-coming.result c.of-coming.ensures)
    (c.in-Ok.ensures.requests c.args.reading (at_reading c.args.reading mine.kept.client mine.kept.connected c.args.request c.of-coming.result c.of-coming.ensures)) in
    let next : ℕ × Bool = (c.after-kept.result.client, c.after-kept.result.connected) in
    let is : next ≡ client_after (kind_of c.args.request) made.reply (mine.kept.client, mine.kept.connected) =
    c.after-kept.ensures.client ∙ ap (λ (k : ClientAct). client_after k made.reply (mine.kept.client, mine.kept.connected)) (c.kind_of-kind.ensures ∙ ap kind_of c.act.ensures.act) in
    let turned : turn_number c.enter-turn.result.0 ≡ n = c.enter-turn.ensures.number ∙ (c.wake.ensures.same.0 ∙ number) in
    let rested : resting_number c.rest-seat.result ≡ n = c.rest-seat.ensures.same.0 ∙ (c.leave.ensures.number ∙ turned) in
    let left = c.leave.ensures.front (added_some made.first made.last (desk_book old) (desk_book new) (longer_by n (desk_book old) (desk_book new) told.2) told.1) in
    let fronted : resting_front c.rest-seat.result ≡ desk_book new = c.rest-seat.ensures.same.1 ∙ left in
    let extends = extends_at _ n _ (resting_front mine.seat) _ (desk_book new) (desk_book new) before (seen c.enter-turn.result.0) turned (c.enter-turn.ensures.front ∙ c.wake.ensures.same.1) left c.enter-turn.ensures.value c.leave.ensures.own in
    seen_made g.D.Disk g.N.Entropy (desk_name old) new.name (service_name self) new.engine new.disk new.entropy before (desk_book new) (resting_front c.rest-seat.result) n (resting_number c.rest-seat.result) mine.kept.client mine.kept.connected next
    c.args.reading c.args.request made.reply made.job made.leave new.stands told.0 caller is (sym c.sent_with.ensures ∙ c.in_default.is) (c.request.ensures.name ∙ c.enter-turn.ensures.fits) rested fronted

pub returns-in_default : goal.returns-in_default
returns-in_default g c =
    let self = c.args.self.now in
    let mine = c.args.pass in
    let n = c.number-number.result in
    let old = c.enter-turn.result.1 in
    let new = c.request.new.self in
    let before : List BookEntry = desk_book old in
    let number : resting_number mine.seat ≡ n = sym c.number-number.ensures in
    let begins = front_at _ n _ (resting_front mine.seat) before (c.wake.ensures.same.0 ∙ number) c.wake.ensures.same.1 c.enter-turn.ensures.later in
    let caller : IsCaller n mine.kept.client mine.kept.connected (log_of before) =
    first_caller (service_name self) (resting_number mine.seat) n mine.kept.client mine.kept.connected (resting_front mine.seat) before number (mine.seen (service_lock self) (service_name self) c.requires.ours.resting) begins.owned in
    let made = c.in-Ok.step in
    let told = told_of (desk_name old) n c.args.reading (act_in c.of-coming.result) c.args.request before (desk_book new) (Ok made)
    (act_is c.args.reading mine.kept.client mine.kept.connected c.args.request c.of-coming.result c.of-coming.ensures)
    (c.in-Ok.ensures.requests c.args.reading (at_reading c.args.reading mine.kept.client mine.kept.connected c.args.request c.of-coming.result c.of-coming.ensures)) in
    let next : ℕ × Bool = (c.after-kept.result.client, c.after-kept.result.connected) in
    let is : next ≡ client_after (kind_of c.args.request) made.reply (mine.kept.client, mine.kept.connected) =
    c.after-kept.ensures.client ∙ ap (λ (k : ClientAct). client_after k made.reply (mine.kept.client, mine.kept.connected)) (c.kind_of-kind.ensures ∙ ap kind_of c.act.ensures.act) in
    let turned : turn_number c.enter-turn.result.0 ≡ n = c.enter-turn.ensures.number ∙ (c.wake.ensures.same.0 ∙ number) in
    let rested : resting_number c.rest-seat.result ≡ n = c.rest-seat.ensures.same.0 ∙ (c.leave.ensures.number ∙ turned) in
    let left = c.leave.ensures.front (added_some made.first made.last (desk_book old) (desk_book new) (longer_by n (desk_book old) (desk_book new) told.2) told.1) in
    let fronted : resting_front c.rest-seat.result ≡ desk_book new = c.rest-seat.ensures.same.1 ∙ left in
    let extends = extends_at _ n _ (resting_front mine.seat) _ (desk_book new) (desk_book new) before (seen c.enter-turn.result.0) turned (c.enter-turn.ensures.front ∙ c.wake.ensures.same.1) left c.enter-turn.ensures.value c.leave.ensures.own in
    let none : IsRequested (desk_name old) n (event_for c.args.reading c.args.request n (log_of before)) before (desk_book new) made.reply made.job made.leave → ticket_in made.reply ≡ None = λ asked.
    sent_none (desk_name old) (desk_book new) (ticket_in made.reply) made.job made.leave asked.goes (sym c.sent_with.ensures ∙ c.in_default.is) in
    let call : IsRequested (desk_name old) n (event_for c.args.reading c.args.request n (log_of before)) before (desk_book new) made.reply made.job made.leave
    → IsCall (number_of mine) c.args.reading c.args.request (front_of mine) (front_of c.seated.result) (record { first = made.first; last = made.last; reply = made.reply }) = λ asked.
    call_at (number_of mine) n c.args.reading c.args.request (front_of mine) (desk_book new) (front_of c.seated.result) (record { first = made.first; last = made.last; reply = made.reply }) (sym number) (c.seated.ensures.front ∙ fronted)
    (recorded_once (desk_name old) n c.args.reading c.args.request (front_of mine) before (desk_book new) (record { first = made.first; last = made.last; reply = made.reply }) made.job made.leave begins extends asked (none asked) told.1) in
    record {
      asks = record {
        ours = c.seated.ensures.ours;
        number_is = c.seated.ensures.number ∙ (rested ∙ sym number);
        calls = ∥∥₁_map told.0 call;
        connected_is = c.seated.ensures.connected ∙ after_connected c.args.request made.reply mine.kept.client mine.kept.connected next is;
        parts = λ p on. ∥∥₁_elim told.0 (Bool-set _ _) (λ asked. requested_parts c.args.request n (log_of before) mine.kept.connected made.reply caller.connected_is asked.parts p on);
        told = told.3;
      };
    }

pub returns : goal.returns
returns g c =
    let self = c.args.self.now in
    let mine = c.args.pass in
    let n = c.number-number.result in
    let old = c.enter-turn.result.1 in
    let new = c.request.new.self in
    let before : List BookEntry = desk_book old in
    let number : resting_number mine.seat ≡ n = sym c.number-number.ensures in
    let begins = front_at _ n _ (resting_front mine.seat) before (c.wake.ensures.same.0 ∙ number) c.wake.ensures.same.1 c.enter-turn.ensures.later in
    let caller : IsCaller n mine.kept.client mine.kept.connected (log_of before) =
    first_caller (service_name self) (resting_number mine.seat) n mine.kept.client mine.kept.connected (resting_front mine.seat) before number (mine.seen (service_lock self) (service_name self) c.requires.ours.resting) begins.owned in
    let made = c.in-Ok.step in
    let told = told_of (desk_name old) n c.args.reading (act_in c.of-coming.result) c.args.request before (desk_book new) (Ok made)
    (act_is c.args.reading mine.kept.client mine.kept.connected c.args.request c.of-coming.result c.of-coming.ensures)
    (c.in-Ok.ensures.requests c.args.reading (at_reading c.args.reading mine.kept.client mine.kept.connected c.args.request c.of-coming.result c.of-coming.ensures)) in
    let next : ℕ × Bool = (c.after-kept.result.client, c.after-kept.result.connected) in
    let is : next ≡ client_after (kind_of c.args.request) made.reply (mine.kept.client, mine.kept.connected) =
    c.after-kept.ensures.client ∙ ap (λ (k : ClientAct). client_after k made.reply (mine.kept.client, mine.kept.connected)) (c.kind_of-kind.ensures ∙ ap kind_of c.act.ensures.act) in
    let turned : turn_number c.enter-turn.result.0 ≡ n = c.enter-turn.ensures.number ∙ (c.wake.ensures.same.0 ∙ number) in
    let rested : resting_number c.rest-seat.result ≡ n = c.rest-seat.ensures.same.0 ∙ (c.leave.ensures.number ∙ turned) in
    let left = c.leave.ensures.front (added_some made.first made.last (desk_book old) (desk_book new) (longer_by n (desk_book old) (desk_book new) told.2) told.1) in
    let fronted : resting_front c.rest-seat.result ≡ desk_book new = c.rest-seat.ensures.same.1 ∙ left in
    let extends = extends_at _ n _ (resting_front mine.seat) _ (desk_book new) (desk_book new) before (seen c.enter-turn.result.0) turned (c.enter-turn.ensures.front ∙ c.wake.ensures.same.1) left c.enter-turn.ensures.value c.leave.ensures.own in
    let x : Sent = c.in-Some.field-0 in
    let goes = sent_some (ticket_in made.reply) made.job made.leave x (sym c.sent_with.ensures ∙ c.in-Some.is) in
    let enters : Rattle.rule_model.specs.Acts.is_enter c.args.request ≡ true = ∥∥₁_elim told.0 (Bool-set _ _) (λ asked. asked.enters x.ticket goes.0) in
    let entered : IsRequested (desk_name old) n (event_for c.args.reading c.args.request n (log_of before)) before (desk_book new) made.reply made.job made.leave
    → IsEntered (service_name self) (number_of mine) next.0 next.1 c.args.reading c.args.request (front_of mine) (resting_front c.rest-seat.result) made.first x.ticket x.room = λ asked.
    entered_at (desk_name old) (service_name self) n (number_of mine) next.0 next.1 c.args.reading c.args.request (front_of mine) (desk_book new) (resting_front c.rest-seat.result) made.first x.ticket x.room c.enter-turn.ensures.fits (sym number) fronted
    (entered_made (desk_name old) n mine.kept.client mine.kept.connected next c.args.reading c.args.request (front_of mine) before (desk_book new) made.reply made.job made.leave made.first made.last x begins extends asked told.1 caller is goes) in
    let away : IsRequested (desk_name old) n (event_for c.args.reading c.args.request n (log_of before)) before (desk_book new) made.reply made.job made.leave → IsJobAway (service_name self) (resting_front c.rest-seat.result) x.ticket x.job = λ asked.
    job_at (desk_name old) (service_name self) (desk_book new) (resting_front c.rest-seat.result) x.ticket x.job c.enter-turn.ensures.fits fronted
    (job_away (desk_name old) n (event_for c.args.reading c.args.request n (log_of before)) before (desk_book new) made.reply made.job x asked.made goes.0 goes.1) in
    record {
      asks = (
        record {
          resting = c.rest-seat.ensures.ours;
          maker_is = rw c.after-kept.ensures.maker c.requires.ours.maker_is;
          number_is = rested ∙ sym number;
          reading_is = refl;
          enters = enters;
          connected_is = ap (λ (p : ℕ × Bool). p.1) (is ∙ enter_after c.args.request made.reply (mine.kept.client, mine.kept.connected) enters);
          entered = ∥∥₁_map told.0 entered;
        },
        ∥∥₁_map told.0 away,
      );
    }
