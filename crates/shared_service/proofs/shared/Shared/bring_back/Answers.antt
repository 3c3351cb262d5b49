use Rattle.std.proofs.Common.{◌≡◌, ℕ, ◌+◌, ◌≤◌, List, refl, sym, ◌∙◌, subst, arith, length}
use Rattle.std.proofs.Math.Logic.{∥∥₁_elim, ∥∥₁_map₂}
use Rattle.std.proofs.Math.Bridge.{le_prop}
use Rattle.ks_outside.specs.declared.clock.Reading.{Reading}
use Rattle.turn_lock.specs.Fronts.{Appends}
use Rattle.turn_lock.specs.Passes.{seen, turn_number}
use Rattle.turn_lock.specs.Resting.{resting_front, resting_number}
use Rattle.service_book.specs.declared.entry.BookEntry.{BookEntry}
use Rattle.shared_service.specs.declared.name.ServiceId.{ServiceId}
use Rattle.shared_service.specs.Away.{IsBack, IsEntered}
use Rattle.shared_service.specs.Calls.{IsCall}
use Rattle.shared_service.specs.DeskWords.{desk_book, desk_name}
use Rattle.shared_service.specs.Desks.{HasSeen}
use Rattle.shared_service.specs.Owning.{by}
use Rattle.shared_service.specs.Passes.{connected_of, front_of, number_of, service_name}
use Rattle.shared_service.specs.Turns.{HasLeft}
use Rattle.shared_service.proofs.FirstTurn.{call_at, entered_at, extends_at, front_at, left_connected}
use Rattle.shared_service.proofs.Longer.{appends_one, longer_by}
use Rattle.shared_service.proofs.Seeing.{seen_of}
use Rattle.shared_service.proofs.SecondTurn.{call_left, caller_left, enter_parts, left_one, may_leave}
use Rattle.shared_service.proofs.Truncating.{three}
use Rattle.shared_service.proofs.shared.Shared.bring_back.Goals as goal

pub bring-step-requires : goal.bring-step-requires
bring-step-requires g c =
    let self = c.args.self.now in
    let away = c.args.away in
    let n = c.number-number.result in
    let old = c.enter-turn.result.1 in
    let out = c.requires.away in
    let front : List BookEntry = resting_front away.seat in
    let begins = front_at _ n _ front (desk_book old) (c.wake.ensures.same.0 ∙ sym c.number-number.ensures) c.wake.ensures.same.1 c.enter-turn.ensures.later in
    record {
      may = three old.stands out.is.entered c.requires.back (λ t e b.
          let entered = entered_at (service_name self) (desk_name old) (number_of out.pass) n away.kept.client away.kept.connected out.reading out.act (front_of out.pass) front front away.first away.ticket away.room
          (sym c.enter-turn.ensures.fits) (sym (c.number-number.ensures ∙ out.is.number_is)) refl e in
          may_leave (desk_name old) n away.ticket c.args.back away.room front (desk_book old) t.facts begins entered.is_out
          (subst (λ (name : ServiceId g.row.N.Denot). IsBack name front away.ticket c.args.back) (sym c.enter-turn.ensures.fits) b) entered.has_room);
    }

pub leave-requires-clause-grown : goal.leave-requires-clause-grown
leave-requires-clause-grown g c =
    let away = c.args.away in
    let n = c.number-number.result in
    let before : List BookEntry = desk_book c.enter-turn.result.1 in
    let after : List BookEntry = desk_book c.bring-step.new.self in
    let few : length after ≤ length before + 1 = ∥∥₁_elim c.bring-step.ensures.left le_prop (λ l.
    let one = left_one (desk_name c.enter-turn.result.1) n away.kept.client away.reading away.ticket before after c.bring-step.result.reply l in omega arith) in
    let some = longer_by n before after c.bring-step.ensures.grown in
    let turned : turn_number c.enter-turn.result.0 ≡ n = c.enter-turn.ensures.number ∙ (c.wake.ensures.same.0 ∙ sym c.number-number.ensures) in
    subst (λ (z : ℕ × List BookEntry). Appends by z.0 1 z.1 after) (λ i. (sym turned i, sym c.enter-turn.ensures.value i)) (appends_one n before after c.bring-step.ensures.grown (omega arith))

pub seated-requires-clause-seen : goal.seated-requires-clause-seen
seated-requires-clause-seen g c =
    let self = c.args.self.now in
    let away = c.args.away in
    let n = c.number-number.result in
    let old = c.enter-turn.result.1 in
    let new = c.bring-step.new.self in
    let out = c.requires.away in
    let front : List BookEntry = resting_front away.seat in
    let begins = front_at _ n _ front (desk_book old) (c.wake.ensures.same.0 ∙ sym c.number-number.ensures) c.wake.ensures.same.1 c.enter-turn.ensures.later in
    let turned : turn_number c.enter-turn.result.0 ≡ n = c.enter-turn.ensures.number ∙ (c.wake.ensures.same.0 ∙ sym c.number-number.ensures) in
    let rested : resting_number c.rest-seat.result ≡ n = c.rest-seat.ensures.same.0 ∙ (c.leave.ensures.number ∙ turned) in
    let fronted : resting_front c.rest-seat.result ≡ desk_book new = c.rest-seat.ensures.same.1 ∙ c.leave.ensures.front (omega arith) in
    let named : desk_name new ≡ service_name self = c.bring-step.ensures.name ∙ c.enter-turn.ensures.fits in
    three new.stands out.is.entered c.bring-step.ensures.left (λ t e l.
    let entered = entered_at (service_name self) (desk_name old) (number_of out.pass) n away.kept.client away.kept.connected out.reading out.act (front_of out.pass) front front away.first away.ticket away.room
    (sym c.enter-turn.ensures.fits) (sym (c.number-number.ensures ∙ out.is.number_is)) refl e in
    let left = subst (λ (r : Reading). HasLeft (desk_name old) n away.kept.client r away.ticket (desk_book old) (desk_book new) c.bring-step.result.reply) out.is.reading_is l in
    subst (λ (z : ServiceId g.row.N.Denot × ℕ × List BookEntry). HasSeen g.N.Entropy z.0 z.1 z.2 away.kept.client away.kept.connected) (λ i. (named i, sym rested i, sym fronted i))
    (seen_of g.D.Disk g.N.Entropy new.name new.engine new.disk new.entropy (desk_book new) n away.kept.client away.kept.connected t
    (caller_left (desk_name old) n away.kept.client away.kept.connected out.reading out.act (front_of out.pass) front (desk_book old) (desk_book new) away.first away.ticket away.room c.bring-step.result.reply entered begins left)))

pub returns : goal.returns
returns g c =
    let self = c.args.self.now in
    let away = c.args.away in
    let n = c.number-number.result in
    let old = c.enter-turn.result.1 in
    let new = c.bring-step.new.self in
    let made = c.bring-step.result in
    let front : List BookEntry = resting_front away.seat in
    let begins = front_at _ n _ front (desk_book old) (c.wake.ensures.same.0 ∙ sym c.number-number.ensures) c.wake.ensures.same.1 c.enter-turn.ensures.later in
    let turned : turn_number c.enter-turn.result.0 ≡ n = c.enter-turn.ensures.number ∙ (c.wake.ensures.same.0 ∙ sym c.number-number.ensures) in
    let rested : resting_number c.rest-seat.result ≡ n = c.rest-seat.ensures.same.0 ∙ (c.leave.ensures.number ∙ turned) in
    let whole = c.leave.ensures.front (omega arith) in
    let fronted : front_of c.seated.result ≡ desk_book new = c.seated.ensures.front ∙ (c.rest-seat.ensures.same.1 ∙ whole) in
    let extends = extends_at _ n _ front _ (desk_book new) (desk_book new) (desk_book old) (seen c.enter-turn.result.0) turned (c.enter-turn.ensures.front ∙ c.wake.ensures.same.1) whole c.enter-turn.ensures.value c.leave.ensures.own in
    record {
      brings = λ pass reading act w.
          let call : IsEntered (service_name self) (number_of pass) away.kept.client away.kept.connected reading act (front_of pass) front away.first away.ticket away.room
          → HasLeft (desk_name old) n away.kept.client away.reading away.ticket (desk_book old) (desk_book new) made.reply
          → IsCall (number_of pass) reading act (front_of pass) (front_of c.seated.result) (record { first = away.first; last = made.last; reply = made.reply }) = λ e l.
          let entered = entered_at (service_name self) (desk_name old) (number_of pass) n away.kept.client away.kept.connected reading act (front_of pass) front front away.first away.ticket away.room
          (sym c.enter-turn.ensures.fits) (sym (c.number-number.ensures ∙ w.number_is)) refl e in
          let left = subst (λ (r : Reading). HasLeft (desk_name old) n away.kept.client r away.ticket (desk_book old) (desk_book new) made.reply) w.reading_is l in
          call_at (number_of pass) n reading act (front_of pass) (desk_book new) (front_of c.seated.result) (record { first = away.first; last = made.last; reply = made.reply }) (c.number-number.ensures ∙ w.number_is) fronted
          (call_left (desk_name old) n away.kept.client away.kept.connected reading act (front_of pass) front (desk_book old) (desk_book new) away.first made.first made.last away.ticket away.room made.reply entered begins extends left c.bring-step.ensures.numbers) in
          record {
            ours = c.seated.ensures.ours;
            number_is = c.seated.ensures.number ∙ (rested ∙ (c.number-number.ensures ∙ w.number_is));
            calls = ∥∥₁_map₂ w.entered c.bring-step.ensures.left call;
            connected_is = left_connected act made.reply (connected_of pass) (connected_of c.seated.result) w.enters (c.seated.ensures.connected ∙ w.connected_is);
            parts = λ is on. enter_parts act made.reply w.enters is;
            told = c.bring-step.ensures.told;
          };
    }
