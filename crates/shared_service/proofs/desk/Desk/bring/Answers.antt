use Rattle.std.proofs.Common.{Some, refl, sym, subst}
use Rattle.std.proofs.Math.Logic.{∥∥₁_map₂}
use Rattle.rule_model.specs.declared.event.Event.{Event}
use Rattle.service_book.specs.Book.{log_of}
use Rattle.shared_service.specs.DeskWords.{desk_book}
use Rattle.shared_service.specs.Desks.{MayMake}
use Rattle.shared_service.specs.Names.{IsSetupOf}
use Rattle.shared_service.specs.Turns.{leave_by}
use Rattle.shared_service.proofs.Requesting.{left_made}
use Rattle.shared_service.proofs.StepNumbers.{newest}
use Rattle.shared_service.proofs.Truncating.{four}
use Rattle.shared_service.proofs.desk.Desk.bring.Goals as goal

pub step-requires-clause-may : goal.step-requires-clause-may
step-requires-clause-may g c =
    let old = c.args.self.now in
    let log = log_of (desk_book old) in
    ∥∥₁_map₂ old.stands c.requires.may (λ t m.
    let r = m.has_room (desk_book old) refl in
    let it : MayMake old.name log c.args.pass (leave_by c.args.reading c.args.client c.args.ticket) c.args.room (Some c.args.back) = record {
      out = r.out;
      few = r.few;
      room_is = r.room_is;
      turn = m.is_out;
      own = (newest t.setup log (t.facts t.setup t.is_setup)).tickets.own_is c.args.pass c.args.ticket m.is_out;
      back_is = m.back_is;
      enough = r.enough;
    } in
    subst (λ (e : Event). MayMake old.name log c.args.pass e c.args.room (Some c.args.back)) (sym c.leave_at.ensures) it)

pub returns-clause-left : goal.returns-clause-left
returns-clause-left g c =
    let old = c.args.self.now in
    let new = c.step.new.self in
    four old.stands new.stands c.requires.may c.step.ensures.made (λ t u m made.
    left_made old.name t.setup c.args.pass c.args.client c.args.reading c.args.ticket c.leave_at.result (desk_book old) (desk_book new) c.step.result.reply c.step.result.job c.args.back c.args.room t.is_setup
    (t.facts t.setup t.is_setup) (u.stands t.setup (subst (λ n. IsSetupOf n t.setup) (sym c.step.ensures.name) t.is_setup)).legal c.leave_at.ensures m made)
