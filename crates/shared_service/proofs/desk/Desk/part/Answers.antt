use Rattle.std.proofs.Common.{◌≡◌, true, sym, ap, subst, ◌∙◌}
use Rattle.service_book.specs.Book.{log_of}
use Rattle.rule_model.specs.declared.event.Act.TheVariants.{Disconnect}
use Rattle.rule_model.specs.declared.event.Event.{Event}
use Rattle.shared_service.specs.DeskWords.{desk_book}
use Rattle.shared_service.specs.Names.{IsSetupOf}
use Rattle.shared_service.specs.Owning.{event_for, is_parting}
use Rattle.shared_service.specs.Requests.{IsRequested}
use Rattle.shared_service.proofs.Requesting.{parting_made}
use Rattle.shared_service.proofs.Truncating.{three}
use Rattle.shared_service.proofs.desk.Desk.part.Goals as goal

pub returns-clause-requested : goal.returns-clause-requested
returns-clause-requested g c =
    let old = c.args.self.now in
    let new = c.step.new.self in
    let event = c.args.prepared.event in
    let event_is : event ≡ event_for event.reading Disconnect c.args.pass (log_of (desk_book old)) =
    λ i. record { reading = event.reading; client = c.requires.caller.client_is i; act = c.requires.disconnects i } in
    let parts : is_parting event.act c.args.pass (log_of (desk_book old)) ≡ true = ap (λ a. is_parting a c.args.pass (log_of (desk_book old))) c.requires.disconnects ∙ sym c.requires.caller.connected_is in
    three old.stands new.stands c.step.ensures.made (λ t u m.
    subst (λ (e : Event). IsRequested old.name c.args.pass e (desk_book old) (desk_book new) c.step.result.reply c.step.result.job c.step.result.leave) event_is
    (parting_made old.name t.setup c.args.pass event (desk_book old) (desk_book new) c.step.result.reply c.step.result.job c.step.result.leave t.is_setup
    (u.stands t.setup (subst (λ n. IsSetupOf n t.setup) (sym c.step.ensures.name) t.is_setup)).legal c.requires.disconnects parts (c.step.ensures.parts parts) m))
