-- What comes of a request before the turn, and what it is at the desk.
use Rattle.std.proofs.Common.{◌≡◌, ◌&&◌, ℕ, Bool, List, Result, Ok, Err, unwrap_or, sym, ap, subst, ◌∙◌}
use Rattle.ks_outside.specs.declared.clock.Reading.{Reading}
use Rattle.tags.specs.declared.code.Code.{Code}
use Rattle.rule_model.specs.declared.event.Act.{Act}
use Rattle.rule_model.specs.declared.event.Event.{Event}
use Rattle.rule_model.specs.Acts.{is_asked, is_disconnect}
use Rattle.service_book.specs.declared.entry.BookEntry.{BookEntry}
use Rattle.service_book.specs.Book.{client_of, log_of}
use Rattle.shared_service.specs.declared.name.ServiceId.{ServiceId}
use Rattle.shared_service.specs.declared.prepared.Prepared.{Prepared}
use Rattle.shared_service.specs.declared.step.Step.{Step}
use Rattle.shared_service.specs.Prepared.{Comes, IsAt, Prepares, act_in}
use Rattle.shared_service.specs.Owning.{client_by, event_for, is_parting}
use Rattle.shared_service.specs.Requests.{IsCaller}
use Rattle.shared_service.specs.Turns.{Requests}

-- what comes of a pass, over the book of its turn
pub comes_of : (pass client : ℕ) (connected : Bool) (reading : Reading) (act : Act) (log : List BookEntry) (coming : Result Prepared Act) → IsCaller pass client connected log → Prepares reading client connected act coming → Comes pass log coming
comes_of pass client connected reading act log (Ok prepared) caller is =
    let act_is : prepared.event.act ≡ act = ap (λ (e : Event). e.act) is.event_is in
    record {
      idle = caller.idle;
      comes_for = (
        ap (λ (e : Event). e.client) is.event_is ∙ ap (λ n. client_by n act) caller.client_is ∙ ap (client_by (unwrap_or (client_of pass log) 0)) (sym act_is),
        ap is_asked act_is ∙ is.asked,
        is.parting_is ∙ (λ i. is_disconnect (sym act_is i) && caller.connected_is i),
        is.ready,
      );
    }
comes_of pass client connected reading act log (Err request) caller is = record {
  idle = caller.idle;
  comes_for = (λ i. is_disconnect (is.0 i) && sym caller.connected_is i) ∙ is.1;
}

-- the act that comes is the one that was asked for
pub act_is : (reading : Reading) (client : ℕ) (connected : Bool) (act : Act) (coming : Result Prepared Act) → Prepares reading client connected act coming → act_in coming ≡ act
act_is reading client connected act (Ok prepared) is = ap (λ (e : Event). e.act) is.event_is
act_is reading client connected act (Err request) is = is.0

pub at_reading : (reading : Reading) (client : ℕ) (connected : Bool) (act : Act) (coming : Result Prepared Act) → Prepares reading client connected act coming → IsAt reading coming
at_reading reading client connected act (Ok prepared) is = ap (λ (e : Event). e.reading) is.event_is
at_reading reading client connected act (Err request) is = tt

-- what a request came to, told of the act that was asked for
pub told_of : {N : Type 0} (name : ServiceId N) (pass : ℕ) (reading : Reading) (a act : Act) (old new : List BookEntry) (result : Result Step Code) → a ≡ act → Requests name pass (event_for reading a pass (log_of old)) old new result
    → Requests name pass (event_for reading act pass (log_of old)) old new result
told_of name pass reading a act old new result same told = subst (λ (x : Act). Requests name pass (event_for reading x pass (log_of old)) old new result) same told
