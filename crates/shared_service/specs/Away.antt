-- A call between its two turns.
use Rattle.std.specs.Prelude.{◌≡◌, ◌+◌, ℕ, Bool, true, false, List, ◌++◌, length, Some, unwrap_or}
use Rattle.cipher_ops.specs.declared.job.Done.{Done as JobDone}
use Rattle.cipher_ops.specs.declared.job.Job.{Job}
use Rattle.ks_outside.specs.declared.clock.Reading.{Reading}
use Rattle.turn_lock.specs.Fronts.{IsFrontOf}
use Rattle.turn_lock.specs.Rule as lock
use Rattle.rule_model.specs.declared.event.Act.{Act}
use Rattle.rule_model.specs.declared.field_sizes.FieldSizes.{FieldSizes}
use Rattle.rule_model.specs.Acts.{is_enter}
use Rattle.rule_model.specs.Jobs.{IsDoneOut, IsJobOut}
use Rattle.rule_model.specs.Setup.{Setup}
use Rattle.rule_model.specs.Tickets.{ticket_at}
use Rattle.service_book.specs.declared.entry.BookEntry.{BookEntry}
use Rattle.service_book.specs.Book.{client_of, history_of, log_of, ticket_in}
use Rattle.service_book.specs.Limits.{passes_limit}
use Rattle.shared_service.specs.declared.name.ServiceId.{ServiceId}
use Rattle.shared_service.specs.Calls.{OneStep, entries_of}
use Rattle.shared_service.specs.Names.{IsSetupOf}
use Rattle.shared_service.specs.Owning.{by, client_for, event_for, is_connected, out_of}
use Rattle.shared_service.specs.Requests.{IsLeaveRoom}

-- an admitted enter: the book before it and behind it, which the pass has seen
pub record IsEntered {N : Type 0} (name : ServiceId N) (pass client : ℕ) (connected : Bool) (reading : Reading) (act : Act) (old new : List BookEntry) (first ticket : ℕ) (room : FieldSizes) : Type 0 where
  pub log : List BookEntry
  pub s : OneStep
  pub begins : IsFrontOf by pass old log
  pub event_is : s.event ≡ event_for reading act pass (log_of log)
  pub grown : new ≡ log ++ entries_of pass s
  pub own_grown : lock.own by pass new ≡ lock.own by pass old ++ entries_of pass s
  pub enters : is_enter act ≡ true
  pub gives : ticket_in s.reply ≡ Some ticket
  pub is_out : out_of pass (log_of new) ≡ Some ticket
  pub client_is : client ≡ unwrap_or (client_of pass (log_of new)) 0
  pub client_was : client ≡ client_for act pass (log_of log)
  pub connected_is : connected ≡ is_connected pass (log_of new)
  pub within : passes_limit act (log_of log) ≡ false
  pub first_is : first ≡ length log + 1
  pub has_room : IsLeaveRoom name new ticket room

-- the job is that of the work that is out
abbrev pub IsJobAway : {N : Type 0} → ServiceId N → List BookEntry → ℕ → Job → Type 0
IsJobAway name new ticket job = (s : Setup) → IsSetupOf name s → IsJobOut s (history_of (log_of new)) (ticket_at (history_of (log_of new)) ticket) job

-- and this is what it came to
abbrev pub IsBack : {N : Type 0} → ServiceId N → List BookEntry → ℕ → JobDone → Type 0
IsBack name new ticket back = (s : Setup) → IsSetupOf name s → IsDoneOut s (history_of (log_of new)) (ticket_at (history_of (log_of new)) ticket) (Some back)
