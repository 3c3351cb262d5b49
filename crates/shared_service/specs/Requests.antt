-- What a turn under the lock tells of a request and of a leave.
use Rattle.std.specs.Prelude.{◌≡◌, ◌≢◌, ◌≤◌, ◌<◌, ◌⊎◌, ◌+◌, ◌++◌, ℕ, Bool, true, false, List, length, Option, Some, None, unwrap_or}
use Rattle.cipher_ops.specs.declared.job.Job.{Job}
use Rattle.tags.specs.declared.code.Code.TheVariants.{NoTicket}
use Rattle.rule_model.specs.declared.event.Event.{Event}
use Rattle.rule_model.specs.declared.field_sizes.FieldSizes.{FieldSizes}
use Rattle.rule_model.specs.declared.reply.Reply.{Reply}
use Rattle.rule_model.specs.declared.reply.Reply.TheVariants.{Stopped}
use Rattle.rule_model.specs.Acts.{is_enter}
use Rattle.rule_model.specs.Entries.{is_done}
use Rattle.rule_model.specs.ReplyRooms.{no_sizes}
use Rattle.rule_model.specs.Setup.{Setup}
use Rattle.keystore_core.specs.Outputs.{PutsOut}
use Rattle.service_book.specs.declared.entry.BookEntry.{BookEntry}
use Rattle.service_book.specs.Book.{client_of, history_of, log_of, ticket_in}
use Rattle.service_book.specs.Limits.{passes_limit}
use Rattle.shared_service.specs.declared.name.ServiceId.{ServiceId}
use Rattle.shared_service.specs.Desks.{HasMade}
use Rattle.shared_service.specs.Names.{IsSetupOf}
use Rattle.turn_lock.specs.Fronts.{AllMade}
use Rattle.shared_service.specs.Owning.{by, is_connected, is_parting, out_of}

-- what a pass says of itself is so over a log, and no ticket of its own is out
pub record IsCaller (pass client : ℕ) (connected : Bool) (log : List BookEntry) : Type 0 where
  pub client_is : client ≡ unwrap_or (client_of pass log) 0
  pub connected_is : connected ≡ is_connected pass log
  pub idle : out_of pass log ≡ None

-- room for the reply to the leave of a ticket that went out
pub record IsLeaveRoom {N : Type 0} (name : ServiceId N) (book : List BookEntry) (ticket : ℕ) (room : FieldSizes) : Type 0 where
  pub out : ℕ
  pub few : out ≤ 1048656
  pub room_is : room ≡ record no_sizes { out = out }
  pub enough : (s : Setup) → IsSetupOf name s → PutsOut s (history_of (log_of book)) ticket out

-- an enter that is admitted has its job and the room of its leave, and no other step has a job
abbrev pub GoesOut : {N : Type 0} → ServiceId N → List BookEntry → Option ℕ → Option Job → Option FieldSizes → Type 0
GoesOut name book None job room = job ≡ None
GoesOut name book (Some ticket) None room = ⊥
GoesOut name book (Some ticket) (Some job) None = ⊥
GoesOut name book (Some ticket) (Some job) (Some room) = IsLeaveRoom name book ticket room

-- a request that is recorded
pub record IsRequested {N : Type 0} (name : ServiceId N) (pass : ℕ) (event : Event) (old new : List BookEntry) (reply : Reply) (job : Option Job) (room : Option FieldSizes) : Type 0 where
  pub made : HasMade name pass event old new reply job
  pub goes : GoesOut name new (ticket_in reply) job room
  pub within : (is_parting event.act pass (log_of old) ≡ true) ⊎ (passes_limit event.act (log_of old) ≡ false)
  pub enters : (ticket : ℕ) → ticket_in reply ≡ Some ticket → is_enter event.act ≡ true
  pub has_ticket : reply ≢ Stopped NoTicket
  pub parts : is_parting event.act pass (log_of old) ≡ true → is_done reply ≡ true

-- the book has some entries more, all of the pass
pub record GrowsBy (pass : ℕ) (old new : List BookEntry) : Type 0 where
  pub more : List BookEntry
  pub grown : new ≡ old ++ more
  pub some : 0 < length more
  pub made : AllMade by pass more

-- the numbers of the first and the last entry
pub record AreNumbers (old new : List BookEntry) (first last : ℕ) : Type 0 where
  pub first_is : first ≡ length old + 1
  pub last_is : last ≡ length new
