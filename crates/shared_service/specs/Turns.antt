-- What the two turns of a call tell.
use Rattle.std.specs.Prelude.{◌≡◌, ◌≢◌, ◌<◌, ◌^◌, ℕ, true, false, List, ◌++◌, length, Some, None, Result, Ok, Err}
use Rattle.cipher_ops.specs.declared.job.Done.{Done as JobDone}
use Rattle.ks_outside.specs.declared.clock.Reading.{Reading}
use Rattle.tags.specs.declared.code.Code.{Code}
use Rattle.tags.specs.declared.code.Code.TheVariants.{MemoryAllocationFailed, NoTicket, RunFull}
use Rattle.rule_model.specs.declared.event.Act.TheVariants.{Leave}
use Rattle.rule_model.specs.declared.event.Event.{Event}
use Rattle.rule_model.specs.declared.field_sizes.FieldSizes.{FieldSizes}
use Rattle.rule_model.specs.declared.reply.Reply.{Reply}
use Rattle.rule_model.specs.declared.reply.Reply.TheVariants.{Stopped}
use Rattle.rule_model.specs.Jobs.{HasDone}
use Rattle.rule_model.specs.Setup.{Setup}
use Rattle.service_book.specs.declared.entry.BookEntry.{BookEntry}
use Rattle.service_book.specs.Book.{history_of, log_of}
use Rattle.service_book.specs.Limits.{passes_limit}
use Rattle.wire_frames.specs.Replies.{reply_body}
use Rattle.shared_service.specs.declared.step.Step.{Step}
use Rattle.shared_service.specs.declared.name.ServiceId.{ServiceId}
use Rattle.shared_service.specs.Calls.{OneStep, entries_of}
use Rattle.shared_service.specs.Names.{IsSetupOf}
use Rattle.shared_service.specs.Owning.{is_parting, out_of}
use Rattle.shared_service.specs.Requests.{AreNumbers, GrowsBy, IsLeaveRoom, IsRequested}

-- what a request came to
abbrev pub Requests : {N : Type 0} → ServiceId N → ℕ → Event → List BookEntry → List BookEntry → Result Step Code → Type 0
Requests name pass event old new (Ok step) =
    ∥ IsRequested name pass event old new step.reply step.job step.leave ∥₁ × AreNumbers old new step.first step.last × GrowsBy pass old new × (length (reply_body step.reply) < 2 ^ 32)
Requests name pass event old new (Err RunFull) = (new ≡ old) × (passes_limit event.act (log_of old) ≡ true) × (is_parting event.act pass (log_of old) ≡ false)
Requests name pass event old new (Err MemoryAllocationFailed) = (new ≡ old) × (passes_limit event.act (log_of old) ≡ false) × (is_parting event.act pass (log_of old) ≡ false)
Requests name pass event old new (Err _) = ⊥

-- a pass may bring its ticket back with what its job came to, and there is room for the reply
pub record MayLeave {N : Type 0} (name : ServiceId N) (log : List BookEntry) (pass ticket : ℕ) (back : JobDone) (room : FieldSizes) : Type 0 where
  pub is_out : out_of pass log ≡ Some ticket
  pub back_is : (s : Setup) → IsSetupOf name s → HasDone s (history_of log) (Leave ticket) (Some back)
  pub has_room : (book : List BookEntry) → log_of book ≡ log → IsLeaveRoom name book ticket room

-- the leave of a ticket
abbrev pub leave_by : Reading → ℕ → ℕ → Event
leave_by reading client ticket = record { reading = reading; client = client; act = Leave ticket }

-- it is one step, which settles nothing, and whose reply is neither for want of memory nor for want of its ticket
pub record HasLeft {N : Type 0} (name : ServiceId N) (pass client : ℕ) (reading : Reading) (ticket : ℕ) (old new : List BookEntry) (reply : Reply) : Type 0 where
  pub s : OneStep
  pub event_is : s.event ≡ leave_by reading client ticket
  pub none : s.settled ≡ None
  pub reply_is : s.reply ≡ reply
  pub grown : new ≡ old ++ entries_of pass s
  pub has_memory : reply ≢ Stopped MemoryAllocationFailed
  pub has_ticket : reply ≢ Stopped NoTicket
