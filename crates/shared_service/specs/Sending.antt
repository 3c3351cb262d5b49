-- The work of an enter that is admitted.
use Rattle.std.specs.Prelude.{ℕ, Option, Some, None}
use Rattle.cipher_ops.specs.declared.job.Job.{Job}
use Rattle.rule_model.specs.declared.field_sizes.FieldSizes.{FieldSizes}
use Rattle.shared_service.specs.declared.shared.away.Sent.{Sent}

-- the ticket, the job and the room of the leave, where all are there
abbrev pub sent : Option ℕ → Option Job → Option FieldSizes → Option Sent
sent None job room = None
sent (Some ticket) None room = None
sent (Some ticket) (Some job) None = None
sent (Some ticket) (Some job) (Some room) = Some (record { ticket = ticket; job = job; room = room })
