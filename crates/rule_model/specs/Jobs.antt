-- The jobs of the works that are out: what they stand for, and what comes back.
use Rattle.std.specs.Prelude.{◌≡◌, ℕ, true, false, Option, Some, None, IfErr}
use Rattle.std.specs.Option.{option_map}
use Rattle.cipher_ops.specs.declared.job.Done.{Done as JobDone}
use Rattle.cipher_ops.specs.declared.job.Job.{Job}
use Rattle.cipher_ops.specs.declared.room.Work.{Work}
use Rattle.cipher_ops.specs.Jobs.{ComesTo, JobFor, is_refusal, ticket_of}
use Rattle.rule_model.specs.declared.event.Act.{Act}
use Rattle.rule_model.specs.declared.event.Act.TheVariants.{Leave}
use Rattle.rule_model.specs.declared.reply.Reply.{Reply}
use Rattle.rule_model.specs.declared.reply.Reply.TheVariants.{Done, Broken, Stopped}
use Rattle.rule_model.specs.Entries.{History}
use Rattle.rule_model.specs.Kept.{operation_at}
use Rattle.rule_model.specs.declared.operation.Open.{Open}
use Rattle.rule_model.specs.Setup.{Setup}
use Rattle.rule_model.specs.declared.operation.Entered.{Entered}
use Rattle.rule_model.specs.Tickets.{ticket_at}

-- a job is a work on an open operation, by the plan, material and nonce of its begin and what it has taken
abbrev pub IsJobOn : Option Open → Work → Job → Type 0
IsJobOn None work job = ⊥
IsJobOn (Some o) work job = JobFor job o.operation.plan o.operation.limited o.operation.material o.operation.nonce o.aad o.text work

-- what a work on an open operation comes to, with one of two codes where its output is refused
pub record ComesBackAs (o : Open) (work : Work) (back : JobDone) : Type 0 where
  pub comes : ComesTo back o.operation.plan o.operation.limited o.operation.material o.operation.nonce o.aad o.text work
  pub refuses : IfErr back.result (λ code. is_refusal code ≡ true)

-- a job comes back with that
abbrev pub IsDoneOn : Option Open → Work → JobDone → Type 0
IsDoneOn None work back = ⊥
IsDoneOn (Some o) work back = ComesBackAs o work back

-- a job is that of a work that is out
abbrev pub IsJobOut : Setup → History → Option Entered → Job → Type 0
IsJobOut setup past None job = ⊥
IsJobOut setup past (Some entered) job = IsJobOn (operation_at setup past entered.op) entered.work job

-- what a work that is out comes back with is there
abbrev pub IsDoneOut : Setup → History → Option Entered → Option JobDone → Type 0
IsDoneOut setup past None back = Unit {0}
IsDoneOut setup past (Some entered) None = ⊥
IsDoneOut setup past (Some entered) (Some back) = IsDoneOn (operation_at setup past entered.op) entered.work back

-- a leave of a ticket that is out has what its job came back with
abbrev pub HasDone : Setup → History → Act → Option JobDone → Type 0
HasDone setup past (Leave ticket) back = IsDoneOut setup past (ticket_at past ticket) back
HasDone setup past _ back = Unit {0}

-- a ticket goes out with the job of its work
abbrev pub GoesWith : Setup → History → Option ℕ → Option Job → Type 0
GoesWith setup past None job = job ≡ None
GoesWith setup past (Some ticket) None = ⊥
GoesWith setup past (Some ticket) (Some job) = (ticket_of job ≡ ticket) × IsJobOut setup past (ticket_at past ticket) job

-- after a step there is a job exactly where its reply gives a ticket
abbrev pub HasJob : Setup → History → Reply → Option Job → Type 0
HasJob setup past (Done fields) job = GoesWith setup past fields.ticket job
HasJob setup past (Broken rule code) job = job ≡ None
HasJob setup past (Stopped code) job = job ≡ None

-- an operation but for whether a token was shown to it
abbrev pub but_shown : Option Open → Option Open
but_shown found = option_map (λ (o : Open). record o { shown = false }) found

-- The operation of a work that was out and is out still is as it was, but for a token that was shown to it: so its job stays
-- right, whatever came between.
abbrev pub Stays : Setup → History → History → Type 0
Stays setup past later = (ticket : ℕ) (entered : Entered) → ticket_at past ticket ≡ Some entered → ticket_at later ticket ≡ Some entered
    → but_shown (operation_at setup later entered.op) ≡ but_shown (operation_at setup past entered.op)
