-- The jobs that a session holds: what a look-up finds among them, and when they are those of a history.
use Rattle.std.specs.Prelude.{◌≡◌, ℕ, ◌==◌, Bool, true, List, Option, Some, None, IfErr, is_some, if◌then◌else◌}
use Rattle.std.specs.BTreeMap.{get}
use Rattle.std.specs.Option.{option_flatten}
use Rattle.std.specs.Ordering.{nat_cmp}
use Rattle.tags.specs.declared.plan.Plan.{Plan}
use Rattle.cipher_ops.specs.declared.job.Done.{Done}
use Rattle.cipher_ops.specs.declared.job.Job.{Job}
use Rattle.cipher_ops.specs.declared.room.Work.{Work}
use Rattle.cipher_ops.specs.Jobs.{ComesTo, JobFor, is_refusal}
use Rattle.rule_model.specs.Entries.{History}
use Rattle.rule_model.specs.Jobs.{IsJobOut}
use Rattle.rule_model.specs.Setup.{Setup}
use Rattle.rule_model.specs.declared.operation.Entered.{Entered}
use Rattle.rule_model.specs.Tickets.{ticket_at}
use Rattle.keystore_run.specs.declared.jobs.Jobs.{Jobs}

-- the place of a ticket: a place without a job is room for one
abbrev pub place_of : Jobs → ℕ → Option (Option Job)
place_of jobs ticket = get nat_cmp jobs.places ticket

-- the job that is held under a ticket
abbrev pub job_in : Jobs → ℕ → Option Job
job_in jobs ticket = option_flatten (place_of jobs ticket)

-- room was taken for the job of a ticket
abbrev pub HasRoomForJob : Jobs → ℕ → Type 0
HasRoomForJob jobs ticket = is_some (place_of jobs ticket) ≡ true

-- the job of one ticket is this, and the others are as they were
abbrev pub SetsJob : ℕ → Option Job → Jobs → Jobs → Type 0
SetsJob number job old new = (ticket : ℕ) → job_in new ticket ≡ (if number == ticket then job else job_in old ticket)

abbrev pub SameJobs : Jobs → Jobs → Type 0
SameJobs old new = (ticket : ℕ) → job_in new ticket ≡ job_in old ticket

-- all jobs go, or none
abbrev pub ClearsJobs : Bool → Jobs → Jobs → Type 0
ClearsJobs all old new = (ticket : ℕ) → job_in new ticket ≡ (if all then None else job_in old ticket)

-- what a job comes back with is what its work comes to, with one of two codes where its output is refused
pub record RanJob (job : Job) (done : Done) : Type 0 where
  pub comes : (plan : Plan) (limited : Bool) (key nonce aad text : List ℕ) (work : Work) → JobFor job plan limited key nonce aad text work → ComesTo done plan limited key nonce aad text work
  pub refuses : IfErr done.result (λ code. is_refusal code ≡ true)

-- a job ran, where there was one
abbrev pub Ran : Option Job → Option Done → Type 0
Ran None None = Unit {0}
Ran (Some job) (Some done) = RanJob job done
Ran None (Some back) = ⊥
Ran (Some job) None = ⊥

-- the job of a ticket is held, where there is one
abbrev pub Holds : ℕ → Option Job → Jobs → Jobs → Type 0
Holds ticket None old new = SameJobs old new
Holds ticket (Some job) old new = SetsJob ticket (Some job) old new

-- a job is held exactly where its work is out
abbrev pub IsHeld : Setup → History → Option Entered → Option Job → Type 0
IsHeld setup past None None = Unit {0}
IsHeld setup past (Some entered) (Some job) = IsJobOut setup past (Some entered) job
IsHeld setup past None (Some job) = ⊥
IsHeld setup past (Some entered) None = ⊥

-- the jobs are those of the works that are out
abbrev pub JobsStand : Setup → Jobs → History → Type 0
JobsStand setup jobs past = (ticket : ℕ) → IsHeld setup past (ticket_at past ticket) (job_in jobs ticket)
