-- The jobs of a session, after a step.
use Rattle.std.proofs.Common.{◌≡◌, ℕ, ◌≤◌, true, false, ◌==◌, if◌then◌else◌, List, ◌∷◌, Option, Some, None, is_some, Result, Ok, Err, IfSome, refl, sym, ap, ◌∙◌, subst, inl, inr, arith}
use Rattle.std.proofs.lemmas.Bool.{cases_Bool, eqb-true}
use Rattle.cipher_ops.specs.declared.job.Done.{Done as JobDone}
use Rattle.cipher_ops.specs.declared.job.Job.{Job}
use Rattle.cipher_ops.specs.declared.room.Work.{Work}
use Rattle.cipher_ops.specs.declared.room.Work.TheVariants.{Aad, Text, Last}
use Rattle.cipher_ops.specs.Jobs.{ticket_of}
use Rattle.tags.specs.declared.code.Code.{Code}
use Rattle.tags.specs.declared.settled.Settled.{Settled}
use Rattle.rule_model.specs.declared.entry.Entry.TheVariants.{Acted}
use Rattle.rule_model.specs.declared.event.Act.{Act}
use Rattle.rule_model.specs.declared.event.Act.TheVariants.{EnterAad, EnterUpdate, EnterFinish, Leave, Restart}
use Rattle.rule_model.specs.declared.event.Event.{Event}
use Rattle.rule_model.specs.declared.reply.Fields.{Fields}
use Rattle.rule_model.specs.declared.reply.Reply.{Reply}
use Rattle.rule_model.specs.declared.reply.Reply.TheVariants.{Done, Broken, Stopped}
use Rattle.rule_model.specs.Acts.{fixed_for, is_restart, left_by}
use Rattle.rule_model.specs.Answer.{answer, given_or, leaving}
use Rattle.rule_model.specs.Drawn.{size_of, wanted}
use Rattle.rule_model.specs.Entries.{History, after_settling, after_step, is_done}
use Rattle.rule_model.specs.Jobs.{GoesWith, HasDone, HasJob, IsDoneOn, IsDoneOut, IsJobOn, IsJobOut, Stays, but_shown}
use Rattle.rule_model.specs.Legal.{MayFollow, MayStep, Answered, WithoutMemory, WithoutEntropy, Faulted, NotSettled, NotRestarted}
use Rattle.rule_model.specs.Kept.{operation_at}
use Rattle.rule_model.specs.declared.operation.Open.{Open}
use Rattle.rule_model.specs.Setup.{Setup}
use Rattle.rule_model.specs.Stored.{change_by}
use Rattle.rule_model.specs.declared.entry_change.TicketChange.TheVariants.{AllGone, ComesBack, SameTickets}
use Rattle.rule_model.specs.declared.operation.Entered.{Entered}
use Rattle.rule_model.specs.Tickets.{admitted_ticket, goes_out, stopped_ticket, ticket_after, ticket_at, ticket_change}
use Rattle.keystore_core.specs.declared.engine.Engine.{Engine}
use Rattle.keystore_core.specs.Engine.{MayTake, Stands as EngineStands, StandsForSome, StoreStands, entries_made}
use Rattle.ks_outside.specs.declared.disk.Disk.{Ghosts as DiskGhosts}
use Rattle.keystore_run.specs.declared.jobs.Jobs.{Jobs}
use Rattle.keystore_run.specs.declared.session.Session.{Session}
use Rattle.keystore_run.specs.Session.{StandsFor, engine_of, jobs_of}
use Rattle.keystore_run.specs.Jobs.{ClearsJobs, Holds, IsHeld, JobsStand, Ran, RanJob, SameJobs, SetsJob, job_in}
use Rattle.keystore_run.specs.SessionKept.{IsSession}

-- what a job of an open operation comes back with
done_on : (o : Option Open) (work : Work) (job : Job) (back : JobDone) → RanJob job back → IsJobOn o work job → IsDoneOn o work back
done_on None work job back ran is = absurd is
done_on (Some o) work job back ran is = record { comes = ran.comes _ _ _ _ _ _ work is; refuses = ran.refuses }

pub done_out : (setup : Setup) (past : History) (entered : Option Entered) (job : Option Job) (back : Option JobDone) → IsHeld setup past entered job → Ran job back → IsDoneOut setup past entered back
done_out setup past None None back held ran = tt
done_out setup past None (Some job) back held ran = absurd held
done_out setup past (Some entered) None back held ran = absurd held
done_out setup past (Some entered) (Some job) None held ran = absurd ran
done_out setup past (Some entered) (Some job) (Some back) held ran = done_on (operation_at setup past entered.op) entered.work job back ran held

pub not_leave : (setup : Setup) (past : History) (act : Act) → left_by act ≡ None → HasDone setup past act None
not_leave setup past (Leave ticket) e = cc
not_leave setup past _ e = tt

admitted_change : (ticket : ℕ) (act : Act) (fields : Fields) → act ≡ Leave ticket → admitted_ticket act fields ≡ ComesBack ticket
admitted_change ticket act fields e = ap (λ a. admitted_ticket a fields) e

-- what the leave of an act brings back
given_change : (ticket : ℕ) (event : Event) (work : Work) (result : Result (List ℕ) Code) → event.act ≡ Leave ticket → ticket_change event (given_or work result) ≡ ComesBack ticket
given_change ticket event work (Ok bytes) e = admitted_change ticket event.act _ e
given_change ticket event work (Err code) e = ap stopped_ticket e

leaving_change : (setup : Setup) (past : History) (ticket : ℕ) (event : Event) (entered : Option Entered) → event.act ≡ Leave ticket → ticket_change event (leaving setup past entered) ≡ ComesBack ticket
leaving_change setup past ticket event None e = ap stopped_ticket e
leaving_change setup past ticket event (Some entered) e = given_change ticket event entered.work _ e

-- a leave is answered by the rules, whatever comes
pub leave_change : (setup : Setup) (past : History) (ticket : ℕ) (event : Event) (drawn : List ℕ) (reply : Reply) → event.act ≡ Leave ticket → MayFollow setup past event drawn reply → ticket_change event reply ≡ ComesBack ticket
leave_change setup past ticket event drawn reply e (Answered is) =
    ap (ticket_change event) (is.is_answer ∙ ap (λ act. answer setup past (record event { act = act }) drawn) e) ∙ leaving_change setup past ticket event (ticket_at past ticket) e
leave_change setup past ticket event drawn reply e (WithoutMemory is) = absurd (
    let takes : (fixed_for event.act).takes_memory ≡ false = ap (λ act. (fixed_for act).takes_memory) e in
    let yes = is.takes in cc)
leave_change setup past ticket event drawn reply e (WithoutEntropy is) = absurd (
    let none : size_of (wanted setup past event) ≡ 0 = ap (λ act. size_of (wanted setup past (record event { act = act }))) e in
    omega (arith, is.drew, none))
leave_change setup past ticket event drawn reply e (Faulted is) = absurd (
    let writes : is_some (change_by setup past event drawn) ≡ false = ap (λ act. is_some (change_by setup past (record event { act = act }) drawn)) e in
    let yes = is.writes in cc)
leave_change setup past ticket event drawn reply e (NotSettled is) = absurd (
    let settles : (fixed_for event.act).settles ≡ false = ap (λ act. (fixed_for act).settles) e in
    let yes = is.settles in cc)
leave_change setup past ticket event drawn reply e (NotRestarted code is) = absurd (
    let restarts : is_restart event.act ≡ false = ap is_restart e in
    let yes = is.restarts in cc)

-- a job on an operation is so whether or not a token was shown to it
job_shown : (found : Option Open) (work : Work) (job : Job) → IsJobOn found work job → IsJobOn (but_shown found) work job
job_shown None work job on = absurd on
job_shown (Some o) work job on = on

shown_job : (found : Option Open) (work : Work) (job : Job) → IsJobOn (but_shown found) work job → IsJobOn found work job
shown_job None work job on = absurd on
shown_job (Some o) work job on = on

module _ (setup : Setup) (past later : History) (stays : Stays setup past later) where
  -- a job that is held stays right
  pub still_held : (ticket : ℕ) (entered : Option Entered) (job : Option Job) → ticket_at past ticket ≡ entered → ticket_at later ticket ≡ entered → IsHeld setup past entered job → IsHeld setup later entered job
  still_held ticket None None before after held = tt
  still_held ticket None (Some job) before after held = absurd held
  still_held ticket (Some entered) None before after held = absurd held
  still_held ticket (Some entered) (Some job) before after held =
      shown_job (operation_at setup later entered.op) entered.work job
      (subst (λ o. IsJobOn o entered.work job) (sym (stays ticket entered before after)) (job_shown (operation_at setup past entered.op) entered.work job held))

  keep : (ticket : ℕ) (job : Option Job) → ticket_at later ticket ≡ ticket_at past ticket → IsHeld setup past (ticket_at past ticket) job → IsHeld setup later (ticket_at later ticket) job
  keep ticket job same held = subst (λ e. IsHeld setup later e job) (sym same) (still_held ticket (ticket_at past ticket) job refl same held)

  -- after a leave
  pub held_after_leave : (number : ℕ) (old new : Jobs) → ((t : ℕ) → ticket_at later t ≡ ticket_after (ComesBack number) t (ticket_at past t)) → SetsJob number None old new → JobsStand setup old past → JobsStand setup new later
  held_after_leave number old new after sets held t = elim (cases_Bool (number == t)) [
    | inl e ↦ (let gone : ticket_at later t ≡ None = after t ∙ rw e refl in
        let none : job_in new t ≡ None = sets t ∙ rw e refl in
        subst (λ x. IsHeld setup later x (job_in new t)) (sym gone) (subst (IsHeld setup later None) (sym none) tt))
    | inr e ↦ (let same : ticket_at later t ≡ ticket_at past t = after t ∙ rw e refl in
        let job : job_in new t ≡ job_in old t = sets t ∙ rw e refl in
        subst (IsHeld setup later (ticket_at later t)) (sym job) (keep t (job_in old t) same (held t)))
  ]

  -- after an act that brings none back
  out_held : (entered : Option Entered) (job : Job) → IsJobOut setup later entered job → IsHeld setup later entered (Some job)
  out_held None job out = absurd out
  out_held (Some entered) job out = out

  pub held_after : (next : ℕ) (given : Option ℕ) (job : Option Job) (old new : Jobs) → GoesWith setup later given job → IfSome job (λ j. ticket_of j ≡ next)
      → ((t : ℕ) → ((n : ℕ) → given ≡ Some n → (n == t) ≡ false) → ticket_at later t ≡ ticket_at past t) → Holds next job old new → JobsStand setup old past → JobsStand setup new later
  held_after next None None old new goes number others holds held t = subst (IsHeld setup later (ticket_at later t)) (sym (holds t)) (keep t (job_in old t) (others t (λ n e. cc)) (held t))
  held_after next None (Some job) old new goes number others holds held t = cc
  held_after next (Some n) None old new goes number others holds held t = absurd goes
  held_after next (Some n) (Some job) old new goes number others holds held t =
      let same : next ≡ n = sym number ∙ goes.0 in
      elim (cases_Bool (n == t)) [
        | inl e ↦ (let here : job_in new t ≡ Some job = holds t ∙ ap (λ m. if m == t then Some job else job_in old t) same ∙ rw e refl in
            subst (IsHeld setup later (ticket_at later t)) (sym here) (subst (λ m. IsHeld setup later (ticket_at later m) (Some job)) (eqb-true n t e) (out_held (ticket_at later n) job goes.1)))
        | inr e ↦ (let there : job_in new t ≡ job_in old t = holds t ∙ ap (λ m. if m == t then Some job else job_in old t) same ∙ rw e refl in
            subst (IsHeld setup later (ticket_at later t)) (sym there) (keep t (job_in old t) (others t (λ m q. let is : n ≡ m = cc in ap (λ k. k == t) (sym is) ∙ e)) (held t)))
      ]

-- the tickets but the one that a reply gives stay, where the act is no leave and may follow
stays_given : (given : Option ℕ) (op : ℕ) (work : Work) (t : ℕ) (before : Option Entered) → ((n : ℕ) → given ≡ Some n → (n == t) ≡ false) → ticket_after (goes_out given op work) t before ≡ before
stays_given None op work t before others = refl
stays_given (Some n) op work t before others = rw (others n refl) refl

admitted_stay : (act : Act) (fields : Fields) (t : ℕ) (before : Option Entered) → left_by act ≡ None → is_restart act ≡ false → ((n : ℕ) → fields.ticket ≡ Some n → (n == t) ≡ false) → ticket_after (admitted_ticket act fields) t before ≡ before
admitted_stay (EnterAad op input) fields t before no_leave no_restart others = stays_given fields.ticket op (Aad input) t before others
admitted_stay (EnterUpdate op input) fields t before no_leave no_restart others = stays_given fields.ticket op (Text input) t before others
admitted_stay (EnterFinish op input signature) fields t before no_leave no_restart others = stays_given fields.ticket op (Last input signature) t before others
admitted_stay (Leave ticket) fields t before no_leave no_restart others = cc
admitted_stay (Restart root) fields t before no_leave no_restart others = cc
admitted_stay _ fields t before no_leave no_restart others = refl

stopped_stay : (act : Act) (t : ℕ) (before : Option Entered) → left_by act ≡ None → ticket_after (stopped_ticket act) t before ≡ before
stopped_stay (Leave ticket) t before e = cc
stopped_stay _ t before e = refl

-- the ticket that a reply gives
abbrev pub ticket_given : Reply → Option ℕ
ticket_given (Done fields) = fields.ticket
ticket_given (Broken rule code) = None
ticket_given (Stopped code) = None

pub others_stay : (past : History) (event : Event) (drawn : List ℕ) (reply : Reply) → left_by event.act ≡ None → is_restart event.act ≡ false → (t : ℕ)
    → ((n : ℕ) → ticket_given reply ≡ Some n → (n == t) ≡ false) → ticket_at (Acted event drawn reply ∷ past) t ≡ ticket_at past t
others_stay past event drawn (Done fields) no_leave no_restart t others = admitted_stay event.act fields t (ticket_at past t) no_leave no_restart others
others_stay past event drawn (Broken rule code) no_leave no_restart t others = refl
others_stay past event drawn (Stopped code) no_leave no_restart t others = stopped_stay event.act t (ticket_at past t) no_leave

pub goes_with : (setup : Setup) (later : History) (reply : Reply) (job : Option Job) → HasJob setup later reply job → GoesWith setup later (ticket_given reply) job
goes_with setup later (Done fields) job has = has
goes_with setup later (Broken rule code) job has = has
goes_with setup later (Stopped code) job has = has

-- a settling leaves the tickets
settled_tickets : (settled : Option Settled) (past : History) (t : ℕ) → ticket_at (after_settling settled past) t ≡ ticket_at past t
settled_tickets None past t = refl
settled_tickets (Some settled) past t = refl

-- the jobs that are held after the step of a leave
pub held_left : (setup : Setup) (past : History) (ticket : ℕ) (event : Event) (settled : Option Settled) (drawn : List ℕ) (reply : Reply) (old new : Jobs)
    → event.act ≡ Leave ticket → MayStep setup past settled event drawn reply → Stays setup past (after_step settled event drawn reply past)
    → SetsJob ticket None old new → JobsStand setup old past → JobsStand setup new (after_step settled event drawn reply past)
held_left setup past ticket event settled drawn reply old new e may stays sets held = held_after_leave setup past (after_step settled event drawn reply past) stays ticket old new
    (λ t. ap (λ change. ticket_after change t (ticket_at (after_settling settled past) t)) (leave_change setup (after_settling settled past) ticket event drawn reply e may.follows)
    ∙ ap (λ found. ticket_after (ComesBack ticket) t found) (settled_tickets settled past t)) sets held

-- a leave settles nothing
pub leave_alone : (setup : Setup) (past : History) (ticket : ℕ) (settled : Option Settled) (event : Event) (drawn : List ℕ) (reply : Reply) → event.act ≡ Leave ticket → MayStep setup past settled event drawn reply → is_some settled ≡ false
leave_alone setup past ticket None event drawn reply e may = refl
leave_alone setup past ticket (Some settled) event drawn reply e may = absurd (
    let settles : (fixed_for event.act).settles ≡ false = ap (λ act. (fixed_for act).settles) e in
    let yes = may.settles.settles in cc)

pub none_settled : (settled : Option Settled) → is_some settled ≡ false → settled ≡ None
none_settled None e = refl
none_settled (Some settled) e = absurd (let no = e in cc)

-- how many entries a step makes
pub one_made : (settled : Option Settled) → is_some settled ≡ false → entries_made settled ≡ 1
one_made settled e = ap entries_made (none_settled settled e)

pub few_made : (settled : Option Settled) → entries_made settled ≤ 2
few_made None = omega arith
few_made (Some settled) = omega arith

-- the same of another event, with the job that it gave
pub held_on : (setup : Setup) (past : History) (event : Event) (settled : Option Settled) (drawn : List ℕ) (reply : Reply) (job : Option Job) (next : ℕ) (old new : Jobs)
    → left_by event.act ≡ None → is_restart event.act ≡ false → HasJob setup (after_step settled event drawn reply past) reply job
    → Stays setup past (after_step settled event drawn reply past) → IfSome job (λ j. ticket_of j ≡ next)
    → Holds next job old new → JobsStand setup old past → JobsStand setup new (after_step settled event drawn reply past)
held_on setup past event settled drawn reply job next old new no_leave no_restart has stays number holds held = held_after setup past (after_step settled event drawn reply past) stays next (ticket_given reply) job old new
    (goes_with setup (after_step settled event drawn reply past) reply job has) number
    (λ t others. others_stay (after_settling settled past) event drawn reply no_leave no_restart t others ∙ settled_tickets settled past t) holds held

-- after a restart no work is out, where it is admitted, and else what was out is so
all_gone : (act : Act) (fields : Fields) → is_restart act ≡ true → admitted_ticket act fields ≡ AllGone
all_gone (Restart root) fields restarts = refl
all_gone _ fields restarts = cc

none_stopped : (act : Act) → is_restart act ≡ true → stopped_ticket act ≡ SameTickets
none_stopped (Leave ticket) restarts = cc
none_stopped _ restarts = refl

pub no_job : (setup : Setup) (past : History) (entered : Option Entered) (job : Option Job) → entered ≡ None → job ≡ None → IsHeld setup past entered job
no_job setup past entered job e f = subst (λ x. IsHeld setup past x job) (sym e) (subst (IsHeld setup past None) (sym f) tt)

-- the jobs that are held after the step of a restart
pub held_restarted : (setup : Setup) (past : History) (event : Event) (settled : Option Settled) (drawn : List ℕ) (reply : Reply) (old new : Jobs)
    → is_restart event.act ≡ true → Stays setup past (after_step settled event drawn reply past)
    → ClearsJobs (is_done reply) old new → JobsStand setup old past → JobsStand setup new (after_step settled event drawn reply past)
held_restarted setup past event settled drawn (Done fields) old new restarts stays clears held t =
    let later : History = after_step settled event drawn (Done fields) past in
    no_job setup later (ticket_at later t) (job_in new t) (ap (λ change. ticket_after change t (ticket_at (after_settling settled past) t)) (all_gone event.act fields restarts)) (clears t)
held_restarted setup past event settled drawn (Broken rule code) old new restarts stays clears held t =
    let later : History = after_step settled event drawn (Broken rule code) past in
    subst (IsHeld setup later (ticket_at later t)) (sym (clears t)) (keep setup past later stays t (job_in old t) (settled_tickets settled past t) (held t))
held_restarted setup past event settled drawn (Stopped code) old new restarts stays clears held t =
    let later : History = after_step settled event drawn (Stopped code) past in
    subst (IsHeld setup later (ticket_at later t)) (sym (clears t)) (keep setup past later stays t (job_in old t)
    (ap (λ change. ticket_after change t (ticket_at (after_settling settled past) t)) (none_stopped event.act restarts) ∙ settled_tickets settled past t) (held t))

-- what a session stands for it stands for with the same engine and jobs
pub reserved : {D : Type 0} (d : DiskGhosts D) (setup : Setup) (old new : Session) (disk : D) (past : History) → engine_of new ≡ engine_of old → (JobsStand setup (jobs_of old) past → JobsStand setup (jobs_of new) past)
    → StandsFor d setup old disk past → StandsFor d setup new disk past
reserved d setup old new disk past same jobs for = record {
  stands = subst (λ engine. EngineStands setup engine past) (sym same) for.stands;
  store = subst (λ engine. StoreStands d setup engine disk past) (sym same) for.store;
  held = jobs for.held;
}

-- a restart is no leave
pub no_leave : (act : Act) → is_restart act ≡ true → left_by act ≡ None
no_leave (Leave ticket) restarts = cc
no_leave _ restarts = refl

-- what holds of an engine and its jobs holds with the same jobs
pub same_jobs : {engine : Engine} {old new : Jobs} → SameJobs old new → IsSession engine old → IsSession engine new
same_jobs {old = old} {new = new} same is = record {
  setup = is.setup;
  past = is.past;
  stands = is.stands;
  held = λ t. subst (IsHeld is.setup is.past (ticket_at is.past t)) (sym (same t)) (is.held t);
}

pub some_engine : {engine : Engine} {jobs : Jobs} → IsSession engine jobs → StandsForSome engine
some_engine is = record { setup = is.setup; past = is.past; stands = is.stands }

-- an engine takes an act that is no leave
pub may_go : {engine : Engine} {jobs : Jobs} {act : Act} → left_by act ≡ None → IsSession engine jobs → MayTake engine act None
may_go {act = act} no_leave is = record { setup = is.setup; past = is.past; stands = is.stands; back_is = not_leave is.setup is.past act no_leave }

-- what the job of a leave's ticket came back with
pub comes_back : (setup : Setup) (past : History) (ticket : ℕ) (act : Act) (jobs : Jobs) (job : Option Job) (back : Option JobDone) → act ≡ Leave ticket → job ≡ job_in jobs ticket → JobsStand setup jobs past → Ran job back
    → HasDone setup past act back
comes_back setup past ticket act jobs job back e is held ran = subst (λ a. HasDone setup past a back) (sym e)
    (done_out setup past (ticket_at past ticket) job back (subst (IsHeld setup past (ticket_at past ticket)) (sym is) (held ticket)) ran)

-- an engine takes a leave with it
pub may_leave : {engine : Engine} {jobs : Jobs} (ticket : ℕ) (act : Act) (job : Option Job) (back : Option JobDone) → act ≡ Leave ticket → job ≡ job_in jobs ticket → Ran job back → IsSession engine jobs → MayTake engine act back
may_leave {jobs = jobs} ticket act job back e is ran session = record {
  setup = session.setup;
  past = session.past;
  stands = session.stands;
  back_is = comes_back session.setup session.past ticket act jobs job back e is session.held ran;
}
