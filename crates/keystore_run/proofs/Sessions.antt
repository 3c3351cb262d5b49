-- What a step leaves in a session.
use Rattle.std.proofs.Common.{◌≡◌, ℕ, ◌&&◌, List, [], Option, Some, None, Result, Ok, Err, IfOk, ◌⊎◌, false, inl, inr, refl, sym, subst, Bool, arith}
use Rattle.ks_outside.specs.Shown.{Drew}
use Rattle.ks_outside.specs.declared.disk.Disk.{Ghosts as DiskGhosts}
use Rattle.ks_outside.specs.declared.entropy.Entropy.{Ghosts}
use Rattle.ks_outside.specs.declared.sink.Sink.{Ghosts as SinkGhosts}
use Rattle.ks_outside.proofs.Shown.{drew_none as nothing_drawn, put_none}
use Rattle.tags.specs.declared.bytes.NoMemory.{NoMemory}
use Rattle.tags.specs.declared.code.Code.{Code}
use Rattle.tags.specs.declared.code.Code.TheVariants.{SystemError}
use Rattle.tags.specs.declared.settled.Settled.{Settled}
use Rattle.rule_model.specs.declared.entry.Stepped.{Stepped}
use Rattle.rule_model.specs.declared.event.Event.{Event}
use Rattle.rule_model.specs.declared.event.Line.{Line}
use Rattle.rule_model.specs.declared.reply.Reply.{Reply}
use Rattle.rule_model.specs.declared.reply.Reply.TheVariants.{Done, Broken, Stopped}
use Rattle.rule_model.specs.Drawn.{is_entropy_code, is_entropy_fault}
use Rattle.rule_model.specs.Settling.{is_disk_fault, is_system_error}
use Rattle.rule_model.specs.Entries.{History, after_step}
use Rattle.rule_model.specs.Setup.{Setup}
use Rattle.script_lines.specs.Lines.{event_of}
use Rattle.script_lines.specs.Replies.{line_of, malformed_line}
use Rattle.keystore_run.specs.declared.session.Session.{Session}
use Rattle.keystore_run.specs.declared.answer.Answer.{Answer}
use Rattle.keystore_run.specs.declared.written.Written.{Written}
use Rattle.keystore_run.specs.Answers.{text_in}
use Rattle.keystore_run.specs.Follows.{SaysStep, leave_at, ticket_due}
use Rattle.keystore_run.specs.Serving.{IsServedInPart, IsUnserved}
use Rattle.keystore_run.specs.KeptStores.{KeepsMore}
use Rattle.keystore_run.specs.Session.{Devices, StandsFor, GoesBy, GoesOn, Serves, ServesBy, Stays, StepsTo, devices}
use Rattle.keystore_run.specs.Written.{Adds, malformed_text}
use Rattle.keystore_run.proofs.Adding.{adds_malformed}
use Rattle.keystore_run.proofs.DrawLemmas.{drew_both, drew_nothing, drew_step, one_more, undrawn_both, undrawn_step}
use Rattle.keystore_run.proofs.KeepLemmas.{keeps_both, keeps_nothing}
use Rattle.keystore_run.proofs.Tickets.{leave_alone, none_settled}

-- no reply tells of a failed device call and of a failed draw
one_code : (code : Code) → (is_system_error code && is_entropy_code code) ≡ false
one_code SystemError = refl
one_code _ = refl

one_fault : (reply : Reply) → (is_disk_fault reply && is_entropy_fault reply) ≡ false
one_fault (Done fields) = refl
one_fault (Broken rule code) = refl
one_fault (Stopped code) = one_code code

-- no reply that gives a ticket tells of a draw or of a device call that failed
no_fault : (hold : Bool) (ticket : ℕ) (reply : Reply) → Some ticket ≡ ticket_due hold reply → (is_entropy_fault reply ≡ false) × (is_disk_fault reply ≡ false)
no_fault hold ticket (Done fields) due = (refl, refl)
no_fault hold ticket (Broken rule code) due = (refl, refl)
no_fault hold ticket (Stopped code) due = absurd (let no = due in cc)

pub no_disk_fault : (hold : Bool) (ticket : ℕ) (reply : Reply) → Some ticket ≡ ticket_due hold reply → is_disk_fault reply ≡ false
no_disk_fault hold ticket reply due = (no_fault hold ticket reply due).1

-- the text of an answer
pub text_same : (result : Result Answer NoMemory) (text : List ℕ) → IfOk result (λ answer. answer.text ≡ text) → IfOk (text_in result) (λ out. out ≡ text)
text_same (Ok answer) text is = is
text_same (Err fault) text is = is

module _ {D N : Type 0} (d : DiskGhosts D) (n : Ghosts N) (setup : Setup) where
  -- a session stands for the history after a step
  pub stood : (past : History) (new : Session) (before after : D) (event : Event) (stepped : Stepped) → StepsTo d setup past new before after event stepped
      → StandsFor d setup new after (after_step stepped.settled event stepped.drawn stepped.reply past)
  stood past new before after event stepped to = record { stands = to.stands; store = to.store; held = to.held }

  -- the session goes on by the step of a line's event, where no leave is due
  pub went_on : (past : History) (new : Session) (before after : Devices D N) (line : Line) (stepped : Stepped)
      → StepsTo d setup past new before.disk after.disk line.event stepped → Drew n before.entropy after.entropy stepped.drawn (is_entropy_fault stepped.reply) → None ≡ ticket_due line.hold stepped.reply
      → GoesBy d n setup past new (Some line) before after (after_step stepped.settled line.event stepped.drawn stepped.reply past) (line_of stepped.settled stepped.reply)
  went_on past new before after line stepped to drew none = record {
    says = (stepped.settled, stepped.drawn, stepped.reply, subst (λ due. SaysStep due line.event stepped.settled stepped.drawn stepped.reply past (after_step stepped.settled line.event stepped.drawn stepped.reply past) (line_of stepped.settled stepped.reply)) none (refl, refl));
    drew = drew_step n before.entropy after.entropy past stepped.settled line.event stepped.drawn stepped.reply drew;
    failed = is_disk_fault stepped.reply;
    keeps = to.keeps;
    one = one_more (is_disk_fault stepped.reply) (is_entropy_fault stepped.reply) _ _ _ _ (one_fault stepped.reply) to.keeps.failures (undrawn_step past stepped.settled line.event stepped.drawn stepped.reply);
    stands = stood past new before.disk after.disk line.event stepped to;
  }

  -- the session goes on by the step of a line's event and by the leave that is due
  both_steps : (past : History) (new : Session) (before between after : Devices D N) (line : Line) (stepped : Stepped) (ticket : ℕ) (settled : Option Settled) (drawn : List ℕ) (reply : Reply)
      → StandsFor d setup new after.disk (after_step settled (leave_at line.event.reading ticket) drawn reply (after_step stepped.settled line.event stepped.drawn stepped.reply past)) → settled ≡ None
      → KeepsMore d setup before.disk between.disk past (after_step stepped.settled line.event stepped.drawn stepped.reply past) (is_disk_fault stepped.reply)
      → KeepsMore d setup between.disk after.disk (after_step stepped.settled line.event stepped.drawn stepped.reply past)
      (after_step settled (leave_at line.event.reading ticket) drawn reply (after_step stepped.settled line.event stepped.drawn stepped.reply past)) (is_disk_fault reply)
      → Drew n before.entropy between.entropy stepped.drawn (is_entropy_fault stepped.reply) → Drew n between.entropy after.entropy drawn (is_entropy_fault reply) → Some ticket ≡ ticket_due line.hold stepped.reply
      → GoesBy d n setup past new (Some line) before after (after_step None (leave_at line.event.reading ticket) drawn reply (after_step stepped.settled line.event stepped.drawn stepped.reply past)) (line_of stepped.settled reply)
  both_steps past new before between after line stepped ticket (Some settled) drawn reply for none kept left first second due = absurd (let no = none in cc)
  both_steps past new before between after line stepped ticket None drawn reply for none kept left first second due =
      let both = keeps_both d setup before.disk between.disk after.disk past _ _ (is_disk_fault reply)
      (subst (KeepsMore d setup before.disk between.disk past (after_step stepped.settled line.event stepped.drawn stepped.reply past)) (no_fault line.hold ticket stepped.reply due).1 kept) left in
      record {
        says = (stepped.settled, stepped.drawn, stepped.reply, subst (λ due. SaysStep due line.event stepped.settled stepped.drawn stepped.reply past (after_step None (leave_at line.event.reading ticket) drawn reply (after_step stepped.settled line.event stepped.drawn stepped.reply past)) (line_of stepped.settled reply)) due (drawn, reply, refl, refl));
        drew = drew_both n before.entropy between.entropy after.entropy past stepped.settled line.event (leave_at line.event.reading ticket) stepped.drawn drawn stepped.reply reply (no_fault line.hold ticket stepped.reply due).0 first second;
        failed = is_disk_fault reply;
        keeps = both;
        one = one_more (is_disk_fault reply) (is_entropy_fault reply) _ _ _ _ (one_fault reply) both.failures
            (undrawn_both past stepped.settled line.event (leave_at line.event.reading ticket) stepped.drawn drawn stepped.reply reply (no_fault line.hold ticket stepped.reply due).0);
        stands = for;
      }

  pub went_and_left : (past : History) (mid new : Session) (before between after : Devices D N) (line : Line) (stepped left : Stepped) (ticket : ℕ)
      → StepsTo d setup past mid before.disk between.disk line.event stepped → Drew n before.entropy between.entropy stepped.drawn (is_entropy_fault stepped.reply) → Some ticket ≡ ticket_due line.hold stepped.reply
      → ((later : History) → StandsFor d setup mid between.disk later → StepsTo d setup later new between.disk after.disk (leave_at line.event.reading ticket) left) → Drew n between.entropy after.entropy left.drawn (is_entropy_fault left.reply)
      → GoesBy d n setup past new (Some line) before after (after_step None (leave_at line.event.reading ticket) left.drawn left.reply (after_step stepped.settled line.event stepped.drawn stepped.reply past)) (line_of stepped.settled left.reply)
  went_and_left past mid new before between after line stepped left ticket to first due leaves second =
      let last = leaves _ (stood past mid before.disk between.disk line.event stepped to) in
      let none = none_settled left.settled (leave_alone setup _ ticket left.settled (leave_at line.event.reading ticket) left.drawn left.reply refl last.follows) in
      both_steps past new before between after line stepped ticket left.settled left.drawn left.reply (stood _ new between.disk after.disk _ left last) none to.keeps last.keeps first second due

  -- a line was served, and what is written of it is given, or for want of memory is not
  pub served : (written : Written) (past : History) (new : Session) (said : Option Line) (before after : Devices D N) (later : History) (text added : List ℕ) (result : Result (List ℕ) NoMemory)
      → GoesBy d n setup past new said before after later text → Adds written past later text added → IfOk result (λ out. out ≡ added) → ServesBy d n written setup past new said before after result
  served written past new said before after later text added (Ok out) goes adds is = (later, text, goes, subst (Adds written past later text) (sym is) adds)
  served written past new said before after later text added (Err fault) goes adds is = inl (later, text, added, goes, adds)

  -- what serves the line that bytes spell serves them
  pub spelled : (written : Written) (past : History) (new : Session) (bytes : List ℕ) (line : Line) (before after : Devices D N) (result : Result (List ℕ) NoMemory)
      → event_of bytes ≡ Some line → ServesBy d n written setup past new (Some line) before after result → Serves d n written setup past new bytes before after result
  spelled written past new bytes line before after result e serves = subst (λ (said : Option Line). ServesBy d n written setup past new said before after result) (sym e) serves

  -- a line that spells no event
  pub malformed : (written : Written) (past : History) (session : Session) (bytes : List ℕ) (disk : D) (entropy : N) (result : Result (List ℕ) NoMemory)
      → event_of bytes ≡ None → StandsFor d setup session disk past → IfOk result (λ out. out ≡ malformed_text written)
      → Serves d n written setup past session bytes (devices disk entropy) (devices disk entropy) result
  malformed written past session bytes disk entropy (Ok out) e for is = (
    past,
    malformed_line,
    record {
      says = rw e (refl, refl);
      drew = drew_nothing n entropy entropy past (nothing_drawn n entropy);
      failed = false;
      keeps = keeps_nothing d setup disk past;
      one = omega arith;
      stands = for;
    },
    subst (Adds written past past malformed_line) (sym is) (adds_malformed written past),
  )
  malformed written past session bytes disk entropy (Err fault) e for is = inr (record { stands = for; undrawn = nothing_drawn n entropy; uncalled = refl })

  -- want of memory, with all of the line's entries made or with none, and nothing written
  pub unwritten : {K : Type 0} (k : SinkGhosts K) (written : Written) (past : History) (new : Session) (line : List ℕ) (sink : K) (before after : Devices D N)
      → ((later : History) × (text : List ℕ) × (added : List ℕ) × GoesOn d n setup past new line before after later text × Adds written past later text added) ⊎ Stays d n setup past new before after
      → IsServedInPart k d n written setup past new line sink sink before after false ⊎ IsUnserved k d n setup past new sink sink before after
  unwritten k written past new line sink before after (inl (later, text, added, goes_on, adds)) =
      inl (record { later = later; text = text; part = []; missing = added; goes_on = goes_on; adds = adds; put = put_none k sink })
  unwritten k written past new line sink before after (inr stays) = inr (record { stays = stays; put = put_none k sink })
