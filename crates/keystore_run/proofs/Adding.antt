-- What is written of a line, by its steps.
use Rattle.std.proofs.Common.{◌≡◌, ℕ, List, [], ◌++◌, Option, Some, None, refl, sym, ap, ◌∙◌, append_assoc, append-nil}
use Rattle.tags.specs.declared.settled.Settled.{Settled}
use Rattle.rule_model.specs.declared.entry.Entry.TheVariants.{Acted}
use Rattle.rule_model.specs.declared.event.Event.{Event}
use Rattle.rule_model.specs.declared.reply.Reply.{Reply}
use Rattle.rule_model.specs.Entries.{History, after_settling, after_step}
use Rattle.script_lines.specs.Replies.{line_of, malformed_line, settled_line}
use Rattle.trace_lines.specs.Traces.{entry_line, trace_of}
use Rattle.keystore_run.specs.declared.written.Written.{Written}
use Rattle.keystore_run.specs.declared.written.Written.TheVariants.{Replies, Trace}
use Rattle.keystore_run.specs.Written.{Adds, left_text, malformed_text, step_lines, step_text, written_of}

trace_settled : (settled : Option Settled) (past : History) → trace_of (after_settling settled past) ≡ trace_of past ++ settled_line settled
trace_settled None past = sym (append-nil (trace_of past))
trace_settled (Some settled) past = refl

trace_step : (settled : Option Settled) (event : Event) (drawn : List ℕ) (reply : Reply) (past : History) → trace_of (after_step settled event drawn reply past) ≡ trace_of past ++ step_lines settled event drawn reply
trace_step settled event drawn reply past =
    let line : List ℕ = entry_line (Acted event drawn reply) in
    ap (λ t. t ++ line) (trace_settled settled past) ∙ append_assoc (trace_of past) (settled_line settled) line

pub adds_step : (written : Written) (settled : Option Settled) (event : Event) (drawn : List ℕ) (reply : Reply) (past : History)
    → Adds written past (after_step settled event drawn reply past) (line_of settled reply) (step_text written settled event drawn reply)
adds_step Replies settled event drawn reply past = refl
adds_step Trace settled event drawn reply past = trace_step settled event drawn reply past

pub adds_left : (written : Written) (settled : Option Settled) (event : Event) (drawn : List ℕ) (reply : Reply) (leave : Event) (last : List ℕ) (left : Reply) (past : History)
    → Adds written past (after_step None leave last left (after_step settled event drawn reply past)) (line_of settled left) (left_text written settled event drawn reply leave last left)
adds_left Replies settled event drawn reply leave last left past = refl
adds_left Trace settled event drawn reply leave last left past =
    let line : List ℕ = entry_line (Acted leave last left) in
    ap (λ t. t ++ line) (trace_step settled event drawn reply past) ∙ append_assoc (trace_of past) (step_lines settled event drawn reply) line

pub adds_malformed : (written : Written) (past : History) → Adds written past past malformed_line (malformed_text written)
adds_malformed Replies past = refl
adds_malformed Trace past = sym (append-nil (trace_of past))

pub adds_nothing : (written : Written) (past : History) → Adds written past past [] []
adds_nothing Replies past = refl
adds_nothing Trace past = sym (append-nil (trace_of past))

-- what is written so far, and what a line adds
pub written_on : (written : Written) (past later : History) (text more added : List ℕ) → Adds written past later more added → written_of written later (text ++ more) ≡ written_of written past text ++ added
written_on Replies past later text more added adds = ap (λ t. text ++ t) (sym adds)
written_on Trace past later text more added adds = adds
