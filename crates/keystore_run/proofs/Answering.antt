-- What a line is answered, by its parts.
use Rattle.std.proofs.Common.{◌≡◌, ℕ, List, Option, Some, None, Result, Ok, Err, IfOk, refl, sym, ap, ◌∙◌}
use Rattle.tags.specs.declared.bytes.NoMemory.{NoMemory}
use Rattle.tags.specs.declared.code.Code.TheVariants.{InvalidArgument}
use Rattle.tags.specs.declared.rule.RuleTable.TheVariants as tables
use Rattle.tags.specs.declared.settled.Settled.{Settled}
use Rattle.rule_model.specs.declared.event.Event.{Event}
use Rattle.rule_model.specs.declared.reply.Reply.{Reply}
use Rattle.rule_model.specs.declared.reply.Reply.TheVariants.{Broken}
use Rattle.trace_lines.specs.declared.trace.ToldEvent.{ToldEvent}
use Rattle.script_lines.specs.Replies.{line_of}
use Rattle.trace_lines.specs.Told.{Tells}
use Rattle.keystore_run.specs.declared.answer.Answer.{Answer}
use Rattle.keystore_run.specs.declared.telling.Telling.TheVariants as tellings
use Rattle.keystore_run.specs.declared.written.Written.{Written}
use Rattle.keystore_run.specs.declared.written.Written.TheVariants.{Replies, Trace}
use Rattle.keystore_run.specs.Answers.{IsAnswer, IsReplied, code_of}
use Rattle.keystore_run.specs.Telling.{TellsOf}
use Rattle.keystore_run.specs.Written.{malformed_text}

pub replied : (result : Result Answer NoMemory) (settled : Option Settled) (reply : Reply)
    → IfOk result (λ answer. answer.text ≡ line_of settled reply) → IfOk result (λ answer. answer.settled ≡ settled) → IfOk result (λ answer. answer.code ≡ code_of reply) → IfOk result IsReplied
replied (Ok answer) settled reply text is code = record { reply = reply; text_is = text ∙ ap (λ (s : Option Settled). line_of s reply) (sym is); code_is = code }
replied (Err fault) settled reply text is code = tt

-- a telling that has no event is of replies, and one that has is of a trace
pub of_replies : (written : Written) (event : Event) → TellsOf written tellings.Reply event → written ≡ Replies
of_replies Replies event tells = refl
of_replies Trace event tells = absurd tells

pub of_trace : (written : Written) (told : ToldEvent) (event : Event) → TellsOf written (tellings.Entries told) event → (written ≡ Trace) × Tells told event
of_trace Replies told event tells = absurd tells
of_trace Trace told event tells = (refl, tells)

-- of what is answered where a trace is written nothing more is asked
pub traced : (result : Result Answer NoMemory) → IfOk result (IsAnswer Trace)
traced (Ok answer) = tt
traced (Err fault) = tt

-- what is answered to a line that spells no event
pub malformed_is : (written : Written) (text : List ℕ) → text ≡ malformed_text written → IsAnswer written (record { settled = None; code = Some InvalidArgument; text = text })
malformed_is Replies text is = record { reply = Broken (record { table = tables.L; number = 1 }) InvalidArgument; text_is = is; code_is = refl }
malformed_is Trace text is = tt
