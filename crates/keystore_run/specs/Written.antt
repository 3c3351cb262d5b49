-- What is written of a history that follows the lines of a script: the lines of its replies, or its trace.
use Rattle.std.specs.Prelude.{◌≡◌, ℕ, List, [], ◌++◌, Option}
use Rattle.tags.specs.declared.settled.Settled.{Settled}
use Rattle.rule_model.specs.declared.entry.Entry.TheVariants.{Acted}
use Rattle.rule_model.specs.declared.event.Event.{Event}
use Rattle.rule_model.specs.declared.reply.Reply.{Reply}
use Rattle.rule_model.specs.Entries.{History}
use Rattle.script_lines.specs.Replies.{line_of, malformed_line, settled_line}
use Rattle.trace_lines.specs.Traces.{entry_line, trace_of}
use Rattle.keystore_run.specs.declared.written.Written.{Written}
use Rattle.keystore_run.specs.declared.written.Written.TheVariants.{Replies, Trace}

-- of a history that follows lines with a text of replies: this text, or the trace of the history, in which malformed lines are nothing
abbrev pub written_of : Written → History → List ℕ → List ℕ
written_of Replies history text = text
written_of Trace history text = trace_of history

-- what is written between a history and a later one, which follows it with a text of replies
abbrev pub Adds : Written → History → History → List ℕ → List ℕ → Type 0
Adds Replies past later text added = added ≡ text
Adds Trace past later text added = trace_of later ≡ trace_of past ++ added

-- ---- by the steps of a line

-- the lines of a step's entries: how an earlier change was settled, where that was due, and the event with its drawn bytes and its reply
abbrev pub step_lines : Option Settled → Event → List ℕ → Reply → List ℕ
step_lines settled event drawn reply = settled_line settled ++ entry_line (Acted event drawn reply)

-- of one step
abbrev pub step_text : Written → Option Settled → Event → List ℕ → Reply → List ℕ
step_text Replies settled event drawn reply = line_of settled reply
step_text Trace settled event drawn reply = step_lines settled event drawn reply

-- of a step and the leave behind it, whose reply stands in place of the step's
abbrev pub left_text : Written → Option Settled → Event → List ℕ → Reply → Event → List ℕ → Reply → List ℕ
left_text Replies settled event drawn reply leave last left = line_of settled left
left_text Trace settled event drawn reply leave last left = step_lines settled event drawn reply ++ entry_line (Acted leave last left)

-- of a line that spells no event
abbrev pub malformed_text : Written → List ℕ
malformed_text Replies = malformed_line
malformed_text Trace = []
