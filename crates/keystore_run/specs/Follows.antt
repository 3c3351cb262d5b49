-- A history with a text that follows a list of lines.
use Rattle.std.specs.Prelude.{◌≡◌, ℕ, Bool, List, [], ◌∷◌, ◌++◌, Option, Some, None, if◌then◌else◌}
use Rattle.tags.specs.declared.settled.Settled.{Settled}
use Rattle.rule_model.specs.declared.event.Act.TheVariants.{Leave}
use Rattle.ks_outside.specs.declared.clock.Reading.{Reading}
use Rattle.rule_model.specs.declared.event.Event.{Event}
use Rattle.rule_model.specs.declared.event.Line.{Line}
use Rattle.rule_model.specs.declared.reply.Reply.{Reply}
use Rattle.rule_model.specs.declared.reply.Reply.TheVariants.{Done, Broken, Stopped}
use Rattle.rule_model.specs.Entries.{History, after_step}
use Rattle.script_lines.specs.Lines.{event_of}
use Rattle.script_lines.specs.Replies.{line_of, malformed_line}

-- the ticket whose leave a line makes at once: that which its reply gives, where the line does not hold it
abbrev pub ticket_due : Bool → Reply → Option ℕ
ticket_due hold (Done fields) = if hold then None else fields.ticket
ticket_due hold (Broken rule code) = None
ticket_due hold (Stopped code) = None

-- the leave that a line makes: at the reading of its event, by no client
abbrev pub leave_at : Reading → ℕ → Event
leave_at reading ticket = record { reading = reading; client = 0; act = Leave ticket }

-- A step of a line's event stands with the lines of what it settled and of its reply; where a leave is due it is made too, and
-- its reply stands in place of the enter's.
abbrev pub SaysStep : Option ℕ → Event → Option Settled → List ℕ → Reply → History → History → List ℕ → Type 0
SaysStep None event settled drawn reply past later text = (later ≡ after_step settled event drawn reply past) × (text ≡ line_of settled reply)
SaysStep (Some ticket) event settled drawn reply past later text =
    (last : List ℕ) × (left : Reply) × (later ≡ after_step None (leave_at event.reading ticket) last left (after_step settled event drawn reply past)) × (text ≡ line_of settled left)

-- A line that spells no event adds the malformed line to the text and nothing to the history. Another adds the step of its
-- event, and the leave of the ticket that it gave where the line does not hold it.
abbrev pub Says : History → Option Line → History → List ℕ → Type 0
Says past None later text = (later ≡ past) × (text ≡ malformed_line)
Says past (Some line) later text =
    (settled : Option Settled) × (drawn : List ℕ) × (reply : Reply) × SaysStep (ticket_due line.hold reply) line.event settled drawn reply past later text

-- the lines, walked in order after a history, lead to a later one with their texts joined
abbrev pub Follows : History → List (List ℕ) → History → List ℕ → Type 0
Follows past [] later text = (later ≡ past) × (text ≡ [])
Follows past (line ∷ lines) later text =
    (mid : History) × (first : List ℕ) × (rest : List ℕ) × Says past (event_of line) mid first × Follows mid lines later rest × (text ≡ first ++ rest)
