-- A line of a trace: one entry of a history, as the compact JSON text of an object with its members in byte order, and LF.
use Rattle.std.specs.Prelude.{ℕ, List, [], ◌∷◌, ◌++◌, codes}
use Rattle.rule_model.specs.Entries.{History}
use Rattle.rule_model.specs.declared.entry.Entry.{Entry}
use Rattle.rule_model.specs.declared.entry.Entry.TheVariants.{Acted, Settling}
use Rattle.rule_model.specs.declared.event.Event.{Event}
use Rattle.rule_model.specs.declared.reply.Reply.{Reply}
use Rattle.serde_json.specs.Data.{object, Members, no_members, put}
use Rattle.serde_json.specs.Written.{compact_text}
use Rattle.line_members.specs.Values.{hex_data}
use Rattle.script_lines.specs.EventLines.{event_members}
use Rattle.script_lines.specs.Replies.{reply_members, settled_members}

-- the bytes that were drawn, and the reply, beside the members of the event
abbrev pub acted_with : Members → List ℕ → Reply → Members
acted_with told drawn reply =
    put (codes "reply") (object (reply_members reply))
    (put (codes "drawn") (hex_data drawn)
    (put (codes "event") (object told) no_members))

abbrev pub acted_members : Event → List ℕ → Reply → Members
acted_members event drawn reply = acted_with (event_members event) drawn reply

abbrev pub entry_members : Entry → Members
entry_members (Acted event drawn reply) = acted_members event drawn reply
entry_members (Settling settled) = settled_members settled

-- the line of an entry without its LF
abbrev pub entry_text : Entry → List ℕ
entry_text entry = compact_text (object (entry_members entry))

-- the line of an entry
abbrev pub entry_line : Entry → List ℕ
entry_line entry = entry_text entry ++ 10 ∷ []

-- the trace of a history: the lines of its entries, the oldest first
abbrev pub trace_of : History → List ℕ
trace_of [] = []
trace_of (entry ∷ past) = trace_of past ++ entry_line entry
