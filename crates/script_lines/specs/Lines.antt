-- What a line of a script spells.
use Rattle.std.specs.Prelude.{ℕ, List, Option, Some}
use Rattle.rule_model.specs.Acts.{kind_of}
use Rattle.rule_model.specs.declared.event.Line.{Line}
use Rattle.serde_json.specs.Data.{Data}
use Rattle.line_members.specs.Members.{◌>>=◌, parsed}
use Rattle.script_lines.specs.Acts.{event_in, hold_of}
use Rattle.line_members.specs.declared.alias_form.AliasForm.TheVariants.{Text}

-- an event, and where its act enters whether it waits for its leave
abbrev pub line_in : Data → Option Line
line_in members = do
  event ← event_in Text members
  hold ← hold_of (kind_of event.act) members
  Some (record { event = event; hold = hold })

-- the event that a line spells, and whether an enter waits for its leave; None is a malformed line
abbrev pub event_of : List ℕ → Option Line
event_of line = parsed line >>= line_in
