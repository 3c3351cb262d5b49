-- The entry that a line of a trace spells.
use Rattle.std.specs.Prelude.{ℕ, List, codes, if◌then◌else◌, Option, Some, None}
use Rattle.std.specs.Str.{bytes_eq}
use Rattle.tags.specs.declared.settled.Settled.{Settled}
use Rattle.tags.specs.declared.settled.Settled.TheVariants.{Kept, Lost}
use Rattle.rule_model.specs.declared.entry.Entry.{Entry}
use Rattle.rule_model.specs.declared.entry.Entry.TheVariants.{Acted, Settling}
use Rattle.serde_json.specs.Data.{Data}
use Rattle.serde_json.specs.Find.{get, as_str}
use Rattle.line_members.specs.declared.alias_form.AliasForm.TheVariants.{TextOrHex}
use Rattle.script_lines.specs.Acts.{event_in}
use Rattle.line_members.specs.Members.{parsed}
use Rattle.line_members.specs.Members.{◌>>=◌, hex_of, needed}
use Rattle.trace_lines.specs.ReplyReads.{reply_in}
use Rattle.trace_lines.specs.Traces.{entry_text}

abbrev pub settled_named : List ℕ → Option Settled
settled_named name = if bytes_eq name (codes "kept") then Some Kept else if bytes_eq name (codes "lost") then Some Lost else None

abbrev pub settling_in : Data → Option Entry
settling_in value = as_str value >>= settled_named >>= λ settled. Some (Settling settled)

abbrev pub acted_in : Data → Option Entry
acted_in members = do
  drawn ← needed hex_of (codes "drawn") members
  reply ← needed reply_in (codes "reply") members
  event ← needed (event_in TextOrHex) (codes "event") members
  Some (Acted event drawn reply)

abbrev pub entry_by : Option Data → Data → Option Entry
entry_by (Some settled) members = settling_in settled
entry_by None members = acted_in members

-- an object with how a change was settled, or else with drawn bytes, a reply and an event; other members are not looked at here
abbrev pub entry_in : Data → Option Entry
entry_in members = entry_by (get (codes "settled") members) members

-- the entry, where its line is this
abbrev pub unless_other : List ℕ → Entry → Option Entry
unless_other line entry = if bytes_eq (entry_text entry) line then Some entry else None

-- The entry of a line without its LF: exactly where the line reads as an entry, and that entry's line is the line again.
abbrev pub entry_of : List ℕ → Option Entry
entry_of line = parsed line >>= entry_in >>= unless_other line
