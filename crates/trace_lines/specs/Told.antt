-- An event that is written before its step takes it.
use Rattle.std.specs.Prelude.{◌≡◌}
use Rattle.rule_model.specs.declared.event.Event.{Event}
use Rattle.line_members.specs.Objects.{members_in}
use Rattle.trace_lines.specs.declared.trace.ToldEvent.{ToldEvent}
use Rattle.script_lines.specs.EventLines.{event_members}

-- it has the members of this event
abbrev pub Tells : ToldEvent → Event → Type 0
Tells told event = members_in told.object ≡ event_members event
