use Rattle.serde_json.specs.View.{view}
use Rattle.script_lines.proofs.EventsFound.{line_is_whole}
use Rattle.script_lines.proofs.event.event_of.Goals as goal

pub returns-clause-whole : goal.returns-clause-whole
returns-clause-whole c = line_is_whole (view c.in_ok-object.object) c.line_in.result c.line_in.ensures
