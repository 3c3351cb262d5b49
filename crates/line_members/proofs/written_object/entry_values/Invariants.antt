use Rattle.std.proofs.Common.{◌≡◌, map, take}
use Rattle.serde_json.specs.View.{view}
use Rattle.line_members.specs.Values.{entry_data}
use Rattle.line_members.proofs.written_object.entry_values.Given as goal

abbrev pub invariant-entries : goal.invariant-entries
invariant-entries l = map view l.values.items ≡ map entry_data (take l.entry-index l.entries)
