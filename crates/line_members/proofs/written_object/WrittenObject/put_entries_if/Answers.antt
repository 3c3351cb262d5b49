use Rattle.line_members.proofs.NoFloats.{entries_have_none}
use Rattle.line_members.proofs.written_object.WrittenObject.put_entries_if.Goals as goal

pub put-requires : goal.put-requires
put-requires c = rw c.from.ensures (entries_have_none _ _ c.in_ok-values-in-Some.ensures)
