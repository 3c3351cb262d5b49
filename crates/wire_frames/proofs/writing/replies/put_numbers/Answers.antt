use Rattle.wire_frames.proofs.Windows.{then}
use Rattle.wire_frames.proofs.writing.replies.put_numbers.Goals as goal

pub returns : goal.returns
returns c = then _ _ _ _ _ c.put_begins.ensures (then _ _ _ _ _ c.put_calls.ensures c.put_facts.ensures)
