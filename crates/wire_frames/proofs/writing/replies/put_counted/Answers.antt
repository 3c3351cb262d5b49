use Rattle.wire_frames.proofs.Windows.{then}
use Rattle.wire_frames.proofs.writing.replies.put_counted.Goals as goal

pub returns : goal.returns
returns c = then _ _ _ _ _ c.put_u32.ensures c.put.ensures
