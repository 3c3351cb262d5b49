use Rattle.wire_frames.proofs.Windows.{then}
use Rattle.wire_frames.proofs.writing.replies.put_calls.Goals as goal

pub returns : goal.returns
returns c = then _ _ _ _ _ c.put_long_field.ensures (then _ _ _ _ _ c.put_long_field-2.ensures (then _ _ _ _ _ c.put_long_field-3.ensures c.put_long_field-4.ensures))
