use Rattle.wire_frames.proofs.Windows.{then}
use Rattle.wire_frames.proofs.writing.replies.put_texts.Goals as goal

pub returns : goal.returns
returns c = then _ _ _ _ _ c.put_bytes_field.ensures (then _ _ _ _ _ c.put_bytes_field-2.ensures (then _ _ _ _ _ c.put_bytes_field-3.ensures (then _ _ _ _ _ c.put_bytes_field-4.ensures (then _ _ _ _ _ c.put_bytes_field-5.ensures c.put_entries_field.ensures))))
