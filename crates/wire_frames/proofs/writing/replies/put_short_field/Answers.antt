use Rattle.std.proofs.Common.{sym}
use Rattle.wire_frames.proofs.Windows.{after_none, then}
use Rattle.wire_frames.proofs.writing.replies.put_short_field.Goals as goal

pub returns-in-None : goal.returns-in-None
returns-in-None c = rw c.in-None.is (sym (after_none c.args.out.now))

pub returns-in-Some : goal.returns-in-Some
returns-in-Some c = rw c.in-Some.is (then _ _ _ _ _ c.put_u8.ensures c.put_u32.ensures)
