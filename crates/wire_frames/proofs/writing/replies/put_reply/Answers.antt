use Rattle.wire_frames.specs.Replies.{reply_body}
use Rattle.wire_frames.proofs.Windows.{then}
use Rattle.wire_frames.proofs.writing.replies.put_reply.Goals as goal

pub returns-in-Done : goal.returns-in-Done
unfolding reply_body
returns-in-Done c = rw c.in-Done.is (then _ _ _ _ _ c.put.ensures (then _ _ _ _ _ c.put_numbers.ensures c.put_texts.ensures))

pub returns-in-Broken : goal.returns-in-Broken
unfolding reply_body
returns-in-Broken c = rw c.in-Broken.is (then _ _ _ _ _ c.put_code.ensures c.put_rule.ensures)

pub returns-in-Stopped : goal.returns-in-Stopped
unfolding reply_body
returns-in-Stopped c = rw c.in-Stopped.is (then _ _ _ _ _ c.put_code-in-Stopped.ensures c.put-in-Stopped.ensures)
