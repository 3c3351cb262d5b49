use Rattle.std.proofs.Common.{◌≡◌, ◌-◌, ◌≤◌, ◌++◌, length, drop}
use Rattle.wire_frames.specs.Replies.{reply_of}
use Rattle.wire_frames.proofs.writing.reply_frame.Given as goal

abbrev pub invariant-windows : goal.invariant-windows
invariant-windows l = record {
  whole : reply_of l.fn.reply ≡ l.out.items ++ drop l.place (reply_of l.fn.reply);
  within : l.place ≤ length (reply_of l.fn.reply);
}

abbrev pub decreases-windows : goal.decreases-windows
decreases-windows l = length (reply_of l.fn.reply) - l.place
