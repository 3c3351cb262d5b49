use Rattle.std.proofs.Common.{◌≡◌, ◌-◌, ◌≤◌, length, drop}
use Rattle.wire_frames.specs.Replies.{reply_of}
use Rattle.connections.proofs.Written.{Written}
use Rattle.connections.proofs.writing.write_reply.Given as goal

abbrev pub invariant-windows : goal.invariant-windows
invariant-windows g l = record {
  written : Written g.L.Link l.fn.link l.link (reply_of l.fn.reply) (drop l.place (reply_of l.fn.reply));
  within : l.place ≤ length (reply_of l.fn.reply);
}

abbrev pub decreases-windows : goal.decreases-windows
decreases-windows g l = length (reply_of l.fn.reply) - l.place
