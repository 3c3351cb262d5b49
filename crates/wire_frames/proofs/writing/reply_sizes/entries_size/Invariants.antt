use Rattle.std.proofs.Common.{◌≤◌, length, take, flat_map}
use Rattle.wire_frames.specs.Replies.{entry_of}
use Rattle.wire_frames.specs.Sizes.{IsSize}
use Rattle.wire_frames.proofs.writing.reply_sizes.entries_size.Given as goal

abbrev pub invariant-loop-alias : goal.invariant-loop-alias
invariant-loop-alias l = IsSize l.size (length (flat_map entry_of (take l.alias-index l.entries))) × (l.size ≤ 4294967296)
