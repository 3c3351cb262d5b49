use Rattle.std.proofs.Common.{◌≡◌, ◌++◌, length, take, flat_map}
use Rattle.byteorder.specs.Endian.{big_bytes}
use Rattle.wire_frames.specs.Replies.{entry_of}
use Rattle.wire_frames.specs.Windows.{window_after}
use Rattle.wire_frames.proofs.writing.replies.put_entries.Given as goal

abbrev pub invariant-loop-alias : goal.invariant-loop-alias
invariant-loop-alias l = l.out ≡ window_after l.fn.out (big_bytes 4 (length l.entries) ++ flat_map entry_of (take l.alias-index l.entries))
