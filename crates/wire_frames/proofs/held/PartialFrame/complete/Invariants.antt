use Rattle.std.proofs.Common.{◌≡◌, ◌-◌, ◌≤◌, ◌++◌, length, take}
use Rattle.wire_frames.specs.Streams.{needed}
use Rattle.wire_frames.specs.PartialFrames.{bytes_in}
use Rattle.wire_frames.proofs.held.PartialFrame.complete.Given as goal

abbrev pub decreases-parts : goal.decreases-parts
decreases-parts l = length l.piece - l.taken

abbrev pub invariant-parts : goal.invariant-parts
invariant-parts l = record {
  within : l.taken ≤ length l.piece;
  taken : bytes_in l.self ≡ bytes_in l.fn.self ++ take l.taken l.piece;
  enough : length (bytes_in l.self) ≤ needed (bytes_in l.self);
}
