use Rattle.std.proofs.Common.{◌≤◌}
use Rattle.wire_frames.specs.Standing.{reach}
use Rattle.frame_tests.proofs.frames.is_read_slowly.Given as goal

abbrev pub invariant-loop-i : goal.invariant-loop-i
invariant-loop-i l = reach l.frames ≤ l.i
