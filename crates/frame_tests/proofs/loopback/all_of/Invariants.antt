use Rattle.std.proofs.Common.{◌≤◌, length}
use Rattle.frame_tests.proofs.loopback.all_of.Given as goal

abbrev pub invariant-loop : goal.invariant-loop
invariant-loop g l = l.count ≤ length l.out
