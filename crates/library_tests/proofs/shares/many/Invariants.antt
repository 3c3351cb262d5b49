use Rattle.std.proofs.Common.{◌+◌}
use Rattle.grants.specs.Table.{AreBelow}
use Rattle.library_tests.proofs.shares.many.Given as goal

abbrev pub invariant-loop-index : goal.invariant-loop-index
invariant-loop-index l = AreBelow l.grants (l.index + 1)
