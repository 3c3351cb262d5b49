-- The rows below p are those after one byte more.
use Rattle.ghash.proofs.Gather.{Filled, after}
use Rattle.ghash.proofs.wide.one_more.Given as goal

abbrev pub invariant-rows : goal.invariant-rows
invariant-rows l = Filled l.out l.p (after l.high l.low l.acc l.bytes)
