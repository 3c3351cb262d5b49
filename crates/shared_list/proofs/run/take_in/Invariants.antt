use Rattle.std.proofs.Common.{◌≡◌, length}
use Rattle.turn_lock.specs.Passes.{made_of, made_before, IsClosingOf}
use Rattle.shared_list.proofs.Taking.{IsTaking}
use Rattle.shared_list.proofs.run.take_in.Given as goal

abbrev pub decreases-loop-next : goal.decreases-loop-next
decreases-loop-next g l = length l.results.items

abbrev pub invariant-loop-next : goal.invariant-loop-next
invariant-loop-next g l = record {
  closing : IsClosingOf l.lock l.closing;
  made : made_before l.closing ≡ made_of l.fn.maker;
  taking : IsTaking l.fn.results.items l.results.items l.closing;
}
