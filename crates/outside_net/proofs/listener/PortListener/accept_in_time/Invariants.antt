use Rattle.std.proofs.Common.{◌≤◌, ◌-◌}
use Rattle.outside_net.specs.declared.passing.TheConstants.{TOGETHER}
use Rattle.outside_net.proofs.listener.PortListener.accept_in_time.Given as goal

abbrev pub invariant-tries : goal.invariant-tries
invariant-tries g l = l.waited ≤ TOGETHER

abbrev pub decreases-tries : goal.decreases-tries
decreases-tries g l = TOGETHER - l.waited
