use Rattle.service_load.specs.Callers.{Goes}
use Rattle.service_load.proofs.caller.make_rounds.Given as goal

abbrev pub invariant-loop-round : goal.invariant-loop-round
invariant-loop-round g l = Goes l.service l.fn.caller l.caller
