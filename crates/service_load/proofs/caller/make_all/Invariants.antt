use Rattle.service_load.specs.Callers.{Goes}
use Rattle.service_load.proofs.caller.make_all.Given as goal

abbrev pub invariant-loop-call : goal.invariant-loop-call
invariant-loop-call g l = Goes l.service l.fn.caller l.caller
