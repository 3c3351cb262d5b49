-- Which calls of a form in memory are to fail.
use Rattle.std.specs.Prelude.{ℕ, List}
use Rattle.ks_outside.specs.declared.calls.FailingCalls.{FailingCalls}

-- the numbers of the calls that are to fail, counted from 1
abbrev pub failing_in : FailingCalls → List ℕ
failing_in plan = plan.numbers.now

-- how many calls were counted
abbrev pub asked_in : FailingCalls → ℕ
asked_in plan = plan.calls
