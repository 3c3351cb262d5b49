use Rattle.turn_lock.specs.Passes.{IsPassOf}
use Rattle.frame_tests.proofs.notes.looks_on.Given as goal

abbrev pub invariant-loop : goal.invariant-loop
invariant-loop g l = IsPassOf l.lock l.pass
