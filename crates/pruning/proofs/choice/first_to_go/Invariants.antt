use Rattle.pruning.proofs.Going.{Walked}
use Rattle.pruning.proofs.choice.first_to_go.Given as goal

abbrev pub invariant-loop-place : goal.invariant-loop-place
invariant-loop-place g l = Walked l.slots l.now l.place l.first l.fn.steps l.steps
