use Rattle.pruning.proofs.Going.{counts}
use Rattle.pruning.proofs.prune.victim.Goals as goal
use Rattle.pruning.proofs.prune.victim.Goals.{then-forced, else-forced}

pub returns-then-open_of-first-clause-victim : goal.returns-then-open_of-first-clause-victim
returns-then-open_of-first-clause-victim g c = rw (← c.in_ok-first.ensures.first) (elim c.if-forced.branch [
  | then-forced w ↦ rw w.if-forced.true
  | else-forced w ↦ rw (w.if-forced.false, counts c.args.slots.now c.args.uid, ← w.open_of.ensures.count, ← w.value-is, c.if-open_of-first.true)
])
