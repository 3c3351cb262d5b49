-- The newest sync so far.
use Rattle.disk_model.proofs.Replays.{IsLast}
use Rattle.disk_model.proofs.image.settled.Given as goal

abbrev pub invariant-calls : goal.invariant-calls
invariant-calls l = IsLast l.calls.made l.count l.i
