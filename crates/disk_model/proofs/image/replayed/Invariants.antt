-- The bytes so far are those of the calls so far, as they are chosen.
use Rattle.disk_model.specs.Chosen.{IsReplayed}
use Rattle.disk_model.specs.Words.{reads}
use Rattle.disk_model.proofs.image.replayed.Given as goal

abbrev pub invariant-calls : goal.invariant-calls
invariant-calls l = IsReplayed l.choices l.calls.made l.start l.i (reads l.disk)
