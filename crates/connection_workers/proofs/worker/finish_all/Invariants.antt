use Rattle.std.proofs.Common.{◌≡◌, false}
use Rattle.connection_workers.specs.Arrivals.{arrived}
use Rattle.connection_workers.specs.Intakes.{IsIntake}
use Rattle.connection_workers.specs.Workers.{HasTaken}
use Rattle.connection_workers.proofs.worker.finish_all.Given as goal

abbrev pub invariant-connections : goal.invariant-connections
invariant-connections g l = record {
  taken : HasTaken g.B.L.Link g.A.Answerer.answers g.B.HangsUp.leaves l.worker (arrived l.fn.intake) (arrived l.intake) l.fn.answerer l.answerer;
  client : g.A.Answerer.connected l.answerer ≡ false;
  goes_on : (start : _) → IsIntake g.B.Listener start l.fn.intake → IsIntake g.B.Listener start l.intake;
}
