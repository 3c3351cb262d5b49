use Rattle.std.proofs.Common.{◌≡◌, false}
use Rattle.turn_lock.specs.Passes.{IsPassOf, number_of}
use Rattle.connection_workers.specs.Workers.{HasTaken, own_of}
use Rattle.connection_workers.proofs.worker.serve_until_shut.Given as goal

abbrev pub invariant-connections : goal.invariant-connections
invariant-connections g l = record {
  ours : IsPassOf l.lock l.pass;
  number : number_of l.pass ≡ number_of l.fn.pass;
  taken : HasTaken g.B.L.Link g.A.Answerer.answers g.B.HangsUp.leaves (number_of l.fn.pass) (own_of l.fn.pass) (own_of l.pass) l.fn.answerer l.answerer;
  client : g.A.Answerer.connected l.answerer ≡ false;
}
