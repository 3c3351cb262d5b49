use Rattle.std.proofs.Common.{◌≡◌, Some, refl, rules}
use Rattle.connection_workers.specs.Workers.{answerer_of, pass_of}
use Rattle.connection_workers.proofs.Rounds.{turned}
use Rattle.connection_workers.proofs.worker.Worker+B+B+L+A.work.Goals as goal

pub returns : goal.returns
returns g c = record {
  turned = λ number is.
      let has : pass_of c.args.self.now ≡ Some c.in-Some.pass = search rules in
      let asked : answerer_of c.args.self.now ≡ Some c.in-Some-take.answerer = search rules in
      let next = c.serve_until_shut-pass in
      turned g.B.L.Link g.A.Answerer.answers g.B.HangsUp.leaves g.A.Answerer.connected c.args.lock.now number c.args.self.now _ c.in-Some.pass next.result.0 c.in-Some-take.answerer next.result.1 is has asked refl refl
      next.ensures.ours next.ensures.number next.ensures.taken next.ensures.client;
}
