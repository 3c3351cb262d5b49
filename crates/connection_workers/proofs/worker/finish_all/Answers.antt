use Rattle.std.proofs.Common.{List, subst, sym}
use Rattle.connection_workers.specs.Arrivals.{arrived}
use Rattle.connection_workers.specs.declared.intake.Arrival.{Arrival}
use Rattle.connection_workers.specs.Workers.{HasTaken}
use Rattle.connection_workers.proofs.Visiting.{none_taken, taken_more}
use Rattle.connection_workers.proofs.worker.finish_all.Goals as goal

pub connections-init : goal.connections-init
connections-init g c = record {
  taken = none_taken g.B.L.Link g.A.Answerer.answers g.B.HangsUp.leaves c.args.worker (arrived c.args.intake.now) c.args.answerer;
  client = c.requires.client;
  goes_on = λ start is. is;
}

pub connections-preserved : goal.connections-preserved
connections-preserved g c =
    let at = c.connections in
    let one = c.serve_one-left.ensures in
    let more = taken_more g.B.L.Link g.A.Answerer.answers g.B.HangsUp.leaves c.args.worker (arrived c.args.intake.now) (arrived at.intake) (arrived c.take.new.self) c.args.answerer at.answerer c.serve_one-left.result.1
    c.in-Some-take.link c.serve_one-left.result.0 at.invariant.taken c.in-Some-take.ensures.arrives one.visits in
    record {
      taken = subst (λ (l : List (Arrival _)). HasTaken g.B.L.Link g.A.Answerer.answers g.B.HangsUp.leaves c.args.worker (arrived c.args.intake.now) l c.args.answerer c.serve_one-left.result.1) (sym c.give_back.ensures.same) more;
      client = one.client;
      goes_on = λ start is. c.give_back.ensures.goes_on start (c.take.ensures.goes_on start (at.invariant.goes_on start is));
    }
