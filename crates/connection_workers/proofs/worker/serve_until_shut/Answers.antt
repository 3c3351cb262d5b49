use Rattle.std.proofs.Common.{ℕ, List, refl, sym, subst, ◌∙◌}
use Rattle.turn_lock.specs.Passes.{number_of}
use Rattle.connection_workers.specs.Arrivals.{Arrives}
use Rattle.connection_workers.specs.declared.intake.Arrival.{Arrival}
use Rattle.connection_workers.specs.Workers.{HasTaken, own_of}
use Rattle.connection_workers.proofs.Visiting.{none_taken, taken_more}
use Rattle.connection_workers.proofs.worker.serve_until_shut.Goals as goal

pub connections-init : goal.connections-init
connections-init g c = record {
  ours = c.requires.ours;
  number = refl;
  taken = none_taken g.B.L.Link g.A.Answerer.answers g.B.HangsUp.leaves (number_of c.args.pass) (own_of c.args.pass) c.args.answerer;
  client = c.requires.client;
}

pub connections-preserved : goal.connections-preserved
connections-preserved g c =
    let at = c.connections in
    let came = c.take_next-next.ensures in
    let one = c.serve_one-left.ensures in
    let back = c.hand_back-pass.ensures in
    let link = c.in-Some-taken.link in
    let found = rw c.in-Some-taken.is at came.arrives in
    let arrives = subst (λ (n : ℕ). Arrives n link (own_of at.pass) (own_of c.take_next-next.result.0)) at.invariant.number found in
    let more = taken_more g.B.L.Link g.A.Answerer.answers g.B.HangsUp.leaves (number_of c.args.pass) (own_of c.args.pass) (own_of at.pass) (own_of c.take_next-next.result.0) c.args.answerer at.answerer c.serve_one-left.result.1
    link c.serve_one-left.result.0 at.invariant.taken arrives one.visits in
    record {
      ours = back.ours;
      number = back.number ∙ (came.number ∙ at.invariant.number);
      taken = subst (λ (l : List (Arrival _)). HasTaken g.B.L.Link g.A.Answerer.answers g.B.HangsUp.leaves (number_of c.args.pass) (own_of c.args.pass) l c.args.answerer c.serve_one-left.result.1) (sym back.same) more;
      client = one.client;
    }
