use Rattle.std.proofs.Common.{◌≡◌, length}
use Rattle.std.specs.Vec.Iter.{into_iter_items, into_iter_len}
use Rattle.connections.specs.Steps.{Goes}
use Rattle.connections.proofs.answering.answer_all.Given as goal

abbrev pub invariant-requests : goal.invariant-requests
invariant-requests g l = record {
  goes : Goes g.L.Link g.A.Answerer.answers l.fn.link l.link l.fn.answerer l.answerer l.fn.progress l.progress l.fn.requests.items (into_iter_items l.left);
  client : g.A.Answerer.connected l.answerer ≡ l.progress.joined;
  count : into_iter_len l.left ≡ length (into_iter_items l.left);
}

abbrev pub decreases-requests : goal.decreases-requests
decreases-requests g l = into_iter_len l.left
