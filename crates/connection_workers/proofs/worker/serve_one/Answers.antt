use Rattle.std.proofs.Common.{refl}
use Rattle.connection_workers.proofs.worker.serve_one.Goals as goal

pub returns-clause-visits : goal.returns-clause-visits
returns-clause-visits g c = (
  record { link = c.args.link; after = c.serve_link-answerer.new.link; left = c.hang_up.result; end = c.serve_link-answerer.result.1 },
  record { serves = c.serve_link-answerer.ensures.serves; complete = c.serve_link-answerer.ensures.complete; hung_up = c.hang_up.ensures.leaves },
  refl,
  refl,
)
