use Rattle.std.proofs.Common.{subst, sym}
use Rattle.connection_workers.specs.Workers.{IsFree, IsLetIn}
use Rattle.connection_workers.proofs.serving.serve_together.Goals as goal

pub for_each_mut-requires-clause-accepts : goal.for_each_mut-requires-clause-accepts
for_each_mut-requires-clause-accepts g c = λ κs lives i p less same. (
  subst (λ w. IsLetIn c.args.lock.now i w) (sym same) (c.requires.passes i p.now less),
  subst (λ w. IsFree g.A.Answerer.connected w) (sym same) (c.requires.free i p.now less),
)
