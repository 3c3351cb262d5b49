use Rattle.std.proofs.Common.{List, ◌∙◌, sym, subst, arith}
use Rattle.std.proofs.lemmas.List.{take_at}
use Rattle.connection_workers.specs.declared.worker.Worker.{Worker}
use Rattle.connection_workers.specs.Workers.{AllFree, AreServed}
use Rattle.keystore_server.proofs.listening.serve_by.Goals as goal

pub serve_all-requires-clause-free : goal.serve_all-requires-clause-free
serve_all-requires-clause-free g c κs within =
    subst (λ (ws : List (Worker g.row.B.Denot g.row.B-L.Denot g.row.A.Denot)). AllFree g.A.Answerer.connected ws) (sym c.as_mut_slice.ensures.value) c.requires.free

pub returns-clause-served : goal.returns-clause-served
returns-clause-served g c =
    let served = subst (λ (ws : List (Worker g.row.B.Denot g.row.B-L.Denot g.row.A.Denot)). AreServed g.B.Listener g.B.L.Link g.A.Answerer.answers g.B.HangsUp.leaves g.A.Answerer.connected c.args.connections c.args.listener c.serve_all.result.0 c.serve_all.result.1 ws c.serve_all.new.workers) c.as_mut_slice.ensures.value c.serve_all.ensures.served in
    subst (λ (ws : List (Worker g.row.B.Denot g.row.B-L.Denot g.row.A.Denot)). AreServed g.B.Listener g.B.L.Link g.A.Answerer.answers g.B.HangsUp.leaves g.A.Answerer.connected c.args.connections c.args.listener c.serve_all.result.0 c.serve_all.result.1 c.args.workers.now.items ws)
    (sym (take_at c.serve_all.new.workers _ c.args.workers.now.len (omega (arith, c.serve_all.auto.workers, c.as_mut_slice.ensures.len)))) served

pub returns-clause-unserved : goal.returns-clause-unserved
returns-clause-unserved g c = λ wanting.
    take_at c.serve_all.new.workers _ c.args.workers.now.len (omega (arith, c.serve_all.auto.workers, c.as_mut_slice.ensures.len)) ∙ (c.serve_all.ensures.unserved wanting ∙ c.as_mut_slice.ensures.value)
