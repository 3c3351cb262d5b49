use Rattle.connection_workers.proofs.Rounds.{finished_of}
use Rattle.connection_workers.proofs.serving.finish.Goals as goal

pub returns-clause-finished : goal.returns-clause-finished
returns-clause-finished g c =
    finished_of g.B.L.Link g.A.Answerer.answers g.B.HangsUp.leaves g.A.Answerer.connected _ _ c.args.workers.now c.index-workers-0.result c.finish.new.self c.requires.some c.requires.free c.finish.ensures.gone
