use Rattle.connections.proofs.Completing.{complete_so}
use Rattle.connections.proofs.connection.serve_link.Goals as goal

pub returns-clause-complete : goal.returns-clause-complete
returns-clause-complete g c = λ acts each known below same.
    complete_so g.L.Link g.A.Answerer.answers (record { begins = c.whole_frames.ensures.begins; sound = c.whole_frames.ensures.sound; whole = c.whole_frames.ensures.whole })
    c.args.link.now c.serve_requests-answerer.new.link c.args.answerer acts each known below same c.serve_requests-answerer.result.0 c.serve_requests-answerer.new.progress.joined c.serve_requests-answerer.result.1 c.serve_requests-answerer.ensures.talked
