use Rattle.wire_frames.specs.Standing.{is_shut, start_of}
use Rattle.connections.specs.Talks.{asked}
use Rattle.connections.proofs.Talking.{each_back}
use Rattle.connections.proofs.Piecing.{is_told, is_untold, place_fits, piece_bad_at_once, piece_memory, piece_stops, piece_served, piece_bad}
use Rattle.connections.proofs.connection.serve_piece.Goals as goal

pub returns-in-Err-Bad-clause-err : goal.returns-in-Err-Bad-clause-err
returns-in-Err-Bad-clause-err g c =
    let fault = rw c.in-Err-Bad.field-0-is at c.in-Err-Bad.ensures.fault in
    rw c.in-Err-Bad.offset-is (λ stream talk follows.
    piece_bad_at_once g.L.Link g.A.Answerer.answers stream c.args.piece.now talk c.args.frames.now c.args.progress.now follows c.args.link.now c.args.answerer c.feed.new.self c.in-Err-Bad.offset fault)

pub returns-in-Err-Memory-clause-err : goal.returns-in-Err-Memory-clause-err
returns-in-Err-Memory-clause-err g c = λ stream talk follows.
    piece_memory g.L.Link g.A.Answerer.answers stream c.args.piece.now talk c.args.frames.now c.args.progress.now follows c.args.link.now c.args.answerer

pub answer_all-answerer-requires-clause-framed : goal.answer_all-answerer-requires-clause-framed
answer_all-answerer-requires-clause-framed g c =
    let known = c.requires.follows in
    each_back (asked known.1) c.in-Ok.requests.items (c.in-Ok.ensures.given known.0 (asked known.1) known.3.stands).each

pub answer_all-answerer-requires-clause-place : goal.answer_all-answerer-requires-clause-place
answer_all-answerer-requires-clause-place g c =
    let known = c.requires.follows in
    place_fits g.L.Link g.A.Answerer.answers known.0 c.args.piece.now known.1 c.args.frames.now c.args.progress.now known.3 c.feed.new.self c.in-Ok.requests.items
    (c.in-Ok.ensures.given known.0 (asked known.1) known.3.stands) known.2

pub returns-in-Err-clause-err : goal.returns-in-Err-clause-err
returns-in-Err-clause-err g c = λ stream talk follows.
    piece_stops g.L.Link g.A.Answerer.answers stream c.args.piece.now talk c.args.frames.now c.args.progress.now follows c.args.link.now c.answer_all-answerer.new.link c.args.answerer
    c.answer_all-answerer.result.0 c.feed.new.self c.in-Ok.requests.items (c.in-Ok.ensures.given stream (asked talk) follows.stands) c.answer_all-answerer.new.progress c.in-Err.end
    (rw c.in-Err.is at c.answer_all-answerer.ensures.err)

pub returns-in-Some-clause-err : goal.returns-in-Some-clause-err
returns-in-Some-clause-err g c =
    let told = is_told (is_shut c.feed.new.self) (start_of c.feed.new.self) c.in-Some.offset c.in-Some.ensures in
    rw (← told.1) (λ stream talk follows.
    piece_bad g.L.Link g.A.Answerer.answers stream c.args.piece.now talk c.args.frames.now c.args.progress.now follows c.args.link.now c.answer_all-answerer.new.link c.args.answerer
    c.answer_all-answerer.result.0 c.feed.new.self c.in-Ok.requests.items (c.in-Ok.ensures.given stream (asked talk) follows.stands) c.answer_all-answerer.new.progress
    (rw c.in_default.is at c.answer_all-answerer.ensures.ok) told.0)

pub returns-in-None-clause-ok : goal.returns-in-None-clause-ok
returns-in-None-clause-ok g c =
    let good = is_untold (is_shut c.feed.new.self) (start_of c.feed.new.self) c.in-None.ensures in
    λ stream talk follows.
    piece_served g.L.Link g.A.Answerer.answers stream c.args.piece.now talk c.args.frames.now c.args.progress.now follows c.args.link.now c.answer_all-answerer.new.link c.args.answerer
    c.answer_all-answerer.result.0 c.feed.new.self c.in-Ok.requests.items (c.in-Ok.ensures.given stream (asked talk) follows.stands) c.answer_all-answerer.new.progress
    (rw c.in_default.is at c.answer_all-answerer.ensures.ok) good
