use Rattle.std.proofs.Common.{rules, refl}
use Rattle.std.proofs.lemmas.List.{nil_from_length}
use Rattle.wire_frames.proofs.Giving.{shut_again, shut_now, given_more}
use Rattle.wire_frames.proofs.frames.Frames.feed.Goals as goal

pub returns-then-self-clause-fault : goal.returns-then-self-clause-fault
returns-then-self-clause-fault c stream given stands = shut_again stream given c.args.piece.now c.args.self.now (search rules) stands

pub returns-then-is_empty-clause-fault : goal.returns-then-is_empty-clause-fault
returns-then-is_empty-clause-fault c stream given stands =
    shut_now stream given c.args.piece.now c.args.self.now _ c.in-Some.outcome (search rules) stands (search rules) (nil_from_length c.in-Some.outcome.requests.items (search rules)) (search rules) refl (search rules)

pub returns-clause-given : goal.returns-clause-given
returns-clause-given c stream given stands =
    given_more stream given c.args.piece.now c.args.self.now _ c.in-Some.outcome (search rules) stands (search rules) refl refl refl
