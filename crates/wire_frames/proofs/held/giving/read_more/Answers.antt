use Rattle.std.proofs.Common.{rules, ◌≡◌, ◌<◌, false, leb, length, subst}
use Rattle.std.proofs.lemmas.Bool.{leb-false}
use Rattle.wire_frames.specs.Streams.{needed}
use Rattle.wire_frames.specs.PartialFrames.{bytes_in}
use Rattle.wire_frames.specs.Outcomes.{IsRead}
use Rattle.wire_frames.proofs.Filling.{joined, all_taken}
use Rattle.wire_frames.proofs.held.giving.read_more.Goals as goal

pub returns-clause-read : goal.returns-clause-read
returns-clause-read c =
    subst (λ l. IsRead l c.in-Ok.outcome)
    (joined (bytes_in c.args.held.now) c.args.piece.now _ c.in_ok-taken.taken c.in_ok-taken.ensures.taken)
    c.in-Ok.ensures.read

pub returns-then-not-is_whole-clause-waits : goal.returns-then-not-is_whole-clause-waits
returns-then-not-is_whole-clause-waits c =
    let now = bytes_in c.complete.new.self in
    let test : leb (needed now) (length now) ≡ false = search rules in
    let part : length now < needed now = leb-false (needed now) (length now) test in
    (part, all_taken (bytes_in c.args.held.now) c.args.piece.now now c.in_ok-taken.taken c.in_ok-taken.ensures.taken c.in_ok-taken.ensures.all part)
