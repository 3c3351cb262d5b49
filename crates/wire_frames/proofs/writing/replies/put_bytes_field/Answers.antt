use Rattle.std.proofs.Common.{ap, sym, ◌∙◌}
use Rattle.wire_frames.specs.Spelling.{counted}
use Rattle.wire_frames.specs.Windows.{window_after}
use Rattle.wire_frames.proofs.Windows.{after_none, then}
use Rattle.wire_frames.proofs.writing.replies.put_bytes_field.Goals as goal

pub returns-in-None : goal.returns-in-None
returns-in-None c = rw c.in-None.is (sym (after_none c.args.out.now))

pub returns-in-Some : goal.returns-in-Some
returns-in-Some c =
    let behind = c.put_counted.ensures ∙ ap (λ l. window_after c.put_u8.new.out (counted l)) c.as_slice.ensures in
    rw c.in-Some.is (then _ _ _ _ _ c.put_u8.ensures behind)
