use Rattle.std.proofs.Common.{ap, ◌∙◌}
use Rattle.wire_frames.specs.Windows.{window_after}
use Rattle.wire_frames.proofs.Windows.{then}
use Rattle.wire_frames.proofs.writing.replies.put_rule.Goals as goal

pub returns : goal.returns
returns c =
    let letter = c.as_bytes.ensures.value ∙ c.letter.ensures in
    then _ _ _ _ _ (c.put.ensures ∙ ap (λ l. window_after c.args.out.now l) letter) c.put_u8.ensures
