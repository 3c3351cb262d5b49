use Rattle.std.proofs.Common.{ℕ, ap, ◌∙◌}
use Rattle.byteorder.specs.Endian.{big_bytes}
use Rattle.wire_frames.specs.Windows.{window_after}
use Rattle.wire_frames.proofs.Windows.{then}
use Rattle.wire_frames.proofs.writing.replies.put_reply_frame.Goals as goal

pub returns : goal.returns
returns c =
    let size = c.reply_size.ensures.size.exact c.requires in
    then _ _ _ _ _ (c.put_u32.ensures ∙ ap (λ (n : ℕ). window_after c.args.out.now (big_bytes 4 n)) size) c.put_reply.ensures
