use Rattle.std.proofs.Common.{◌≡◌, ◌++◌, ◌+◌, ℕ, List, length, take, drop, sym, subst, ◌∙◌}
use Rattle.wire_frames.specs.Replies.{reply_of}
use Rattle.wire_frames.specs.declared.window.TheConstants.{WINDOW_BYTES}
use Rattle.wire_frames.proofs.Windows.{front_on, shown_within}
use Rattle.wire_frames.proofs.writing.reply_frame.Goals as goal

pub windows-preserved : goal.windows-preserved
windows-preserved c =
    let at = c.windows in
    let frame : List ℕ = reply_of c.args.reply.now in
    let piece : List ℕ = c.bytes-piece.result.now in
    let shows : piece ≡ take WINDOW_BYTES (drop at.place frame) = c.bytes-piece.ensures ∙ c.show.ensures in
    let grown = c.in_ok-extend_from_slice.ensures.items in
    record {
      whole = subst (λ (l : List ℕ). frame ≡ l ++ drop (at.place + length piece) frame) (sym grown) (front_on frame at.out.items piece at.place WINDOW_BYTES at.invariant.whole shows);
      within = shown_within frame piece at.place WINDOW_BYTES shows at.invariant.within;
    }
