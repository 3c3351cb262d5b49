use Rattle.std.proofs.Common.{◌≡◌, ℕ, List, take, drop, Result, Ok, Err, ◌∙◌, arith}
use Rattle.std.specs.Prelude.{OnErr}
use Rattle.wire_frames.specs.Replies.{reply_of}
use Rattle.wire_frames.specs.declared.window.TheConstants.{WINDOW_BYTES}
use Rattle.wire_frames.proofs.Windows.{shown_within}
use Rattle.connections.proofs.Written.{none_written, window_cut, window_written}
use Rattle.connections.proofs.writing.write_reply.Goals as goal

-- what holds whatever the answer is holds on an error
on_error : {A E : Type 0} {P : Type 0} (r : Result A E) → P → OnErr r P
on_error (Ok x) p = tt
on_error (Err x) p = p

pub windows-init : goal.windows-init
windows-init g c = record { written = none_written g.L.Link c.args.link.now (reply_of c.args.reply.now); within = omega arith }

pub windows-preserved : goal.windows-preserved
windows-preserved g c =
    let at = c.windows in
    let frame : List ℕ = reply_of c.args.reply.now in
    let piece : List ℕ = c.bytes-piece.result.now in
    let shows : piece ≡ take WINDOW_BYTES (drop at.place frame) = c.bytes-piece.ensures ∙ c.show.ensures in
    record {
      written = window_written g.L.Link frame piece at.place WINDOW_BYTES shows c.args.link.now at.link c.write_all.new.link at.invariant.written c.in_ok-write_all.ensures.ok;
      within = shown_within frame piece at.place WINDOW_BYTES shows at.invariant.within;
    }

pub returns-in_err-write_all-clause-err : goal.returns-in_err-write_all-clause-err
returns-in_err-write_all-clause-err g c =
    let at = c.windows in
    let frame : List ℕ = reply_of c.args.reply.now in
    let piece : List ℕ = c.bytes-piece.result.now in
    let shows : piece ≡ take WINDOW_BYTES (drop at.place frame) = c.bytes-piece.ensures ∙ c.show.ensures in
    let lost = c.in_err-write_all.ensures.err in
    on_error c.from_residual.result (window_cut g.L.Link frame piece at.place WINDOW_BYTES shows c.args.link.now at.link c.write_all.new.link lost.0 lost.1 at.invariant.written lost.2 lost.3 lost.4)
