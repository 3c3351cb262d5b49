use Rattle.std.proofs.Common.{◌-◌, take, ap, ◌∙◌}
use Rattle.std.proofs.lemmas.List.{take_rest}
use Rattle.wire_frames.specs.declared.window.TheConstants.{WINDOW_BYTES}
use Rattle.wire_frames.specs.Windows.{Window, window_after}
use Rattle.wire_frames.proofs.Windows.{put_is}
use Rattle.wire_frames.proofs.window.FrameWindow.put.Goals as goal

pub returns : goal.returns
returns c =
    let own = c.self.inside in
    let old : Window = record { skip = own.skip; room = WINDOW_BYTES - own.filled; bytes = take own.filled own.bytes } in
    let fill = c.fill.ensures in
    put_is old c.fill.new.self c.args.piece.now _ c.min-passing.result c.min-passing.ensures (take_rest c.args.piece.now c.min-passing.result) fill.skip fill.room fill.bytes
    ∙ ap (λ (w : Window). window_after w c.args.piece.now) c.self.view_is
