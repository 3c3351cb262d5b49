use Rattle.wire_frames.proofs.Windows.{shows_is}
use Rattle.wire_frames.proofs.window.FrameWindow.show.Goals as goal

pub returns : goal.returns
returns c = shows_is c.start.new.self _ _ c.args.place _ c.put_reply_frame.ensures c.start.ensures.skip c.start.ensures.room c.start.ensures.bytes
