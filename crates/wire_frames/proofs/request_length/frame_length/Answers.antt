use Rattle.std.proofs.Common.{rules}
use Rattle.wire_frames.proofs.request_length.frame_length.Goals as goal

pub returns-then-size-eq0-clause-length : goal.returns-then-size-eq0-clause-length
returns-then-size-eq0-clause-length c = search rules
