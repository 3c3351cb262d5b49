use Rattle.std.proofs.Common.{length, ap, arith}
use Rattle.wire_frames.proofs.held.PartialFrame.truncate.Goals as goal

pub invariant_of-self : goal.invariant_of-self
invariant_of-self c = record { apart = λ some. absurd (omega (arith, some, ap length c.truncate.ensures.items)) }
