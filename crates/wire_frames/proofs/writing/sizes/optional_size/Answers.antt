use Rattle.std.proofs.Common.{arith, length}
use Rattle.wire_frames.specs.Spelling.{counted}
use Rattle.wire_frames.proofs.Adding.{size_one}
use Rattle.wire_frames.proofs.writing.sizes.optional_size.Goals as goal

pub returns-in-Some-clause-size : goal.returns-in-Some-clause-size
returns-in-Some-clause-size c = rw c.in-Some.is (size_one 1 c.counted_size.result (length (counted c.in-Some.given)) _ c.counted_size.ensures.size (omega arith))
