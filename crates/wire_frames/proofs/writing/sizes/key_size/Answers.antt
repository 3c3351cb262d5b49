use Rattle.std.proofs.Common.{arith, length, length-append}
use Rattle.wire_frames.specs.Spelling.{optional}
use Rattle.wire_frames.proofs.Adding.{size_two}
use Rattle.wire_frames.proofs.writing.sizes.key_size.Goals as goal

pub returns-clause-size : goal.returns-clause-size
returns-clause-size c =
    let key = c.args.key.now in
    size_two 12 c.optional_size.result c.optional_size-2.result (length (optional key.alias)) (length (optional key.blob)) _ c.optional_size.ensures.size c.optional_size-2.ensures.size (omega (arith, length-append (optional key.alias) (optional key.blob)))
