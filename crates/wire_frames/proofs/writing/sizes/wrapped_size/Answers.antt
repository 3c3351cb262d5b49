use Rattle.std.proofs.Common.{◌++◌, arith, length, length-append}
use Rattle.wire_frames.specs.Spelling.{counted, key_of}
use Rattle.wire_frames.proofs.Adding.{size_five}
use Rattle.wire_frames.proofs.writing.sizes.wrapped_size.Goals as goal

pub returns-clause-size : goal.returns-clause-size
returns-clause-size c =
    let key = key_of c.args.key.now in
    let params = counted c.args.params.now in
    let wrapping = key_of c.args.wrapping.now in
    let wrapped = counted c.args.wrapped.now in
    let unwrapping = counted c.args.unwrapping.now in
    size_five c.key_size.result c.counted_size.result c.key_size-2.result c.counted_size-2.result c.counted_size-3.result
    (length key) (length params) (length wrapping) (length wrapped) (length unwrapping) _
    c.key_size.ensures.size c.counted_size.ensures.size c.key_size-2.ensures.size c.counted_size-2.ensures.size c.counted_size-3.ensures.size
    (omega (arith, length-append key (params ++ (wrapping ++ (wrapped ++ unwrapping))), length-append params (wrapping ++ (wrapped ++ unwrapping)), length-append wrapping (wrapped ++ unwrapping), length-append wrapped unwrapping))
