use Rattle.std.proofs.Common.{◌<◌, ◌≤◌, length, take, ap, ◌∙◌, arith}
use Rattle.std.specs.Option.{option_map}
use Rattle.wire_frames.specs.Apart.{with_input}
use Rattle.wire_frames.specs.PartialFrames.{kept_act}
use Rattle.wire_frames.proofs.Arounds.{apart_short, apart_whole, says_apart}
use Rattle.wire_frames.proofs.held.giving.around_input.Goals as goal

pub returns-then-input-size : goal.returns-then-input-size
returns-then-input-size c =
    let short : length c.args.input.now < c.read_u32-size.result = omega arith in
    apart_short c.args.head.now c.args.input.now c.requires c.read_u32-size.result c.read_u32-size.ensures short

pub returns-in-Ok : goal.returns-in-Ok
returns-in-Ok c =
    let size = c.read_u32-size.result in
    let enough : size ≤ length c.args.input.now = omega arith in
    apart_whole c.args.head.now c.args.input.now c.requires c.read_u64-op.result size c.read_u64-op.ensures c.read_u32-size.ensures enough
    ∙ ap (option_map (with_input (take size c.args.input.now))) c.in-Ok.ensures

pub returns-in-Err : goal.returns-in-Err
returns-in-Err c =
    let size = c.read_u32-size.result in
    let enough : size ≤ length c.args.input.now = omega arith in
    says_apart (with_input (take size c.args.input.now)) (λ kept. kept_act kept c.args.input.now) c.in-Err.fault _ _
    (apart_whole c.args.head.now c.args.input.now c.requires c.read_u64-op.result size c.read_u64-op.ensures c.read_u32-size.ensures enough)
    c.in-Err.ensures
