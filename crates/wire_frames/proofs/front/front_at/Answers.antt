use Rattle.std.proofs.Common.{arith, ◌≡◌, ◌-◌, true, false}
use Rattle.byte_strings.specs.Codecs.{IsBytes}
use Rattle.byte_strings.proofs.Fields.{IsBytes-take, IsBytes-drop}
use Rattle.wire_frames.proofs.Bodies.{act_takes, framed_asked}
use Rattle.wire_frames.proofs.front.front_at.Goals as goal

pub unreachable-requires : goal.unreachable-requires
unreachable-requires c =
    let bytes = c.args.bytes.now in
    let fits : IsBytes bytes = λ i. omega (arith, c.type_inv.bytes i) in
    let read = act_takes _ c.in-Ok.act (IsBytes-take (c.needed-size.result - 4) _ (IsBytes-drop 4 bytes fits)) c.in-Ok.ensures in
    let never : false ≡ true = c.in_default.ensures.some.1 (framed_asked c.in-Ok.act read.1) in
    absurd cc
