use Rattle.std.proofs.Common.{ℕ, ◌+◌, ap, sym, ◌∙◌}
use Rattle.wire_frames.specs.Streams.{is_length}
use Rattle.wire_frames.proofs.Fronts.{needed_whole, fits_length}
use Rattle.wire_frames.proofs.front.needed.Goals as goal

pub returns-then-size-le-FRAME_BYTES : goal.returns-then-size-le-FRAME_BYTES
returns-then-size-le-FRAME_BYTES c =
    let fit = ap is_length (sym c.read_u32-size.ensures) ∙ fits_length _ c.if-size-ge1.true c.if-size-le-FRAME_BYTES.true in
    ap (λ (n : ℕ). 4 + n) c.read_u32-size.ensures ∙ sym (needed_whole c.args.bytes.now c.if-bytes-lt4.false fit)
