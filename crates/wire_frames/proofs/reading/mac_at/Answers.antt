-- A mac has 32 bytes.
use Rattle.std.proofs.Common.{sym, arith}
use Rattle.byte_strings.proofs.Fields.{bytes_codec}
use Rattle.wire_frames.proofs.reading.mac_at.Goals as goal

pub copy_from_slice-requires : goal.copy_from_slice-requires
copy_from_slice-requires c =
    let taken = (bytes_codec 32).takes c.args.bytes.now c.in_ok-front.front.now c.in_ok-front.rest.now (λ i. omega (arith, c.type_inv.bytes i)) c.in_ok-front.ensures.exact in
    sym taken.1
