-- One more byte has its key.
use Rattle.std.proofs.Common.{ℕ, ◌+◌, List, set, get_or, ap, ◌∙◌, arith}
use Rattle.std.specs.Int.RustNames.{bit_xor}
use Rattle.gcm_mode.specs.Bytewise.{stream_byte}
use Rattle.gcm_mode.proofs.KeyStream.{xor_by_more}
use Rattle.whole_outputs.proofs.key_stream.add_keys.Goals as goal

pub bytes-preserved : goal.bytes-preserved
bytes-preserved c =
    ap (λ (l : List ℕ). set l c.bytes.i (bit_xor (get_or l c.bytes.i 0) (stream_byte c.args.keys.now (c.args.from + c.bytes.i)))) c.bytes.invariant
    ∙ xor_by_more (stream_byte c.args.keys.now) c.args.from c.args.bytes.now c.bytes.i (omega arith)
