use Rattle.std.proofs.Common.{◌≡◌, ◌++◌, take, drop}
use Rattle.gcm_mode.specs.Bytewise.{xor_by, stream_byte}
use Rattle.whole_outputs.proofs.key_stream.add_keys.Given as goal

abbrev pub invariant-bytes : goal.invariant-bytes
invariant-bytes l = l.bytes ≡ xor_by (stream_byte l.keys) l.from (take l.i l.fn.bytes) ++ drop l.i l.fn.bytes
