-- The blocks so far were added.
use Rattle.std.proofs.Common.{◌≡◌, ◌*◌, ◌++◌, length, take, drop}
use Rattle.gcm_mode.specs.Bytewise.{xor_by, stream_byte}
use Rattle.gcm_mode.proofs.bytes.add_blocks.Given as goal

abbrev pub invariant-each : goal.invariant-each
invariant-each l = record {
  bytes : l.bytes ≡ xor_by (stream_byte l.keys) 0 (take (16 * l.i) l.fn.bytes) ++ drop (16 * l.i) l.fn.bytes;
  size : length l.bytes ≡ length l.fn.bytes;
}
