-- The byte and the step, from the block that is ready.
use Rattle.std.proofs.Common.{refl}
use Rattle.gcm_mode.proofs.Streaming.{byte_is, stream_next}
use Rattle.gcm_mode.proofs.stream.Gctr.next_byte.Goals as goal

pub returns-clause-byte : goal.returns-clause-byte
returns-clause-byte g c = λ cipher nonce n held.
    byte_is g.C.BlockCipher.cipher c.make_ready.new.self cipher nonce n (c.make_ready.ensures cipher nonce n held)

pub returns-clause-stream : goal.returns-clause-stream
returns-clause-stream g c = λ cipher nonce n held.
    stream_next g.C.BlockCipher.cipher c.make_ready.new.self _ cipher nonce n (c.make_ready.ensures cipher nonce n held) refl refl refl refl refl
