-- The bytes so far were changed, and the stream went on with them.
use Rattle.std.proofs.Common.{◌≡◌, ℕ, ◌+◌, List, ◌++◌, take, drop}
use Rattle.gcm_mode.specs.Parts.{Streams, key_byte}
use Rattle.gcm_mode.specs.Bytewise.{xor_by}
use Rattle.gcm_mode.proofs.stream.Gctr.apply_each.Given as goal

abbrev pub invariant-bytes : goal.invariant-bytes
invariant-bytes g l = record {
  stream : (cipher : List ℕ → List ℕ) (nonce : List ℕ) (n : ℕ) → Streams g.C.BlockCipher.cipher l.fn.self cipher nonce n
      → Streams g.C.BlockCipher.cipher l.self cipher nonce (n + l.i);
  bytes : (cipher : List ℕ → List ℕ) (nonce : List ℕ) (n : ℕ) → Streams g.C.BlockCipher.cipher l.fn.self cipher nonce n
      → l.bytes ≡ xor_by (key_byte cipher nonce) n (take l.i l.fn.bytes) ++ drop l.i l.fn.bytes;
}
