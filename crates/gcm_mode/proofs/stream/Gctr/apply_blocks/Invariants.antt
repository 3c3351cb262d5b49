-- The groups so far were changed, and the stream went on with them.
use Rattle.std.proofs.Common.{◌≡◌, ℕ, ◌+◌, ◌-◌, ◌%◌, ◌≤◌, List, ◌++◌, length, take, drop}
use Rattle.gcm_mode.specs.Bytewise.{xor_by}
use Rattle.gcm_mode.specs.Parts.{Streams, key_byte}
use Rattle.gcm_mode.proofs.stream.Gctr.apply_blocks.Given as goal

abbrev pub invariant-groups : goal.invariant-groups
invariant-groups g l = record {
  within : l.done ≤ length l.fn.bytes;
  whole : l.done % 16 ≡ 0;
  size : length l.bytes ≡ length l.fn.bytes;
  stream : (cipher : List ℕ → List ℕ) (nonce : List ℕ) (n : ℕ) → Streams g.C.BlockCipher.cipher l.fn.self cipher nonce n → n % 16 ≡ 0
      → Streams g.C.BlockCipher.cipher l.self cipher nonce (n + l.done);
  bytes : (cipher : List ℕ → List ℕ) (nonce : List ℕ) (n : ℕ) → Streams g.C.BlockCipher.cipher l.fn.self cipher nonce n → n % 16 ≡ 0
      → l.bytes ≡ xor_by (key_byte cipher nonce) n (take l.done l.fn.bytes) ++ drop l.done l.fn.bytes;
}

abbrev pub decreases-groups : goal.decreases-groups
decreases-groups g l = length l.bytes - l.done
