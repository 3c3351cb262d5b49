-- The counter blocks so far were put, and the stream went on by as many blocks.
use Rattle.std.proofs.Common.{◌≡◌, ℕ, ◌+◌, ◌*◌, ◌/◌, ◌%◌, List, ◌++◌, drop}
use Rattle.gcm_mode.specs.Parts.{Streams, counter_blocks}
use Rattle.gcm_mode.proofs.stream.Gctr.put_counters.Given as goal

abbrev pub invariant-each : goal.invariant-each
invariant-each g l = record {
  stream : (cipher : List ℕ → List ℕ) (nonce : List ℕ) (n : ℕ) → Streams g.C.BlockCipher.cipher l.fn.self cipher nonce n → n % 16 ≡ 0
      → Streams g.C.BlockCipher.cipher l.self cipher nonce (n + 16 * l.i);
  blocks : (cipher : List ℕ → List ℕ) (nonce : List ℕ) (n : ℕ) → Streams g.C.BlockCipher.cipher l.fn.self cipher nonce n → n % 16 ≡ 0
      → l.out ≡ counter_blocks nonce (2 + n / 16) l.i ++ drop l.i l.fn.out;
}
