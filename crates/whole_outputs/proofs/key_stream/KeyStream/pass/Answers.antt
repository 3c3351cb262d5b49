-- The keys of the piece's place in the text were added, and the next byte has its counter block.
use Rattle.std.proofs.Common.{◌≡◌, ℕ, ◌+◌, ◌/◌, ◌%◌, List, length, map, drop, get_or, ap, ◌∙◌, arith}
use Rattle.std.proofs.lemmas.List.{take_at}
use Rattle.aes_core.specs.Cipher.{cipher}
use Rattle.gcm_mode.specs.Bytewise.{xor_by, stream_byte}
use Rattle.whole_outputs.specs.Streams.{next_of, counters, raised}
use Rattle.whole_outputs.proofs.KeyBytes.{keys_added, counter_at, raised_more}
use Rattle.whole_outputs.proofs.key_stream.KeyStream.pass.Goals as goal

pub returns-clause-made : goal.returns-clause-made
returns-clause-made c = λ key counting first n held.
    let s = c.args.self.now in
    let from : ℕ = s.used % 16 in
    let m : ℕ = (from + length c.args.bytes.now) / 16 + 1 in
    let from_is : from ≡ n % 16 = omega (arith, held.used_is) in
    let keys : c.encrypted-keys.result.items ≡ map (cipher key) (counters (next_of counting) m s.counter) =
    c.encrypted-keys.ensures.keys
    ∙ ap (λ (k : List ℕ). map (cipher k) c.in_ok-blocks.blocks.items) held.key_is
    ∙ ap (λ (l : List (List ℕ)). map (cipher key) l) c.in_ok-blocks.ensures.blocks
    ∙ ap (λ k. map (cipher key) (counters (next_of k) m s.counter)) held.counting_is in
    let whole : length c.add_keys.new.bytes ≡ c.in_ok-out.out.len = omega arith in
    take_at c.add_keys.new.bytes (drop (length c.add_keys.new.bytes) c.in_ok-out.out.items) c.in_ok-out.out.len whole
    ∙ keys_added key first s.counter counting n m from c.deref.result.now c.args.bytes.now _ held.counter_is from_is (omega arith) (c.deref.ensures.value ∙ keys)
    (c.add_keys.ensures ∙ ap (λ (l : List ℕ). xor_by (stream_byte c.deref.result.now) from l) (c.deref_mut.ensures.value ∙ c.in_ok-out.ensures.items))

pub returns-clause-stream : goal.returns-clause-stream
returns-clause-stream c = λ key counting first n held.
    let s = c.args.self.now in
    let from : ℕ = s.used % 16 in
    let at : ℕ = (from + length c.args.bytes.now) / 16 in
    let place : n / 16 + at ≡ (n + length c.args.bytes.now) / 16 = omega (arith, held.used_is) in
    record {
      key_is = held.key_is;
      counting_is = held.counting_is;
      counter_is =
          c.index.ensures
          ∙ ap (λ (l : List (List ℕ)). get_or l at c.index.result.now) c.in_ok-blocks.ensures.blocks
          ∙ ap (λ k. get_or (counters (next_of k) (at + 1) s.counter) at c.index.result.now) held.counting_is
          ∙ counter_at (next_of counting) (at + 1) at s.counter c.index.result.now (omega arith)
          ∙ ap (raised (next_of counting) at) held.counter_is
          ∙ raised_more (next_of counting) (n / 16) at first
          ∙ ap (λ (k : ℕ). raised (next_of counting) k first) place;
      used_is = omega (arith, held.used_is);
    }
