-- One more byte was changed, and all were.
use Rattle.std.proofs.Common.{◌≡◌, ◌+◌, length, ◌∙◌, arith, add_assoc}
use Rattle.std.proofs.lemmas.List.{take_all, drop_all, append-nil}
use Rattle.gcm_mode.specs.Bytewise.{xor_by}
use Rattle.gcm_mode.specs.Parts.{key_byte}
use Rattle.gcm_mode.proofs.KeyStream.{xor_by_more}
use Rattle.gcm_mode.proofs.stream.Gctr.apply_each.Goals as goal

pub bytes-preserved : goal.bytes-preserved
bytes-preserved g c = record {
  stream = λ cipher nonce n held.
      let next = c.next_byte-key.ensures.stream cipher nonce (n + c.bytes.i) (c.bytes.invariant.stream cipher nonce n held) in
      rw (add_assoc n c.bytes.i 1) at next;
  bytes = λ cipher nonce n held.
      let key = c.next_byte-key.ensures.byte cipher nonce (n + c.bytes.i) (c.bytes.invariant.stream cipher nonce n held) in
      let so_far = c.bytes.invariant.bytes cipher nonce n held in
      rw (key, so_far) (xor_by_more (key_byte cipher nonce) n c.args.bytes.now c.bytes.i (omega arith));
}

pub returns-clause-bytes : goal.returns-clause-bytes
returns-clause-bytes g c = λ cipher nonce n held.
    c.bytes.invariant.bytes cipher nonce n held
    ∙ rw (take_all c.bytes.i c.args.bytes.now (omega arith), drop_all c.bytes.i c.args.bytes.now (omega arith)) (append-nil (xor_by (key_byte cipher nonce) n c.args.bytes.now))

pub returns-clause-stream : goal.returns-clause-stream
returns-clause-stream g c = λ cipher nonce n held.
    let done : c.bytes.i ≡ length c.args.bytes.now = omega arith in
    rw (← done) (c.bytes.invariant.stream cipher nonce n held)
