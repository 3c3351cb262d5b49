-- One group more was changed, and all were.
use Rattle.std.proofs.Common.{◌≡◌, ℕ, ◌+◌, ◌-◌, length, take, drop, subst, ◌∙◌, arith, length-take, length-drop}
use Rattle.std.proofs.lemmas.List.{take_all, drop_all, append-nil}
use Rattle.gcm_mode.specs.Bytewise.{xor_by}
use Rattle.gcm_mode.specs.Parts.{Streams, key_byte}
use Rattle.gcm_mode.proofs.Blockwise.{part_added, length-put_mid}
use Rattle.gcm_mode.proofs.stream.Gctr.apply_blocks.Goals as goal

pub groups-preserved : goal.groups-preserved
groups-preserved g c =
    record {
      within = omega (arith, c.groups.invariant.within, c.groups.invariant.size);
      whole = omega (arith, c.groups.invariant.whole, c.groups.invariant.size, c.requires);
      size = length-put_mid c.groups.bytes c.apply_group.new.bytes c.groups.done (c.groups.done + c.min-count.result - c.groups.done) (omega arith) (omega arith) ∙ c.groups.invariant.size;
      stream = λ cipher nonce n held due.
          let group = take (c.groups.done + c.min-count.result - c.groups.done) (drop c.groups.done c.groups.bytes) in
          let size : length group ≡ c.min-count.result =
          omega (arith, length-take (c.groups.done + c.min-count.result - c.groups.done) (drop c.groups.done c.groups.bytes), length-drop c.groups.done c.groups.bytes) in
          let place : n + c.groups.done + length group ≡ n + (c.groups.done + c.min-count.result) = omega (arith, size) in
          let P : ℕ → Type 0 = λ k. Streams g.C.BlockCipher.cipher c.apply_group.new.self cipher nonce k in
          subst P place (c.apply_group.ensures.stream cipher nonce (n + c.groups.done) (c.groups.invariant.stream cipher nonce n held due) (omega (arith, c.groups.invariant.whole)));
      bytes = λ cipher nonce n held due.
          let next = c.apply_group.ensures.bytes cipher nonce (n + c.groups.done) (c.groups.invariant.stream cipher nonce n held due) (omega (arith, c.groups.invariant.whole)) in
          part_added (key_byte cipher nonce) n c.args.bytes.now c.groups.bytes c.apply_group.new.bytes c.groups.done (c.groups.done + c.min-count.result - c.groups.done)
          (c.groups.done + c.min-count.result) (c.groups.invariant.bytes cipher nonce n held due) (omega arith) (omega (arith, c.groups.invariant.size)) next;
    }

pub returns-clause-bytes : goal.returns-clause-bytes
returns-clause-bytes g c = λ cipher nonce n held due.
    let all : c.groups.done ≡ length c.args.bytes.now = omega (arith, c.groups.invariant.within, c.groups.invariant.size) in
    c.groups.invariant.bytes cipher nonce n held due
    ∙ rw (take_all c.groups.done c.args.bytes.now (omega (arith, all)), drop_all c.groups.done c.args.bytes.now (omega (arith, all))) (append-nil (xor_by (key_byte cipher nonce) n c.args.bytes.now))

pub returns-clause-stream : goal.returns-clause-stream
returns-clause-stream g c = λ cipher nonce n held due.
    let all : c.groups.done ≡ length c.args.bytes.now = omega (arith, c.groups.invariant.within, c.groups.invariant.size) in
    rw (← all) (c.groups.invariant.stream cipher nonce n held due)
