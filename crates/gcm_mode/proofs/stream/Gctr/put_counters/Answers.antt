-- One counter block more.
use Rattle.std.proofs.Common.{◌≡◌, ℕ, ◌+◌, ◌*◌, ◌/◌, ◌++◌, ◌∷◌, [], List, length, set, drop, refl, sym, ap, ◌∙◌, arith}
use Rattle.std.proofs.lemmas.List.{drop_all, append-nil}
use Rattle.gcm_mode.specs.Parts.{counter_block, counter_blocks}
use Rattle.gcm_mode.proofs.Blockwise.{length-counter_blocks, counters_next, counter_now, block_passed, put_next}
use Rattle.gcm_mode.proofs.stream.Gctr.put_counters.Goals as goal

pub each-preserved : goal.each-preserved
each-preserved g c = record {
  stream = λ cipher nonce n held due.
      block_passed g.C.BlockCipher.cipher c.each.self _ cipher nonce (n + 16 * c.each.i) (n + 16 * (c.each.i + 1)) (c.each.invariant.stream cipher nonce n held due)
      (omega arith) (omega arith) refl refl refl refl;
  blocks = λ cipher nonce n held due.
      let done : List (List ℕ) = counter_blocks nonce (2 + n / 16) c.each.i in
      let place : 2 + (n + 16 * c.each.i) / 16 ≡ 2 + n / 16 + c.each.i = omega arith in
      let block : c.put_counter.new.out ≡ counter_block nonce (2 + n / 16 + c.each.i) =
      c.put_counter.ensures
      ∙ counter_now g.C.BlockCipher.cipher c.each.self cipher nonce (n + 16 * c.each.i) (c.each.invariant.stream cipher nonce n held due) (omega arith)
      ∙ ap (λ (k : ℕ). counter_block nonce k) place in
      let all : counter_blocks nonce (2 + n / 16) (c.each.i + 1) ≡ done ++ c.put_counter.new.out ∷ [] =
      counters_next nonce (2 + n / 16) c.each.i ∙ ap (λ (b : List ℕ). done ++ b ∷ []) (sym block) in
      ap (λ (l : List (List ℕ)). set l c.each.i c.put_counter.new.out) (c.each.invariant.blocks cipher nonce n held due)
      ∙ put_next done c.args.out.now c.each.i c.put_counter.new.out (length-counter_blocks nonce (2 + n / 16) c.each.i) (omega arith)
      ∙ ap (λ (l : List (List ℕ)). l ++ drop (c.each.i + 1) c.args.out.now) (sym all);
}

pub returns-clause-blocks : goal.returns-clause-blocks
returns-clause-blocks g c = λ cipher nonce n held due.
    let all : c.each.i ≡ length c.args.out.now = omega arith in
    c.each.invariant.blocks cipher nonce n held due
    ∙ rw (drop_all c.each.i c.args.out.now (omega (arith, all)), ← all) (append-nil (counter_blocks nonce (2 + n / 16) c.each.i))

pub returns-clause-stream : goal.returns-clause-stream
returns-clause-stream g c = λ cipher nonce n held due.
    let all : c.each.i ≡ length c.args.out.now = omega arith in
    rw (← all) (c.each.invariant.stream cipher nonce n held due)
