-- Each mode goes on, and puts out what it makes.
use Rattle.std.proofs.Common.{◌≡◌, ℕ, ◌%◌, true, false, List, ◌++◌, length, sym, ap, ◌∙◌, subst, length-append}
use Rattle.tags.specs.declared.plan.Plan.TheVariants.{Gcm}
use Rattle.cipher_ops.specs.Output.{raw}
use Rattle.whole_outputs.specs.Chains.{Chains}
use Rattle.whole_outputs.specs.Streams.{Streams}
use Rattle.whole_outputs.specs.declared.key_stream.Counting.TheVariants.{Whole}
use Rattle.whole_outputs.proofs.ModeLemmas.{in_ok, in_both, blocks_made, blocks_passed, counted_made, gcm_made, sign_made, verify_made}
use Rattle.whole_outputs.proofs.mode.Mode.pass.Goals as goal

pub returns-in-Blocks-clause-made : goal.returns-in-Blocks-clause-made
returns-in-Blocks-clause-made c = λ plan key nonce aad done held.
    let h = rw c.in-Blocks.is at held in
    in_ok c.pass.result _ _ (λ out is. blocks_made c.in-Blocks.chained plan key nonce done c.args.part.now out.items h is) c.pass.ensures.made

pub returns-in-Blocks-clause-mode : goal.returns-in-Blocks-clause-mode
returns-in-Blocks-clause-mode c = λ plan key nonce aad done held.
    let h = rw c.in-Blocks.is at held in
    let whole : length c.args.part.now % 16 ≡ 0 = rw c.in-Blocks.is at c.requires in
    in_both c.pass.result _ _ (Chains c.pass.new.self plan key nonce (done ++ c.args.part.now)) (Chains c.pass.new.self plan key nonce done)
    (λ is. blocks_passed c.in-Blocks.chained c.pass.new.self plan key nonce done c.args.part.now h whole is)
    (λ is. subst (λ s. Chains s plan key nonce done) (sym is) h) c.pass.ensures.state

pub returns-in-Counter-clause-made : goal.returns-in-Counter-clause-made
returns-in-Counter-clause-made c = λ plan key nonce aad done held.
    let h = rw c.in-Counter.is at held in
    in_ok c.pass-in-Counter.result _ _ (λ out is. counted_made plan key nonce done c.args.part.now out.items h.0 is) (c.pass-in-Counter.ensures.made key Whole nonce (length done) h.1)

pub returns-in-Counter-clause-mode : goal.returns-in-Counter-clause-mode
returns-in-Counter-clause-mode c = λ plan key nonce aad done held.
    let h = rw c.in-Counter.is at held in
    in_both c.pass-in-Counter.result _ _ _ _ (λ s. (h.0, subst (λ (n : ℕ). Streams c.pass-in-Counter.new.self key Whole nonce n) (sym (length-append done c.args.part.now)) s)) (λ s. (h.0, s))
    (c.pass-in-Counter.ensures.stream key Whole nonce (length done) h.1)

pub returns-in-Seal-clause-made : goal.returns-in-Seal-clause-made
returns-in-Seal-clause-made c = λ plan key nonce aad done held.
    let h = rw c.in-Seal.is at held in
    in_ok c.seal.result _ _ (λ out is. gcm_made plan true c.in-Seal.gcm.tag key nonce done c.args.part.now out.items h.0 is) (c.seal.ensures.made key nonce aad done h.1)

pub returns-in-Open-clause-made : goal.returns-in-Open-clause-made
returns-in-Open-clause-made c = λ plan key nonce aad done held.
    let h = rw c.in-Open.is at held in
    in_ok c.open.result _ _ (λ out is. gcm_made plan false c.in-Open.gcm.tag key nonce done c.args.part.now out.items h.0 is) (c.open.ensures.made key nonce aad done h.1)

pub returns-in-Open-clause-mode : goal.returns-in-Open-clause-mode
returns-in-Open-clause-mode c = λ plan key nonce aad done held.
    let h = rw c.in-Open.is at held in
    let same = h.0 ∙ ap (λ (n : ℕ). Gcm false n) (sym c.open.ensures.tag) in
    in_both c.open.result _ _ _ _ (λ s. (same, s)) (λ s. (same, s)) (c.open.ensures.gcm key nonce aad done h.1)

pub returns-in-Sign-clause-made : goal.returns-in-Sign-clause-made
returns-in-Sign-clause-made c = λ plan key nonce aad done held.
    let h = rw c.in-Sign.is at held in
    ap (λ (l : List ℕ). raw plan key nonce done ++ l) c.new.ensures.items ∙ sign_made plan h.digest c.in-Sign.size key nonce done c.args.part.now h.plan_is

pub returns-in-Verify-clause-made : goal.returns-in-Verify-clause-made
returns-in-Verify-clause-made c = λ plan key nonce aad done held.
    let h = rw c.in-Verify.is at held in
    ap (λ (l : List ℕ). raw plan key nonce done ++ l) c.new-in-Verify.ensures.items ∙ verify_made plan h.digest c.in-Verify.least key nonce done c.args.part.now h.plan_is
