-- Each mode ends.
use Rattle.std.proofs.Common.{◌≡◌, ℕ, List, Ok, ◌++◌, length, ap, ◌∙◌}
use Rattle.tags.specs.declared.plan.Plan.TheVariants.{Ctr}
use Rattle.whole_outputs.specs.Streams.{Streams}
use Rattle.whole_outputs.specs.declared.key_stream.Counting.TheVariants.{Whole}
use Rattle.whole_outputs.proofs.ModeLemmas.{in_ok, blocks_ended, counted_ended, sealed_ended, opened_ended, opened_may, sign_ended, verify_ended}
use Rattle.whole_outputs.proofs.mode.Mode.end.Goals as goal

pub returns-in-Blocks : goal.returns-in-Blocks
returns-in-Blocks c = λ plan key nonce aad done held may.
    let h = rw c.in-Blocks.is at held in
    in_ok c.end.result _ _ (λ output is. blocks_ended c.in-Blocks.chained plan key nonce aad done c.args.rest.now c.args.signature.now output h may is) c.end.ensures

pub returns-in_ok-pass-in-Counter : goal.returns-in_ok-pass-in-Counter
returns-in_ok-pass-in-Counter c = λ plan key nonce aad done held may.
    let h : (plan ≡ Ctr) × Streams c.in-Counter.stream key Whole nonce (length done) = rw c.in-Counter.is at held in
    ap (λ (l : List ℕ). Ok l) c.of.ensures
    ∙ counted_ended plan key nonce aad done c.args.rest.now c.in_ok-pass-in-Counter.field-0.items c.args.signature.now h.0 (c.in_ok-pass-in-Counter.ensures.made key Whole nonce (length done) h.1)

pub returns-in_ok-end_sealed-in-Seal : goal.returns-in_ok-end_sealed-in-Seal
returns-in_ok-end_sealed-in-Seal c = λ plan key nonce aad done held may.
    let h = rw c.in-Seal.is at held in
    sealed_ended plan c.in-Seal.gcm.tag key nonce aad done c.args.rest.now c.in_ok-end_sealed-in-Seal.field-0 c.args.signature.now h.0 (c.in_ok-end_sealed-in-Seal.ensures key nonce aad done h.1)

pub returns-in-Open : goal.returns-in-Open
returns-in-Open c = λ plan key nonce aad done held may.
    let h = rw c.in-Open.is at held in
    in_ok c.end_opened.result _ _ (λ output is. opened_ended plan c.in-Open.gcm.tag key nonce aad done c.args.rest.now c.args.signature.now output h.0 is)
    (c.end_opened.ensures key nonce aad done h.1 (opened_may plan c.in-Open.gcm.tag (length done) (length c.args.rest.now) h.0 may))

pub returns-in_ok-signed-in-Sign : goal.returns-in_ok-signed-in-Sign
returns-in_ok-signed-in-Sign c = λ plan key nonce aad done held may.
    let h = rw c.in-Sign.is at held in
    sign_ended plan h.digest c.in-Sign.size key nonce aad done c.args.rest.now c.in_ok-signed-in-Sign.field-0 c.args.signature.now h.plan_is
    (c.in_ok-signed-in-Sign.ensures h.digest key (done ++ c.args.rest.now) (c.update.ensures h.digest key done h.holds))

pub returns-in-Verify : goal.returns-in-Verify
returns-in-Verify c = λ plan key nonce aad done held may.
    let h = rw c.in-Verify.is at held in
    verify_ended plan h.digest c.in-Verify.least key nonce aad done c.args.rest.now c.args.signature.now c.verified.result h.plan_is
    (c.verified.ensures h.digest key (done ++ c.args.rest.now) (c.update-in-Verify.ensures h.digest key done h.holds))
