use Rattle.std.proofs.Common.{map, ap, ◌∙◌}
use Rattle.std.specs.Simd.Lanes.{zip2}
use Rattle.block_modes.specs.Texts.{xor_bytes}
use Rattle.block_modes.specs.Steps.{before_each}
use Rattle.block_modes.proofs.LaneLemmas.{ecb_seal, ecb_open, ecb_chain, cbc_open_outs, cbc_open_chain, sealed_any, sealed_after}
use Rattle.cipher_ops.specs.Standing.{aes, aes_inverse}
use Rattle.whole_outputs.specs.Links.{plan_of}
use Rattle.whole_outputs.proofs.chained.pass_all.Goals as goal

pub returns-then-seal-clause-made : goal.returns-then-seal-clause-made
returns-then-seal-clause-made c = λ padded.
    let e = aes c.args.cipher.now in
    c.encrypt_all.ensures ∙ ap (map e) c.copy_from_slice.ensures.after
    ∙ ecb_seal e (aes_inverse c.args.cipher.now) (plan_of c.args.links c.args.seal padded) c.args.seal padded c.args.chain c.args.texts.now (ap (λ l. plan_of l c.args.seal padded) c.in-Apart.is) c.if-seal.true

pub returns-then-seal-clause-chain : goal.returns-then-seal-clause-chain
returns-then-seal-clause-chain c = λ padded.
    ecb_chain (aes c.args.cipher.now) (aes_inverse c.args.cipher.now) (plan_of c.args.links c.args.seal padded) c.args.seal padded c.args.chain c.args.texts.now (ap (λ l. plan_of l c.args.seal padded) c.in-Apart.is)

pub returns-else-seal-clause-made : goal.returns-else-seal-clause-made
returns-else-seal-clause-made c = λ padded.
    let d = aes_inverse c.args.cipher.now in
    c.decrypt_all.ensures ∙ ap (map d) c.copy_from_slice.ensures.after
    ∙ ecb_open (aes c.args.cipher.now) d (plan_of c.args.links c.args.seal padded) c.args.seal padded c.args.chain c.args.texts.now (ap (λ l. plan_of l c.args.seal padded) c.in-Apart.is) c.if-seal.false

pub returns-else-seal-clause-chain : goal.returns-else-seal-clause-chain
returns-else-seal-clause-chain c = λ padded.
    ecb_chain (aes c.args.cipher.now) (aes_inverse c.args.cipher.now) (plan_of c.args.links c.args.seal padded) c.args.seal padded c.args.chain c.args.texts.now (ap (λ l. plan_of l c.args.seal padded) c.in-Apart.is)

pub returns-else-seal-2-clause-made : goal.returns-else-seal-2-clause-made
returns-else-seal-2-clause-made c = λ padded.
    let d = aes_inverse c.args.cipher.now in
    c.add_before.ensures.made
    ∙ ap (λ t. zip2 xor_bytes t (before_each c.args.chain c.args.texts.now)) (c.decrypt_all-in-Linked.ensures ∙ ap (map d) c.copy_from_slice-in-Linked.ensures.after)
    ∙ cbc_open_outs (aes c.args.cipher.now) d (plan_of c.args.links c.args.seal padded) c.args.seal padded c.args.chain c.args.texts.now (ap (λ l. plan_of l c.args.seal padded) c.in-Linked.is) c.if-seal-2.false

pub returns-else-seal-2-clause-chain : goal.returns-else-seal-2-clause-chain
returns-else-seal-2-clause-chain c = λ padded.
    c.add_before.ensures.chain
    ∙ cbc_open_chain (aes c.args.cipher.now) (aes_inverse c.args.cipher.now) (plan_of c.args.links c.args.seal padded) c.args.seal padded c.args.chain c.args.texts.now (ap (λ l. plan_of l c.args.seal padded) c.in-Linked.is) c.if-seal-2.false

pub returns-then-seal-2-clause-made : goal.returns-then-seal-2-clause-made
returns-then-seal-2-clause-made c = λ padded.
    c.seal_linked.ensures.made
    ∙ sealed_any (aes c.args.cipher.now) (aes_inverse c.args.cipher.now) (plan_of c.args.links c.args.seal padded) c.args.seal padded c.args.chain c.args.texts.now (ap (λ l. plan_of l c.args.seal padded) c.in-Linked.is) c.if-seal-2.true

pub returns-then-seal-2-clause-chain : goal.returns-then-seal-2-clause-chain
returns-then-seal-2-clause-chain c = λ padded.
    c.seal_linked.ensures.chain
    ∙ sealed_after (aes c.args.cipher.now) (aes_inverse c.args.cipher.now) (plan_of c.args.links c.args.seal padded) c.args.seal padded c.args.chain c.args.texts.now (ap (λ l. plan_of l c.args.seal padded) c.in-Linked.is) c.if-seal-2.true
