use Rattle.std.proofs.Common.{map, ap, sym, ◌∙◌}
use Rattle.std.specs.Simd.Lanes.{zip2}
use Rattle.block_modes.specs.Texts.{xor_bytes}
use Rattle.block_modes.specs.Steps.{before_each, counter_blocks, counter_after}
use Rattle.block_modes.proofs.LaneLemmas.{ecb_seal, ecb_open, ecb_chain, cbc_open_outs, cbc_open_chain, sealed_any, sealed_after, counts, counted_outs, counted_chain}
use Rattle.block_modes.proofs.lanes.pass_all.Goals as goal

pub returns-then-seal-clause-made : goal.returns-then-seal-clause-made
returns-then-seal-clause-made g c =
    let e = g.C.BlockCipher.cipher c.args.cipher.now in
    c.encrypt_all.ensures ∙ ap (map e) c.copy_from_slice.ensures.after
    ∙ ecb_seal e (g.C.BlockCipher.inverse c.args.cipher.now) c.args.plan c.in-Ecb.seal c.in-Ecb.padded c.args.chain c.args.texts.now c.in-Ecb.is c.if-seal.true

pub returns-then-seal-clause-chain : goal.returns-then-seal-clause-chain
returns-then-seal-clause-chain g c =
    ecb_chain (g.C.BlockCipher.cipher c.args.cipher.now) (g.C.BlockCipher.inverse c.args.cipher.now) c.args.plan c.in-Ecb.seal c.in-Ecb.padded c.args.chain c.args.texts.now c.in-Ecb.is

pub returns-else-seal-clause-made : goal.returns-else-seal-clause-made
returns-else-seal-clause-made g c =
    let d = g.C.BlockCipher.inverse c.args.cipher.now in
    c.decrypt_all.ensures ∙ ap (map d) c.copy_from_slice.ensures.after
    ∙ ecb_open (g.C.BlockCipher.cipher c.args.cipher.now) d c.args.plan c.in-Ecb.seal c.in-Ecb.padded c.args.chain c.args.texts.now c.in-Ecb.is c.if-seal.false

pub returns-else-seal-clause-chain : goal.returns-else-seal-clause-chain
returns-else-seal-clause-chain g c =
    ecb_chain (g.C.BlockCipher.cipher c.args.cipher.now) (g.C.BlockCipher.inverse c.args.cipher.now) c.args.plan c.in-Ecb.seal c.in-Ecb.padded c.args.chain c.args.texts.now c.in-Ecb.is

pub returns-else-seal-2-clause-made : goal.returns-else-seal-2-clause-made
returns-else-seal-2-clause-made g c =
    let d = g.C.BlockCipher.inverse c.args.cipher.now in
    c.unchain.ensures.made
    ∙ ap (λ t. zip2 xor_bytes t (before_each c.args.chain c.args.texts.now)) (c.decrypt_all-in-Cbc.ensures ∙ ap (map d) c.copy_from_slice-in-Cbc.ensures.after)
    ∙ cbc_open_outs (g.C.BlockCipher.cipher c.args.cipher.now) d c.args.plan c.in-Cbc.seal c.in-Cbc.padded c.args.chain c.args.texts.now c.in-Cbc.is c.if-seal-2.false

pub returns-else-seal-2-clause-chain : goal.returns-else-seal-2-clause-chain
returns-else-seal-2-clause-chain g c =
    c.unchain.ensures.last
    ∙ cbc_open_chain (g.C.BlockCipher.cipher c.args.cipher.now) (g.C.BlockCipher.inverse c.args.cipher.now) c.args.plan c.in-Cbc.seal c.in-Cbc.padded c.args.chain c.args.texts.now c.in-Cbc.is c.if-seal-2.false

pub returns-in_default : goal.returns-in_default
returns-in_default g c =
    let e = g.C.BlockCipher.cipher c.args.cipher.now in
    let d = g.C.BlockCipher.inverse c.args.cipher.now in
    let texts = c.args.texts.now in
    let k = counts e d c.args.plan c.in_default.not-Ecb c.in_default.not-Cbc in
    record {
      made =
          c.add_texts.ensures
          ∙ ap (λ t. zip2 xor_bytes texts t)
          (c.encrypt_all-in_default.ensures ∙ ap (map e) (c.put_counters-next.ensures.blocks ∙ ap (λ n. counter_blocks n c.args.chain) (sym c.requires)))
          ∙ counted_outs e d c.args.plan c.args.chain texts k;
      chain =
          c.put_counters-next.ensures.next
          ∙ ap (λ n. counter_after n c.args.chain) (sym c.requires)
          ∙ counted_chain e d c.args.plan c.args.chain texts k;
    }

pub returns-then-seal-2-clause-made : goal.returns-then-seal-2-clause-made
returns-then-seal-2-clause-made g c =
    c.seal_chain.ensures.made
    ∙ sealed_any (g.C.BlockCipher.cipher c.args.cipher.now) (g.C.BlockCipher.inverse c.args.cipher.now) c.args.plan c.in-Cbc.seal c.in-Cbc.padded c.args.chain c.args.texts.now c.in-Cbc.is c.if-seal-2.true

pub returns-then-seal-2-clause-chain : goal.returns-then-seal-2-clause-chain
returns-then-seal-2-clause-chain g c =
    c.seal_chain.ensures.chain
    ∙ sealed_after (g.C.BlockCipher.cipher c.args.cipher.now) (g.C.BlockCipher.inverse c.args.cipher.now) c.args.plan c.in-Cbc.seal c.in-Cbc.padded c.args.chain c.args.texts.now c.in-Cbc.is c.if-seal-2.true
