-- The cipher of the counter blocks was added.
use Rattle.std.proofs.Common.{ℕ, List, map, ap, subst, ◌∙◌, rules}
use Rattle.gcm_mode.specs.Parts.{Streams}
use Rattle.gcm_mode.proofs.Blockwise.{group_added}
use Rattle.gcm_mode.proofs.stream.Gctr.apply_group.Goals as goal

pub returns-clause-bytes : goal.returns-clause-bytes
returns-clause-bytes g c = λ cipher nonce n held due.
    let now = c.put_counters.ensures.stream cipher nonce n held due in
    group_added cipher nonce n _ c.encrypt_all.new.blocks c.args.bytes.now c.add_blocks.new.bytes due (search rules)
    (c.encrypt_all.ensures ∙ ap (λ (f : List ℕ → List ℕ). map f c.put_counters.new.out) now.same ∙ ap (λ (l : List (List ℕ)). map cipher l) (c.put_counters.ensures.blocks cipher nonce n held due))
    c.add_blocks.ensures

pub returns-clause-stream : goal.returns-clause-stream
returns-clause-stream g c = λ cipher nonce n held due.
    let P : ℕ → Type 0 = λ k. Streams g.C.BlockCipher.cipher c.put_counters.new.self cipher nonce k in
    subst P (search rules) (c.put_counters.ensures.stream cipher nonce n held due)
