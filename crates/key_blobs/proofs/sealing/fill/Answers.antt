use Rattle.std.proofs.Common.{◌≡◌, ◌≤◌, ◌+◌, ◌++◌, [], length, drop, ap, ◌∙◌, arith, rules}
use Rattle.std.proofs.lemmas.List.{drop_all, append-nil}
use Rattle.key_blobs.specs.Blobs.{START, opened}
use Rattle.key_blobs.proofs.BlobLemmas.{opened_again}
use Rattle.key_blobs.proofs.sealing.fill.Goals as goal

pub returns-clause-blob : goal.returns-clause-blob
returns-clause-blob c =
    let none : drop 16 c.split_at_mut-head.result.0.now ≡ [] = drop_all 16 c.split_at_mut-head.result.0.now (omega (arith, c.split_at_mut-head.ensures.front_len)) in
    let head : c.put_head.new.out ≡ START ++ c.args.nonce =
    c.put_head.ensures ∙ ap (λ l. START ++ (c.args.nonce ++ l)) none ∙ ap (λ l. START ++ l) (append-nil c.args.nonce) in
    ap (λ l. l ++ c.seal_text.new.out) head ∙ ap (λ l. START ++ (c.args.nonce ++ l)) c.seal_text.ensures.sealed

pub returns-clause-opens : goal.returns-clause-opens
returns-clause-opens c = λ x reads.
    let none : drop 16 c.split_at_mut-head.result.0.now ≡ [] = drop_all 16 c.split_at_mut-head.result.0.now (omega (arith, c.split_at_mut-head.ensures.front_len)) in
    let head : c.put_head.new.out ≡ START ++ c.args.nonce =
    c.put_head.ensures ∙ ap (λ l. START ++ (c.args.nonce ++ l)) none ∙ ap (λ l. START ++ l) (append-nil c.args.nonce) in
    let long : length c.args.nonce ≡ 12 = search rules in
    let some : 16 ≤ length c.seal_text.new.out = omega (arith, c.split_at_mut-head.ensures.back_len, c.requires) in
    ap (λ l. opened c.args.key.now (l ++ c.seal_text.new.out)) head
    ∙ opened_again c.args.key.now c.args.nonce c.seal_text.new.out c.args.text.now x long some c.seal_text.ensures.opens reads
