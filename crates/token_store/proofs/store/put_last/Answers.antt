use Rattle.std.proofs.Common.{◌≡◌, ◌∙◌, ap, not, length, refl, arith}
use Rattle.token_store.specs.Table.{is_like, others_of}
use Rattle.token_store.proofs.Lists.{all_kept}
use Rattle.token_store.proofs.store.put_last.Goals as goal

pub returns-then-len-eq-MOST_TRIPLES-clause-full : goal.returns-then-len-eq-MOST_TRIPLES-clause-full
returns-then-len-eq-MOST_TRIPLES-clause-full c =
    let full : length c.drop_like.new.tokens.items ≡ 256 = omega (arith, c.len.ensures, c.if-len-eq-MOST_TRIPLES.true) in
    rw (← c.drop_like.ensures.others, full) refl

pub returns-then-len-eq-MOST_TRIPLES-clause-err : goal.returns-then-len-eq-MOST_TRIPLES-clause-err
returns-then-len-eq-MOST_TRIPLES-clause-err c =
    let same_length : length c.drop_like.new.tokens.items ≡ length (others_of c.args.tokens.now.items c.args.token) = ap length c.drop_like.ensures.others in
    let full : length (others_of c.args.tokens.now.items c.args.token) ≡ 256 = omega (arith, same_length, c.len.ensures, c.if-len-eq-MOST_TRIPLES.true) in
    c.drop_like.ensures.others ∙ all_kept (λ other. not (is_like c.args.token other)) c.args.tokens.now.items (omega (arith, full, c.requires.few))
