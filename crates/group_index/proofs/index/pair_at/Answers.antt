use Rattle.std.proofs.Common.{rules, subst, IfOk, IfErr}
use Rattle.std.proofs.lemmas.List.Sorted.{answers_always}
use Rattle.slot_chain.specs.Ordered.{IsAt, IsGap}
use Rattle.slot_chain.proofs.Ordering.{searched}
use Rattle.group_index.specs.Grouped.{rank}
use Rattle.group_index.proofs.index.pair_at.Goals as goal

pub returns-clause-found : goal.returns-clause-found
returns-clause-found c =
    let facts = c.binary_search_by_key.ensures in
    subst (λ n. IfOk c.binary_search_by_key.result (IsAt rank c.args.pairs.now n)) c.rank_of-own.ensures
    (searched rank c.args.pairs.now c.requires c.rank_of-own.result _ facts.bound (facts.position rank (answers_always _ _ _ (λ f a r g called. search rules)))).found

pub returns-clause-absent : goal.returns-clause-absent
returns-clause-absent c =
    let facts = c.binary_search_by_key.ensures in
    subst (λ n. IfErr c.binary_search_by_key.result (IsGap rank c.args.pairs.now n)) c.rank_of-own.ensures
    (searched rank c.args.pairs.now c.requires c.rank_of-own.result _ facts.bound (facts.position rank (answers_always _ _ _ (λ f a r g called. search rules)))).absent
