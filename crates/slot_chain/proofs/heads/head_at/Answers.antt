use Rattle.std.proofs.Common.{rules}
use Rattle.std.proofs.lemmas.List.Sorted.{answers_always}
use Rattle.slot_chain.specs.Linked.{uid_of}
use Rattle.slot_chain.proofs.Ordering.{searched}
use Rattle.slot_chain.proofs.heads.head_at.Goals as goal

pub returns-clause-found : goal.returns-clause-found
returns-clause-found c =
    let facts = c.binary_search_by_key.ensures in
    (searched uid_of c.args.heads.now c.requires c.args.uid _ facts.bound (facts.position uid_of (answers_always _ _ _ (λ f a r g called. search rules)))).found

pub returns-clause-absent : goal.returns-clause-absent
returns-clause-absent c =
    let facts = c.binary_search_by_key.ensures in
    (searched uid_of c.args.heads.now c.requires c.args.uid _ facts.bound (facts.position uid_of (answers_always _ _ _ (λ f a r g called. search rules)))).absent
