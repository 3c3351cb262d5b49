use Rattle.std.proofs.Common.{rules}
use Rattle.std.proofs.lemmas.List.Sorted.{answers_always}
use Rattle.slot_chain.proofs.Ordering.{searched}
use Rattle.live_tables.specs.Places.{place_number}
use Rattle.live_tables.proofs.placing.number_at.Goals as goal

pub returns-clause-found : goal.returns-clause-found
returns-clause-found c =
    let facts = c.binary_search_by_key.ensures in
    (searched place_number c.args.index.now c.requires c.args.number _ facts.bound (facts.position place_number (answers_always _ _ _ (λ f a r g called. search rules)))).found

pub returns-clause-absent : goal.returns-clause-absent
returns-clause-absent c =
    let facts = c.binary_search_by_key.ensures in
    (searched place_number c.args.index.now c.requires c.args.number _ facts.bound (facts.position place_number (answers_always _ _ _ (λ f a r g called. search rules)))).absent
