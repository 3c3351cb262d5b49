use Rattle.std.proofs.Common.{arith}
use Rattle.tag_lists.proofs.Laws.{canonical_listed}
use Rattle.tag_lists.proofs.list.list_of.Goals as goal

pub invariant_of-result : goal.invariant_of-result
invariant_of-result c = canonical_listed c.args.bytes.now c.in_ok-listed.field-0.items (λ i. omega (arith, c.type_inv.bytes i)) c.in_ok-listed.ensures
