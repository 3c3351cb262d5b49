use Rattle.std.proofs.Common.{refl}
use Rattle.aes_wide.specs.Planes.{lanes}
use Rattle.aes_wide.specs.Gates.{top_outs, shared_outs, inverted_outs, products_outs, bottom_outs}
use Rattle.aes_wide.proofs.BoxLemmas.{column_boxed}
use Rattle.aes_wide.proofs.circuit.boxed.Goals as goal

pub shared-requires : goal.shared-requires
unfolding lanes top_outs
shared-requires c = rw c.top-y.ensures refl

pub inverted-requires : goal.inverted-requires
unfolding lanes shared_outs
inverted-requires c = rw c.shared.ensures refl

pub products-requires-clause-t : goal.products-requires-clause-t
unfolding lanes inverted_outs
products-requires-clause-t c = rw c.inverted.ensures refl

pub products-requires-clause-y : goal.products-requires-clause-y
unfolding lanes top_outs
products-requires-clause-y c = rw c.top-y.ensures refl

pub bottom-requires : goal.bottom-requires
unfolding lanes products_outs
bottom-requires c = rw c.products.ensures refl

pub returns-clause-whole : goal.returns-clause-whole
unfolding lanes bottom_outs
returns-clause-whole c = rw c.bottom.ensures refl

pub returns-clause-columns : goal.returns-clause-columns
returns-clause-columns c = λ j h. rw (c.bottom.ensures, c.products.ensures, c.inverted.ensures, c.shared.ensures, c.top-y.ensures) (column_boxed c.args.x j h)
