use Rattle.aes_wide.proofs.UnboxLemmas.{column_unboxed, unlinear_whole}
use Rattle.aes_wide.proofs.circuit.unboxed.Goals as goal

pub boxed-requires : goal.boxed-requires
boxed-requires c = rw c.unlinear.ensures (unlinear_whole c.args.x)

pub returns-clause-whole : goal.returns-clause-whole
returns-clause-whole c = rw c.unlinear-2.ensures (unlinear_whole c.boxed.result)

pub returns-clause-columns : goal.returns-clause-columns
returns-clause-columns c = λ j h. rw c.unlinear-2.ensures (column_unboxed c.args.x c.unlinear.result c.boxed.result j h c.unlinear.ensures c.boxed.ensures.columns)
