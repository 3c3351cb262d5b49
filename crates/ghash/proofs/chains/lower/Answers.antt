use Rattle.std.proofs.Common.{arith}
use Rattle.ghash.proofs.TableLemmas.{lower_is}
use Rattle.ghash.proofs.chains.lower.Goals as goal

pub returns : goal.returns
returns c = λ y table n h. lower_is c.args.table.now c.entries.out y n table h (c.entries.invariant.entries n (omega arith))
