use Rattle.std.proofs.Common.{◌-◌, length}
use Rattle.ghash.proofs.ChainLemmas.{Groups}
use Rattle.ghash.proofs.chains.hash_of_groups.Given as goal

abbrev pub invariant-groups : goal.invariant-groups
invariant-groups l = Groups l.subkey l.sum l.power l.high l.low l.blocks l.lanes l.at

abbrev pub decreases-groups : goal.decreases-groups
decreases-groups l = length l.blocks - l.at
