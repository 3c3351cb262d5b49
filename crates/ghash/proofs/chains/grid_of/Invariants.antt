use Rattle.ghash.proofs.BlockLemmas.{Valued}
use Rattle.ghash.proofs.chains.grid_of.Given as goal

abbrev pub invariant-values : goal.invariant-values
invariant-values l = Valued l.rows l.l l.values
