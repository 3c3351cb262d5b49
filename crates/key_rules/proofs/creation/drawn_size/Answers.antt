use Rattle.std.proofs.Common.{◌≤◌, sym, subst}
use Rattle.key_rules.proofs.Keys.{generated_short}
use Rattle.key_rules.proofs.creation.drawn_size.Goals as goal

pub returns-in-None-clause-short : goal.returns-in-None-clause-short
returns-in-None-clause-short c = subst (λ n. n ≤ 64) (sym c.material_size.ensures) (generated_short c.args.list.now (rw c.in-None.is at c.requires))
