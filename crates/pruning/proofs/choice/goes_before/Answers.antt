use Rattle.std.proofs.lemmas.Bool.{le-ltb, eq-eqb}
use Rattle.pruning.proofs.choice.goes_before.Goals as goal

pub returns-then-one-other : goal.returns-then-one-other
returns-then-one-other c = rw (le-ltb c.args.other.malus c.args.one.malus c.if-other-one.false, eq-eqb c.args.one.malus c.args.other.malus c.if-one-other.true)
