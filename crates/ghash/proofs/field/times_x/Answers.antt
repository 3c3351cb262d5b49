use Rattle.std.proofs.Common.{◌%◌}
use Rattle.std.proofs.lemmas.Bool.{ne_eqb}
use Rattle.ghash.specs.Field.{times_x}
use Rattle.ghash.proofs.field.times_x.Goals as goal

pub returns-else-v-eq0 : goal.returns-else-v-eq0
unfolding times_x
returns-else-v-eq0 c = rw (ne_eqb (c.args.v % 2) 0 c.if-v-eq0.false)
