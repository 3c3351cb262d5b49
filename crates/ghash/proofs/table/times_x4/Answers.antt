use Rattle.ghash.proofs.TableLemmas.{four_shifted}
use Rattle.ghash.proofs.table.times_x4.Goals as goal

pub returns : goal.returns
returns c = four_shifted c.args.v
