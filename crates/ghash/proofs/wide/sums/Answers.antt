use Rattle.ghash.proofs.RowLemmas.{xor_row, xor_lanes}
use Rattle.ghash.proofs.wide.sums.Goals as goal

pub returns : goal.returns
returns c = record { row = xor_row c.args.a c.args.b c.requires.a c.requires.b; lanes = xor_lanes c.args.a c.args.b c.requires.a c.requires.b }
