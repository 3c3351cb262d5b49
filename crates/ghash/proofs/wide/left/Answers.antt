use Rattle.std.proofs.Common.{◌*◌, ◌%◌, ◌^◌}
use Rattle.ghash.proofs.RowLemmas.{left_row, lane_of_splat}
use Rattle.ghash.proofs.wide.left.Goals as goal

pub returns : goal.returns
returns c = record { row = left_row c.args.v c.args.by c.requires.row; lanes = λ l h. lane_of_splat (λ x y. x * 2 ^ y % 2 ^ 8) c.args.v c.args.by l c.requires.row.count h }
