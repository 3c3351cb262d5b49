use Rattle.ghash.proofs.RowLemmas.{low_ok, look_row, look_lanes}
use Rattle.ghash.proofs.wide.look_up.Goals as goal

pub swizzle : goal.swizzle
swizzle c = low_ok c.args.places c.requires.places.count

pub returns : goal.returns
returns c = record { row = look_row c.args.row c.args.places c.requires.row c.requires.places.count; lanes = look_lanes c.args.row c.args.places c.requires.places.count }
