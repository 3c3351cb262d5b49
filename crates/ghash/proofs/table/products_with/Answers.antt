use Rattle.std.proofs.Common.{refl}
use Rattle.ghash.proofs.TableLemmas.{table_is}
use Rattle.ghash.proofs.table.products_with.Goals as goal

pub returns : goal.returns
returns c =
    table_is c.args.y c.times_x-b.result c.times_x-c.result c.times_x-d.result c.args.y c.ranges.y.fits refl c.times_x-b.ensures c.times_x-c.ensures c.times_x-d.ensures
