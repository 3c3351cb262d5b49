use Rattle.std.proofs.Common.{◌<◌, arith}
use Rattle.aes_core.specs.KeyOf.{key_of}
use Rattle.aes_wide.proofs.GroupLemmas.{rounds_few}
use Rattle.aes_wide.proofs.RowLemmas.{more_rows}
use Rattle.aes_wide.proofs.single.key_rows.Goals as goal

pub overflow_add-count : goal.overflow_add-count
overflow_add-count c = omega (arith, c.rounds-count.ensures, rounds_few c.args.plain.now)

pub offset_bounds-rows-r : goal.offset_bounds-rows-r
offset_bounds-rows-r c = omega (arith, c.rounds-count.ensures, rounds_few c.args.plain.now)

pub bounds-rows-r : goal.bounds-rows-r
bounds-rows-r c = omega (arith, c.rounds-count.ensures, rounds_few c.args.plain.now)

pub each-preserved : goal.each-preserved
each-preserved c =
    let few : c.each.r < 15 = omega (arith, c.rounds-count.ensures, rounds_few c.args.plain.now) in
    more_rows c.each.r c.each.rows c.row_of-row.result (key_of c.args.plain.now) few c.each.invariant c.row_of-row.ensures

pub returns : goal.returns
returns c r h = c.each.invariant.has r (omega (arith, c.rounds-count.ensures))
