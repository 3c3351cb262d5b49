use Rattle.std.proofs.Common.{◌<◌, ◌^◌, ◌∙◌, arith}
use Rattle.ghash.specs.Lanes.{IsTable}
use Rattle.ghash.proofs.ChainLemmas.{chained_first, first_values, group_more, group_last}
use Rattle.ghash.proofs.chains.hash_of_groups.Goals as goal

pub groups-init : goal.groups-init
groups-init c = record {
  whole = omega arith;
  room = omega arith;
  grid_is = c.grid_of-lanes.ensures.grid;
  chained = chained_first c.args.subkey c.args.sum c.grid_of-lanes.result (λ l h. c.grid_of-lanes.ensures.lanes l h ∙ first_values c.args.sum l h);
}

pub groups-preserved : goal.groups-preserved
groups-preserved c =
    let small : c.args.power < 2 ^ 128 = c.products_with-entries.ensures.small in
    let high : IsTable c.grid_of-high.result 124 c.args.power = record { lanes = λ n h. c.grid_of-high.ensures.lanes n h ∙ c.products_with-entries.ensures.entries n h } in
    let low : IsTable c.grid_of-low.result 120 c.args.power =
    record { lanes = λ n h. c.grid_of-low.ensures.lanes n h ∙ c.lower-lower_entries.ensures c.args.power c.products_with-entries.ensures n h } in
    group_more c.args.subkey c.args.sum c.args.power c.grid_of-high.result c.grid_of-low.result c.args.blocks.now c.groups.lanes c.lanes_of-group.result c.added-joined.result
    c.products-next.result c.groups.at c.ranges.subkey.fits c.groups.invariant c.groups-test.true c.requires.whole c.requires.power c.added-joined.ensures.grid c.lanes_of-group.ensures.lanes
    c.added-joined.ensures.lanes c.products-next.ensures.grid (λ l h. c.products-next.ensures.lanes c.args.power l small high low h)

pub returns : goal.returns
returns c =
    c.end_of.ensures
    ∙ group_last c.args.subkey c.args.sum c.args.power c.grid_of-high.result c.grid_of-low.result c.args.blocks.now c.groups.lanes c.lanes_of-group-2.result c.added-last.result c.groups.at
    c.groups.invariant c.groups-test.false c.lanes_of-group-2.ensures.lanes c.added-last.ensures.lanes
