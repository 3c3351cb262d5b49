use Rattle.ghash.proofs.BlockLemmas.{block_lane}
use Rattle.ghash.proofs.chains.lanes_of.Goals as goal

pub returns-clause-lanes : goal.returns-clause-lanes
returns-clause-lanes c = block_lane c.args.blocks.now c.loaded.result c.turned.result c.args.at c.loaded.ensures.grid c.loaded.ensures.places c.turned.ensures.places
