use Rattle.key_maps.proofs.Counting.{raised}
use Rattle.key_maps.proofs.counts.raise.Goals as goal

pub returns-clause-ok : goal.returns-clause-ok
returns-clause-ok c = raised c.args.counts.now c.insert.new.self c.args.owner c.count_of-count.result c.count_of-count.ensures c.in_ok-insert.ensures.updates
