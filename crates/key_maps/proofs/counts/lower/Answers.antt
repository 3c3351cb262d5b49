use Rattle.key_maps.proofs.Counting.{lowered, lowered_out}
use Rattle.key_maps.proofs.counts.lower.Goals as goal

pub returns-then-count-le1 : goal.returns-then-count-le1
returns-then-count-le1 c = lowered_out c.args.counts.now c.remove.new.self c.args.owner c.count_of-count.result c.count_of-count.ensures c.if-count-le1.true c.remove.ensures.updates

pub returns : goal.returns
returns c = lowered c.args.counts.now c.insert.new.self c.args.owner c.count_of-count.result c.count_of-count.ensures c.in-Ok.ensures.updates
