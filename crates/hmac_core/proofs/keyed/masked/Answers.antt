use Rattle.hmac_core.proofs.Blocks.{masked_more}
use Rattle.hmac_core.proofs.keyed.masked.Goals as goal

pub bytes-preserved : goal.bytes-preserved
bytes-preserved c = masked_more c.args.mask c.bytes.i c.args.block.now c.bytes.bytes c.bytes-test.true c.told-block c.bytes.invariant
