use Rattle.std.proofs.Common.{arith}
use Rattle.hmac_core.proofs.Blocks.{short_key, long_key}
use Rattle.hmac_core.proofs.keyed.key_as_block.Goals as goal

pub returns-then-key-block_bytes : goal.returns-then-key-block_bytes
returns-then-key-block_bytes g c =
    short_key g.D.Hash.hash g.D.Hash.block c.args.key.now _ (omega (arith, c.if-key-block_bytes.true, c.block_bytes.ensures.block)) (omega (arith, c.block_bytes.ensures.block, c.block_bytes.ensures.within)) c.put_front.ensures

pub returns-else-key-block_bytes : goal.returns-else-key-block_bytes
returns-else-key-block_bytes g c =
    long_key g.D.Hash.hash g.D.Hash.block c.finish_into-size.result c.args.key.now c.finish_into-size.new.out _
    (omega (arith, c.if-key-block_bytes.false, c.block_bytes.ensures.block))
    (omega (arith, c.block_bytes.ensures.block, c.block_bytes.ensures.room))
    (omega (arith, c.block_bytes.ensures.block, c.block_bytes.ensures.within))
    c.finish_into-size.ensures.within
    (c.finish_into-size.ensures.digest c.args.key.now (c.update.ensures _ c.new-hasher.ensures))
    c.put_front-else-key-block_bytes.ensures
