use Rattle.std.proofs.Common.{length}
use Rattle.block_modes.proofs.UpdateLoop.{InUpdate}
use Rattle.block_modes.proofs.engine.Blocks.update.Given as goal

abbrev pub invariant-pieces : goal.invariant-pieces
invariant-pieces g l = InUpdate g.C.BlockCipher.cipher g.C.BlockCipher.inverse l.fn.self l.self l.fn.input l.rest l.fn.out l.out l.at l.skip

abbrev pub decreases-pieces : goal.decreases-pieces
decreases-pieces g l = length l.rest
