use Rattle.std.proofs.Common.{refl}
use Rattle.block_modes.proofs.GoingLemmas.{holds_empty}
use Rattle.block_modes.proofs.engine.Blocks.new.Goals as goal

pub returns : goal.returns
returns g c = holds_empty g.C.BlockCipher.cipher g.C.BlockCipher.inverse _ c.args.plan c.requires refl c.new.ensures
