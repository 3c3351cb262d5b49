use Rattle.std.proofs.Common.{refl, ◌/◌, length}
use Rattle.gcm_mode.specs.Blocks.{first_blocks}
use Rattle.gcm_mode.proofs.Feeding.{feeds_blocks}
use Rattle.gcm_mode.proofs.feed.Feed.take_blocks.Goals as goal

pub returns : goal.returns
returns c = λ h bytes input held whole blocks_are.
    feeds_blocks c.args.self.now _ h bytes input c.args.blocks.now held whole blocks_are (c.absorb_all.ensures h (first_blocks (length bytes / 16) bytes) held.hash) refl
