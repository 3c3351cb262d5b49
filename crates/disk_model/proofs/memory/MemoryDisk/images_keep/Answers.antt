-- Each image keeps within the limits.
use Rattle.std.proofs.Common.{take, reverse}
use Rattle.disk_model.proofs.Reaching.{images_within}
use Rattle.disk_model.proofs.memory.MemoryDisk.images_keep.Goals as goal

pub returns : goal.returns
returns c = λ calls image left. images_within (reverse (take calls c.args.self.now.calls.made)) image left
