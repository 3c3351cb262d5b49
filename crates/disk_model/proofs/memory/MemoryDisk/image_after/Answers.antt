-- What is chosen is one of the images.
use Rattle.std.proofs.Common.{take, reverse}
use Rattle.disk_model.proofs.Replays.{chosen_image}
use Rattle.disk_model.proofs.memory.MemoryDisk.image_after.Goals as goal

pub returns-clause-possible : goal.returns-clause-possible
returns-clause-possible c = rw c.in_ok-disk.ensures.image (chosen_image c.args.choices.now (reverse (take c.args.calls c.args.self.now.calls.made)))
