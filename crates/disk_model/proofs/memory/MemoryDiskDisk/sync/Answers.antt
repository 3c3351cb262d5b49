-- A sync leaves what a read gives, and that was an image before.
use Rattle.std.proofs.Common.{ap}
use Rattle.disk_model.proofs.Elapsing.{synced_image}
use Rattle.disk_model.proofs.memory.MemoryDiskDisk.sync.Goals as goal

pub returns-clause-images : goal.returns-clause-images
returns-clause-images c =
    synced_image c.args.self.now.calls.made c.goes_on.new.self.calls.made c.make_sync.new.self.calls.made
    (ap (λ v. v.made) c.in-Ok.ensures.calls) c.in-Ok-make_sync.ensures.calls
