use Rattle.std.proofs.Common.{false, rules}
use Rattle.ks_outside.proofs.Shown.{counts_call}
use Rattle.ks_outside.proofs.Goings.{reads_call}
use Rattle.disk_calls.proofs.Filling.{filling_on}
use Rattle.disk_calls.proofs.still.read_still.Goals as goal

pub pieces-preserved : goal.pieces-preserved
pieces-preserved g c =
    filling_on g.D.Disk c.args.disk.now c.pieces.disk c.read.new.self c.args.at _ c.pieces.done c.in-Ok.count _ c.read.new.out c.pieces.out c.pieces.invariant c.read.ensures.content
    (reads_call g.D.Disk c.pieces.disk c.read.new.self false c.read.ensures.content c.read.ensures.images c.read.ensures.sure c.read.ensures.time (counts_call _ _ _ c.in-Ok.ensures.cause))
    c.in-Ok.ensures.within c.in-Ok.ensures.bytes (search rules) (search rules)
