use Rattle.std.proofs.Common.{rules}
use Rattle.disk_calls.proofs.Pairs.{reading_more, read_whole, read_told}
use Rattle.disk_calls.proofs.whole.read_synced.Goals as goal

pub pieces-preserved : goal.pieces-preserved
pieces-preserved g c =
    reading_more g.D.Disk c.args.disk.now c.pieces.disk c.read.new.self c.in-Ok-len.length c.pieces.bytes.items _ c.read.new.out _ c.in-Ok-read.count _ c.pieces.invariant
    c.read.ensures.content c.read.ensures.images c.read.ensures.time c.read.ensures.sure c.in-Ok-read.ensures.cause.same (search rules) c.in-Ok-read.ensures.bytes c.in-Ok-read.ensures.within c.in-Ok-extend_from_slice.ensures.items

pub returns-clause-bytes : goal.returns-clause-bytes
returns-clause-bytes g c = read_whole g.D.Disk c.args.disk.now c.pieces.disk c.in-Ok-len.length c.pieces.bytes.items c.pieces.invariant (search rules)

pub returns-clause-told : goal.returns-clause-told
returns-clause-told g c =
    read_told g.D.Disk g.met.D.Disk.content_is_image c.args.disk.now c.pieces.disk c.in-Ok-len.length c.pieces.bytes.items c.pieces.invariant
    (read_whole g.D.Disk c.args.disk.now c.pieces.disk c.in-Ok-len.length c.pieces.bytes.items c.pieces.invariant (search rules))
