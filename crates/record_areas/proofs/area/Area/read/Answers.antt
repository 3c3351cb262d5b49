-- What a reading says of a frame, and of a disk that tells its bytes.
use Rattle.record_areas.proofs.Walks.{finds_if, settled_if}
use Rattle.record_areas.proofs.area.Area.read.Goals as goal

pub returns-clause-settled : goal.returns-clause-settled
returns-clause-settled g c = λ frame of marked.
    settled_if g.D.Disk c.args.disk.now c.read_area.new.disk frame c.args.start c.args.limit c.args.kinds c.read_area.result of c.read_area.ensures.read c.read_area.ensures.reads
    marked c.read_area.ensures.goes.images

pub returns-clause-stands : goal.returns-clause-stands
returns-clause-stands g c = λ past fit has told.
    finds_if g.D.Disk g.met.D.Disk.content_is_image c.args.disk.now c.read_area.new.disk c.args.start c.args.limit c.args.kinds past c.read_area.result
    c.read_area.ensures.goes.goes.telling fit has told c.read_area.ensures.goes.images c.read_area.ensures.read c.read_area.ensures.reads
