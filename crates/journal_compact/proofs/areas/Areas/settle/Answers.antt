-- A record that left nothing is lost.
use Rattle.std.proofs.Common.{◌∙◌}
use Rattle.journal_compact.proofs.Surely.{never_kept, told_image}
use Rattle.journal_compact.proofs.areas.Areas.settle.Goals as goal

pub returns-in-Idle-clause-unfound : goal.returns-in-Idle-clause-unfound
returns-in-Idle-clause-unfound g c = λ frame past kept it is fits surely told.
    let image = told_image g.D.Disk c.settle.new.disk g.met.D.Disk.content_is_image (c.settle.ensures.goes.goes.telling ∙ told) in
    never_kept g.D.Disk c.args.self.now c.settle.new.self c.args.disk.now c.settle.new.disk frame past kept it is fits surely c.settle.result image.0 image.1 c.settle.ensures.goes.images (c.settle.ensures.settles frame past it is.area)
