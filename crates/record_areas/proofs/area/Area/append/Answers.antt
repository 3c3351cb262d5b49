-- What an append leaves.
use Rattle.std.proofs.Common.{arith, refl}
use Rattle.journal_records.specs.Spelling.{record_tail, spelled}
use Rattle.record_areas.proofs.Sides.{appends_done, appends_torn, has_area}
use Rattle.record_areas.proofs.area.Area.append.Goals as goal

pub returns-in_default-clause-appends : goal.returns-in_default-clause-appends
returns-in_default-clause-appends g c = λ frame past it settled fits is.
    let area = has_area g.D.Disk c.args.disk.now frame past c.args.self.now.end settled.place settled.images in
    appends_torn g.D.Disk c.args.self.now _ c.args.disk.now c.publish.new.disk frame past it c.args.closed.now settled fits is (omega (arith, c.if-length-self.false))
    (c.publish.ensures.passes frame.start (spelled past) (record_tail it) area is) c.publish.ensures.keeps c.publish.ensures.keeps_passing c.args.self.now.before_limit
    (record { start = refl; limit = refl }) refl refl
    (c.in_default.ensures.torn frame.start (spelled past) (record_tail it) area is) (c.in_default.ensures.nothing frame.start (spelled past) (record_tail it) area is)

pub returns-clause-appends : goal.returns-clause-appends
returns-clause-appends g c = λ frame past it settled fits is.
    let area = has_area g.D.Disk c.args.disk.now frame past c.args.self.now.end settled.place settled.images in
    appends_done g.D.Disk c.args.self.now _ c.args.disk.now c.publish.new.disk frame past it c.args.closed.now settled fits is (omega (arith, c.if-length-self.false))
    (c.publish.ensures.passes frame.start (spelled past) (record_tail it) area is) c.publish.ensures.keeps c.publish.ensures.keeps_passing c.args.self.now.before_limit
    (record { start = refl; limit = refl }) c.requires.settled refl
    (c.in-Ok.ensures.done frame.start (spelled past) (record_tail it) area is)

pub returns-in_default-clause-waiting : goal.returns-in_default-clause-waiting
returns-in_default-clause-waiting g c = refl

pub returns-in_default-clause-pending : goal.returns-in_default-clause-pending
returns-in_default-clause-pending g c = refl
