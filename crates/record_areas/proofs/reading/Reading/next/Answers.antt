-- What the next step finds.
use Rattle.std.proofs.Common.{refl}
use Rattle.record_areas.proofs.Walks.{reads_next}
use Rattle.record_areas.proofs.reading.Reading.next.Goals as goal

pub returns-clause-reads : goal.returns-clause-reads
returns-clause-reads g c = λ start limit kinds past.
    reads_next g.D.Disk c.args.disk.now c.next_record.new.disk start limit kinds c.args.self.now _ past c.next_record.result refl refl c.next_record.ensures.limit
    c.next_record.ensures.place c.next_record.ensures.some c.next_record.ensures.before c.next_record.ensures.seen c.next_record.ensures.reads c.next_record.ensures.goes.images
