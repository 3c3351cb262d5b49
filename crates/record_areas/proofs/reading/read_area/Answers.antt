-- A record more, and the gate that is shut.
use Rattle.std.proofs.Common.{Ok, Option, subst}
use Rattle.journal_records.specs.declared.record.Record.{Record}
use Rattle.record_areas.specs.Frames.{past_of}
use Rattle.record_areas.specs.Readings.{IsThrough, ReadsOn}
use Rattle.record_areas.proofs.Walks.{walk_on}
use Rattle.record_areas.proofs.reading.read_area.Goals as goal

pub records-preserved : goal.records-preserved
records-preserved g c =
    walk_on g.D.Disk c.args.disk.now c.records.disk c.next.new.disk c.args.start c.args.limit c.args.kinds c.records.at c.place-at.result c.records.reading c.next.new.self c.records.all c.push.new.self c.in-Some.it
    c.records.invariant c.in_ok-it.ensures.whole
    (λ past behind. subst (λ (it : Option Record). ReadsOn g.D.Disk c.next.new.self c.next.new.disk c.args.start c.args.limit c.args.kinds past (Ok it)) c.in-Some.is
    (c.in_ok-it.ensures.reads c.args.start c.args.limit c.args.kinds past behind))
    c.in-Ok.ensures.ok c.place-at.ensures c.in_ok-it.ensures.still c.in_ok-it.ensures.goes

pub returns-clause-reads : goal.returns-clause-reads
returns-clause-reads g c =
    let past = past_of c.records.all in
    let through : IsThrough g.D.Disk c.next.new.self c.next.new.disk c.args.start c.args.limit c.args.kinds past =
    subst (λ (it : Option Record). ReadsOn g.D.Disk c.next.new.self c.next.new.disk c.args.start c.args.limit c.args.kinds past (Ok it)) c.in_default.is
    (c.in_ok-it.ensures.reads c.args.start c.args.limit c.args.kinds past c.records.invariant.behind) in
    through.images
