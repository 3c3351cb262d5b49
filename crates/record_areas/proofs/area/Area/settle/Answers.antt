-- The gate tells what each image has.
use Rattle.std.proofs.Common.{◌∙◌, ◌+◌, ◌<◌, ◌∷◌, length, refl, sym, arith}
use Rattle.byte_strings.proofs.Fields.{some_is}
use Rattle.journal_records.specs.Spelling.{record_tail, spelled}
use Rattle.record_areas.proofs.Sides.{all_areas, all_kept, all_lost}
use Rattle.record_areas.proofs.area.Area.settle.Goals as goal

pub returns-then-published-clause-settles : goal.returns-then-published-clause-settles
returns-then-published-clause-settles g c = λ frame past it stands.
    let within : frame.start + length (spelled (it ∷ past)) < frame.limit = omega (arith, c.args.self.now.pending_before_limit (frame.start + length (spelled (it ∷ past))) stands.waits, stands.of.limit) in
    let settled = c.in-Ok.ensures.settled frame.start (spelled past) (record_tail it) stands.place
    (all_areas g.D.Disk c.args.disk.now c.is_published.new.disk frame past it within stands.images c.is_published.ensures.goes.images) in
    record {
      idle = refl;
      of = record { start = stands.of.start; limit = stands.of.limit; apart = stands.of.apart };
      place = some_is _ _ (sym c.in-Some.is ∙ stands.waits);
      records = stands.records;
      images = all_kept g.D.Disk c.args.disk.now c.is_published.new.disk frame past it within stands.images c.is_published.ensures.goes.images c.in-Ok.published c.if-published.true settled;
    }

pub returns-clause-settles : goal.returns-clause-settles
returns-clause-settles g c = λ frame past it stands.
    let within : frame.start + length (spelled (it ∷ past)) < frame.limit = omega (arith, c.args.self.now.pending_before_limit (frame.start + length (spelled (it ∷ past))) stands.waits, stands.of.limit) in
    let settled = c.in-Ok.ensures.settled frame.start (spelled past) (record_tail it) stands.place
    (all_areas g.D.Disk c.args.disk.now c.is_published.new.disk frame past it within stands.images c.is_published.ensures.goes.images) in
    record {
      idle = refl;
      of = record { start = stands.of.start; limit = stands.of.limit; apart = stands.of.apart };
      place = stands.place;
      records = stands.records.1;
      images = all_lost g.D.Disk c.args.disk.now c.is_published.new.disk frame past it within stands.images c.is_published.ensures.goes.images c.in-Ok.published c.if-published.false settled;
    }
