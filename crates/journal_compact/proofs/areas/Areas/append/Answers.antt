-- The area's own append.
use Rattle.std.proofs.Common.{◌∷◌, refl}
use Rattle.std.proofs.lemmas.Bool.{or_from, or_parts}
use Rattle.journal_compact.proofs.Surely.{surely_of}
use Rattle.journal_compact.proofs.areas.Areas.append.Goals as goal

pub returns-in-Ok-clause-appends : goal.returns-in-Ok-clause-appends
returns-in-Ok-clause-appends g c = λ frame past it settled fits is.
    let appends = c.in-Ok.ensures.appends frame past it settled.area fits is in
    record {
      left = record { idle = or_from _ _ (or_parts _ _ c.requires.settled).0 c.in-Ok.ensures.waiting; is_frame = settled.is_frame; area = appends.appended };
      passes = appends.passes;
      nothing = λ sure. tt;
      surely = λ sure. surely_of g.D.Disk _ c.append.new.disk frame (it ∷ past) (c.append.ensures.goes.sure sure) settled.is_frame appends.appended.place appends.appended.images;
    }

pub returns-in-Err-Device-clause-appends : goal.returns-in-Err-Device-clause-appends
returns-in-Err-Device-clause-appends g c = λ frame past it settled fits is.
    let appends = rw c.in-Err-Device.field-0-is at c.in-Err-Device.ensures.appends frame past it settled.area fits is in
    record {
      left = record { idle = (or_parts _ _ c.requires.settled).0; is_frame = settled.is_frame; area = appends.appended };
      passes = appends.passes;
      nothing = λ sure. appends.nothing sure refl;
      surely = λ sure. surely_of g.D.Disk _ c.append.new.disk frame past (c.append.ensures.goes.sure sure) settled.is_frame appends.appended.place (appends.nothing sure refl);
    }
