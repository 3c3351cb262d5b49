-- A snapshot is written beside, and then the store turns.
use Rattle.std.proofs.Common.{◌+◌, ℕ, refl, sym, ap, ◌∙◌, arith}
use Rattle.std.specs.Prelude.{reverse}
use Rattle.ks_outside.proofs.Joins.{passes_as, passes_on}
use Rattle.journal_records.specs.Storable.{snapshot}
use Rattle.record_areas.specs.Frames.{IsStore}
use Rattle.journal_compact.specs.Holding.{IsOneOf}
use Rattle.journal_compact.specs.Stores.{other, start_of}
use Rattle.journal_compact.specs.Turning.{IsEither}
use Rattle.journal_compact.proofs.Kept.{one_of_either, one_of_store, placed, renewed, rows_are}
use Rattle.journal_compact.proofs.Surely.{settled_surely, surely_in, surely_of}
use Rattle.journal_compact.proofs.Whole.{snapshot_within}
use Rattle.journal_compact.proofs.areas.Areas.compact.Goals as goal

pub at-area-requires : goal.at-area-requires
at-area-requires g c = omega (arith, c.in-Ok.ensures.end, snapshot_within (g.K.Held.part c.args.keys.now) c.requires.storable, c.limit.ensures, ap start_of c.other-selected.ensures)

pub returns-in_default-clause-compacts : goal.returns-in_default-clause-compacts
returns-in_default-clause-compacts g c = λ frame past is.
    let part = g.K.Held.part c.args.keys.now in
    let rows = reverse (snapshot part) in
    record {
      left = record {
        is_frame = is.is_frame;
        area = placed g.D.Disk c.args.self.now c.args.disk.now frame past is;
        rows_are = rows_are g.D.Disk c.args.self.now c.args.disk.now frame past is rows (c.storable_law.ensures.spells part c.requires.storable).0;
        images = c.put_beside.ensures.stays frame past is.is_frame is.area.images;
      };
      passes = passes_as g.D.Disk c.args.disk.now c.put_beside.new.disk (IsStore frame past) (IsOneOf past rows) (c.put_beside.ensures.passes frame past is.is_frame is.area.images)
          (λ image store. one_of_store c.args.self.now.selected frame past rows image is.is_frame store);
      surely = λ sure. surely_of g.D.Disk _ c.put_beside.new.disk frame past (c.put_beside.ensures.goes.sure sure) is.is_frame is.area.place (c.put_beside.ensures.stays frame past is.is_frame is.area.images);
    }

pub returns-in_default-turn_from-clause-compacts : goal.returns-in_default-turn_from-clause-compacts
returns-in_default-turn_from-clause-compacts g c = λ frame past is.
    let part = g.K.Held.part c.args.keys.now in
    let rows = reverse (snapshot part) in
    let spells = c.storable_law.ensures.spells part c.requires.storable in
    let both = c.in-Ok.ensures.beside frame past is.is_frame is.area.images in
    record {
      left = record {
        is_frame = is.is_frame;
        area = placed g.D.Disk c.args.self.now c.args.disk.now frame past is;
        rows_are = rows_are g.D.Disk c.args.self.now c.args.disk.now frame past is rows spells.0;
        images = (record { place = c.at-area.ensures.end ∙ c.in-Ok.ensures.end ∙ ap (λ (n : ℕ). start_of (other c.args.self.now.selected) + n) (sym spells.1) }, c.turn_from.ensures.either frame past rows is.is_frame both);
      };
      passes = passes_on g.D.Disk c.args.disk.now c.put_beside.new.disk c.turn_from.new.disk (IsStore frame past) (IsEither is.is_frame.version c.args.self.now.selected past rows) (IsOneOf past rows)
          (c.put_beside.ensures.passes frame past is.is_frame is.area.images) (c.turn_from.ensures.passes frame past rows is.is_frame both)
          (λ image store. one_of_store c.args.self.now.selected frame past rows image is.is_frame store)
          (λ image either. one_of_either is.is_frame.version c.args.self.now.selected past rows image is.is_frame.newer either);
      surely = λ sure. surely_in g.D.Disk _ c.turn_from.new.disk frame past (c.turn_from.ensures.goes.sure (c.put_beside.ensures.goes.sure sure)) is.is_frame is.area.place
          (c.in_default-turn_from.ensures.nothing frame past rows is.is_frame both (c.put_beside.ensures.goes.sure sure));
    }

pub returns-clause-compacts : goal.returns-clause-compacts
returns-clause-compacts g c = λ frame past is.
    let part = g.K.Held.part c.args.keys.now in
    let rows = reverse (snapshot part) in
    let spells = c.storable_law.ensures.spells part c.requires.storable in
    let both = c.in-Ok.ensures.beside frame past is.is_frame is.area.images in
    let left = renewed g.D.Disk c.args.self.now c.args.disk.now frame past is _ c.turn_from.new.disk rows refl c.other-selected.ensures c.at-area.ensures.idle
    (c.at-area.ensures.start ∙ c.start.ensures) (c.at-area.ensures.limit ∙ c.limit.ensures)
    (c.at-area.ensures.end ∙ c.in-Ok.ensures.end ∙ ap (λ (n : ℕ). start_of (other c.args.self.now.selected) + n) (sym spells.1)) spells.0 (c.in-Ok-turn_from.ensures.turned frame past rows is.is_frame both) in
    record {
      left = left;
      passes = passes_on g.D.Disk c.args.disk.now c.put_beside.new.disk c.turn_from.new.disk (IsStore frame past) (IsEither is.is_frame.version c.args.self.now.selected past rows) (IsOneOf past rows)
          (c.put_beside.ensures.passes frame past is.is_frame is.area.images) (c.turn_from.ensures.passes frame past rows is.is_frame both)
          (λ image store. one_of_store c.args.self.now.selected frame past rows image is.is_frame store)
          (λ image either. one_of_either is.is_frame.version c.args.self.now.selected past rows image is.is_frame.newer either);
      surely = λ sure. settled_surely g.D.Disk _ c.turn_from.new.disk left.frame rows (c.turn_from.ensures.goes.sure (c.put_beside.ensures.goes.sure sure)) left.settled;
    }
