-- Both areas have records while the selector is written; then the one that is left may hold anything.
use Rattle.std.proofs.Common.{sym, subst}
use Rattle.ks_outside.proofs.Joins.{passes_on}
use Rattle.journal_compact.specs.declared.places.Selected.{Selected}
use Rattle.journal_compact.specs.Stores.{IsFrameOf, byte_of, frame_of, limit_of, other, start_of}
use Rattle.record_areas.specs.Frames.{HasRecords}
use Rattle.journal_compact.specs.Turning.{IsEither}
use Rattle.journal_compact.proofs.Surely.{fewer_on_err}
use Rattle.journal_compact.proofs.Turns.{on_ok, turned_either, turned_frame}
use Rattle.journal_compact.proofs.turning.turn_from.Goals as goal

pub returns-clause-turned : goal.returns-clause-turned
returns-clause-turned g c = λ frame past rows of all.
    let selected = c.args.selected in
    let is = subst (λ (s : Selected). IsFrameOf s (frame_of (other selected) of.version (byte_of (other selected)))) (sym c.other.ensures) (turned_frame selected frame of) in
    on_ok c.seal_other.result _ (c.seal_other.ensures.stays _ rows is (c.in-Ok.ensures.turned frame past rows of all))

pub returns-clause-either : goal.returns-clause-either
returns-clause-either g c = λ frame past rows of all image left.
    let selected = c.args.selected in
    let is = subst (λ (s : Selected). IsFrameOf s (frame_of (other selected) of.version (byte_of (other selected)))) (sym c.other.ensures) (turned_frame selected frame of) in
    turned_either selected of.version past rows image (c.seal_other.ensures.stays _ rows is (c.in-Ok.ensures.turned frame past rows of all) image left)

pub returns-clause-passes : goal.returns-clause-passes
returns-clause-passes g c = λ frame past rows of all.
    let selected = c.args.selected in
    let is = subst (λ (s : Selected). IsFrameOf s (frame_of (other selected) of.version (byte_of (other selected)))) (sym c.other.ensures) (turned_frame selected frame of) in
    passes_on g.D.Disk c.args.disk.now c.select_other.new.disk c.seal_other.new.disk _ _ (IsEither of.version selected past rows) (c.select_other.ensures.passes frame past rows of all)
    (c.seal_other.ensures.passes _ rows is (c.in-Ok.ensures.turned frame past rows of all)) (λ image either. either) (λ image store. turned_either selected of.version past rows image store)

pub returns-in_default-clause-nothing : goal.returns-in_default-clause-nothing
returns-in_default-clause-nothing g c = λ frame past rows of all sure. c.select_other.ensures.beside frame past rows of all

pub returns-clause-nothing : goal.returns-clause-nothing
returns-clause-nothing g c = λ frame past rows of all sure.
    fewer_on_err g.D.Disk c.seal_other.result c.select_other.new.disk c.seal_other.new.disk (HasRecords (start_of c.args.selected) (limit_of c.args.selected) past)
    (c.seal_other.ensures.nothing (c.select_other.ensures.goes.sure sure)) (c.select_other.ensures.beside frame past rows of all)
