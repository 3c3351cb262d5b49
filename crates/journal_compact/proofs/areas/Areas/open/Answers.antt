-- What was read between the marks is the store.
use Rattle.std.proofs.Common.{refl, sym, ap, ◌∙◌}
use Rattle.std.proofs.lemmas.Result.{err_from_is_err_and}
use Rattle.journal_compact.specs.Stores.{IsAreasFrame, apart_of, frame_of, limit_of, selected_by, start_of}
use Rattle.journal_compact.proofs.Single.{finds_marks, finds_within, has_records, read_within}
use Rattle.journal_compact.proofs.areas.Areas.open.Goals as goal

pub returns-in_err-marks-clause-stands : goal.returns-in_err-marks-clause-stands
returns-in_err-marks-clause-stands g c = λ past fit all told.
    let p = err_from_is_err_and c.from_residual.result c.from_residual.ensures.1 in
    rw (p.1, p.2) (finds_marks g.D.Disk c.args.disk.now c.find_marks.new.disk past c.find_marks.ensures.goes.images all g.met.D.Disk.content_is_image _ c.find_marks.ensures.goes.goes.telling told c.in_err-marks.ensures.missing)

pub returns-in-Ok-clause-reads : goal.returns-in-Ok-clause-reads
returns-in-Ok-clause-reads g c = λ image left.
    let marks = c.in_ok-marks.marks in
    let selected = selected_by marks.selector in
    let frame = frame_of selected marks.version marks.selector in
    let is : IsAreasFrame frame = record { selected = selected; of = record { version = marks.version; newer = c.in_ok-marks.ensures.newer; selector = marks.selector; selects = refl; is = refl } } in
    let found = (rw c.in-Ok.is at c.read.ensures.settled) frame
    (record { start_is = sym (c.start.ensures ∙ ap start_of c.by-selected.ensures); limit_is = sym (c.limit.ensures ∙ ap limit_of c.by-selected.ensures); kinds_is = refl; apart = apart_of selected frame is.of })
    c.in_ok-marks.ensures.marked in
    record { frame = frame; is_frame = is; store = found.images image left }

pub returns-in-Err-clause-reads : goal.returns-in-Err-clause-reads
returns-in-Err-clause-reads g c = λ image left.
    let marks = c.in_ok-marks.marks in
    let selected = selected_by marks.selector in
    let frame = frame_of selected marks.version marks.selector in
    read_within frame c.start.result c.limit.result image c.in-Err.fault
    (record { selected = selected; of = record { version = marks.version; newer = c.in_ok-marks.ensures.newer; selector = marks.selector; selects = refl; is = refl } })
    (sym (c.start.ensures ∙ ap start_of c.by-selected.ensures)) (sym (c.limit.ensures ∙ ap limit_of c.by-selected.ensures))
    (c.in_ok-marks.ensures.marked image (c.read.ensures.goes.images image left)) ((rw c.in-Err.is at c.read.ensures.reads) image left)

pub returns-in-Err-clause-stands : goal.returns-in-Err-clause-stands
returns-in-Err-clause-stands g c = λ past fit all told.
    let marks = c.in_ok-marks.marks in
    let selected = selected_by marks.selector in
    let frame = frame_of selected marks.version marks.selector in
    let has = has_records g.D.Disk c.args.disk.now c.find_marks.new.disk past c.find_marks.ensures.goes.images all frame c.start.result c.limit.result
    (record { selected = selected; of = record { version = marks.version; newer = c.in_ok-marks.ensures.newer; selector = marks.selector; selects = refl; is = refl } })
    (sym (c.start.ensures ∙ ap start_of c.by-selected.ensures)) (sym (c.limit.ensures ∙ ap limit_of c.by-selected.ensures)) c.in_ok-marks.ensures.marked in
    finds_within c.start.result past c.in-Err.fault ((rw c.in-Err.is at c.read.ensures.stands) past fit has (c.find_marks.ensures.goes.goes.telling ∙ told))
