-- What was read behind the header is the journal.
use Rattle.std.proofs.Common.{◌∙◌}
use Rattle.std.proofs.lemmas.Result.{err_from_is_err_and}
use Rattle.record_areas.specs.Frames.{past_of}
use Rattle.record_areas.specs.Holding.{IsSettledOn}
use Rattle.use_journal.specs.Journal.{journal_frame}
use Rattle.use_journal.proofs.Readings.{finds_behind, finds_header, frame_of, has_records, missed, read_behind}
use Rattle.use_journal.proofs.journal.Journal.open.Goals as goal

pub returns-in-Ok-clause-settled : goal.returns-in-Ok-clause-settled
returns-in-Ok-clause-settled g c = rw c.in-Ok.is at c.read.ensures.settled journal_frame frame_of c.in_ok-find_header.ensures.marked

pub returns-in-Ok-clause-stands : goal.returns-in-Ok-clause-stands
returns-in-Ok-clause-stands g c = λ past fit all told.
    let has = has_records g.D.Disk g.met.D.Disk.content_is_image c.args.disk.now c.find_header.new.disk past c.find_header.ensures.goes.images all in
    rw c.in-Ok.is at c.read.ensures.stands past fit has (c.find_header.ensures.goes.goes.telling ∙ told)

pub returns-in-Err-clause-reads : goal.returns-in-Err-clause-reads
returns-in-Err-clause-reads g c = λ image left.
    read_behind image c.in-Err.fault (c.in_ok-find_header.ensures.marked image (c.read.ensures.goes.images image left)) ((rw c.in-Err.is at c.read.ensures.reads) image left)

pub returns-in-Err-clause-stands : goal.returns-in-Err-clause-stands
returns-in-Err-clause-stands g c = λ past fit all told.
    let has = has_records g.D.Disk g.met.D.Disk.content_is_image c.args.disk.now c.find_header.new.disk past c.find_header.ensures.goes.images all in
    finds_behind past c.in-Err.fault (rw c.in-Err.is at c.read.ensures.stands past fit has (c.find_header.ensures.goes.goes.telling ∙ told))

pub returns-in_err-find_header-clause-reads : goal.returns-in_err-find_header-clause-reads
returns-in_err-find_header-clause-reads g c = λ image left.
    let p = err_from_is_err_and c.from_residual.result c.from_residual.ensures.1 in
    rw (p.1, p.2) (missed image _ (c.in_err-find_header.ensures.missing image left))

pub returns-in_err-find_header-clause-stands : goal.returns-in_err-find_header-clause-stands
returns-in_err-find_header-clause-stands g c = λ past fit all told.
    let p = err_from_is_err_and c.from_residual.result c.from_residual.ensures.1 in
    rw (p.1, p.2) (finds_header g.D.Disk g.met.D.Disk.content_is_image c.args.disk.now c.find_header.new.disk past _ c.find_header.ensures.goes.goes.telling c.find_header.ensures.goes.images all told
    c.in_err-find_header.ensures.missing)

pub invariant_of-result-clause-starts : goal.invariant_of-result-clause-starts
invariant_of-result-clause-starts g c =
    let settled : IsSettledOn g.D.Disk c.in-Ok.area c.read.new.disk journal_frame (past_of c.in-Ok.records) = rw c.in-Ok.is at c.read.ensures.settled journal_frame frame_of c.in_ok-find_header.ensures.marked in
    settled.of.start

pub invariant_of-result-clause-ends : goal.invariant_of-result-clause-ends
invariant_of-result-clause-ends g c =
    let settled : IsSettledOn g.D.Disk c.in-Ok.area c.read.new.disk journal_frame (past_of c.in-Ok.records) = rw c.in-Ok.is at c.read.ensures.settled journal_frame frame_of c.in_ok-find_header.ensures.marked in
    settled.of.limit
