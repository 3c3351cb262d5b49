-- What stands first, once its gate and its length were read.
use Rattle.std.proofs.Common.{◌∙◌, ap, subst, sym}
use Rattle.std.proofs.lemmas.Result.{err_from_is_err_and}
use Rattle.record_areas.specs.Frames.{HasNoRecord, bytes_between}
use Rattle.record_areas.specs.Windows.{ahead_of, head_of, held_by, place_of}
use Rattle.record_areas.proofs.Heads.{broken_is, unplaced}
use Rattle.record_areas.proofs.opening.next_record.Goals as goal

pub returns-in_err-fill-clause-reads : goal.returns-in_err-fill-clause-reads
returns-in_err-fill-clause-reads g c = λ seen image left.
    let p = err_from_is_err_and c.from_residual.result c.from_residual.ensures.1 in
    rw (p.1, p.2) (unplaced c.args.kinds (place_of c.args.window.now) (ahead_of c.args.window.now image) _ c.in_err-fill.ensures.fault)

pub returns-in-Broken-clause-reads : goal.returns-in-Broken-clause-reads
returns-in-Broken-clause-reads g c = λ seen image left.
    let window = c.fill.new.self in (
      c.place.ensures ∙ c.fill.ensures.place,
      subst (HasNoRecord c.args.kinds) (λ i. bytes_between (c.fill.ensures.place i) (c.fill.ensures.limit i) image)
          (broken_is c.args.kinds (held_by window) (ahead_of window image) (ap head_of (sym c.held.ensures) ∙ sym c.head_of.ensures.head ∙ c.in-Broken.is)
          (c.in_ok-fill.ensures.enough seen image left)),
    )
