-- What stands first, once its body was read.
use Rattle.std.proofs.Common.{◌∙◌, ◌++◌, ◌≤◌, ℕ, Err, ap, arith, length, subst, sym, take}
use Rattle.std.proofs.lemmas.Result.{err_from_is_err_and}
use Rattle.journal_records.specs.Spelling.{record_framed}
use Rattle.record_areas.specs.Frames.{HasNoRecord, bytes_between}
use Rattle.record_areas.specs.Windows.{ahead_of, held_by, limit_of, place_of}
use Rattle.record_areas.proofs.Heads.{no_body, opened_is, opened_more, taken_reads, taken_seen, too_long}
use Rattle.record_areas.proofs.Seeing.{between_long}
use Rattle.record_areas.proofs.opening.read_sized.Goals as goal

pub returns-then-from-most-clause-reads : goal.returns-then-from-most-clause-reads
returns-then-from-most-clause-reads g c = λ seen image left.
    let window = c.args.window.now in
    let few : length (ahead_of window image) ≤ c.most.result = omega (arith, between_long (place_of window) (limit_of window) image, c.most.ensures) in (
      c.place-at.ensures,
      too_long c.args.kinds c.args.size c.most.result (held_by window) (ahead_of window image) c.requires.bytes (opened_is c.args.size (held_by window) c.requires.opened) (seen image left) few
          (omega (arith, c.if-from-most.true, c.from.ensures)),
    )

pub returns-in_err-read_body-clause-reads : goal.returns-in_err-read_body-clause-reads
returns-in_err-read_body-clause-reads g c = λ seen image left.
    let p = err_from_is_err_and c.from_residual.result c.from_residual.ensures.1 in
    rw (p.1, p.2) (c.in_err-read_body.ensures.refused c.args.kinds seen image left)

pub returns-in-Ok-clause-seen : goal.returns-in-Ok-clause-seen
returns-in-Ok-clause-seen g c = λ seen image left.
    let window = c.read_body.new.window in
    let next = c.take_record.new.window in
    let opened = opened_more c.args.size (held_by c.args.window.now) (held_by window) c.requires.bytes c.read_body.ensures.front (opened_is c.args.size (held_by c.args.window.now) c.requires.opened) in
    taken_seen c.in-Ok.it c.args.size (place_of window) (limit_of window) (place_of next) (held_by window) (held_by next) image opened (c.read_body.ensures.seen seen image left)
    c.in-Ok.ensures.taken.2 c.in-Ok.ensures.taken.1
    ∙ ap (λ (k : ℕ). take (length (held_by next)) (bytes_between (place_of next) k image)) (sym c.take_record.ensures.limit)

pub returns-in-Ok-clause-reads : goal.returns-in-Ok-clause-reads
returns-in-Ok-clause-reads g c = λ seen image left.
    let window = c.read_body.new.window in
    let next = c.take_record.new.window in
    let opened = opened_more c.args.size (held_by c.args.window.now) (held_by window) c.requires.bytes c.read_body.ensures.front (opened_is c.args.size (held_by c.args.window.now) c.requires.opened) in
    (λ i. bytes_between (sym c.read_body.ensures.place i) (sym c.read_body.ensures.limit i) image)
    ∙ taken_reads c.in-Ok.it c.args.size (place_of window) (limit_of window) (place_of next) (held_by window) (held_by next) image opened (c.read_body.ensures.seen seen image left)
    c.in-Ok.ensures.taken.2 c.in-Ok.ensures.taken.1
    ∙ ap (λ (k : ℕ). record_framed c.in-Ok.it ++ bytes_between (place_of next) k image) (sym c.take_record.ensures.limit)

pub returns-in-Err-Bad-clause-reads : goal.returns-in-Err-Bad-clause-reads
returns-in-Err-Bad-clause-reads g c = λ seen image left.
    let window = c.read_body.new.window in
    let opened = opened_more c.args.size (held_by c.args.window.now) (held_by window) c.requires.bytes c.read_body.ensures.front (opened_is c.args.size (held_by c.args.window.now) c.requires.opened) in (
      c.place-at.ensures,
      subst (HasNoRecord c.args.kinds) (λ i. bytes_between (c.read_body.ensures.place i) (c.read_body.ensures.limit i) image)
          (no_body c.args.kinds c.args.size (held_by window) (ahead_of window image) c.take_record.ensures.bytes opened (c.read_body.ensures.seen seen image left)
          (c.in_ok-read_body.ensures.enough seen image left) (c.in-Err-Bad.ensures.bad (ap Err c.in-Err-Bad.field-0-is))),
    )
