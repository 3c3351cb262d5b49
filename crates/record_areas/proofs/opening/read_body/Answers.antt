-- A long body that none begins so.
use Rattle.std.proofs.Common.{◌∙◌, ap, subst, sym}
use Rattle.byte_strings.specs.Codecs.{IsBytes}
use Rattle.record_areas.specs.Frames.{HasNoRecord, bytes_between}
use Rattle.record_areas.specs.Windows.{ahead_of, held_by, may_stand}
use Rattle.record_areas.proofs.Heads.{none_begins, opened_is, opened_more}
use Rattle.record_areas.proofs.opening.read_body.Goals as goal

pub returns-then-not-may_stand-clause-refused : goal.returns-then-not-may_stand-clause-refused
returns-then-not-may_stand-clause-refused g c = λ kinds seen image left.
    let before = held_by c.args.window.now in
    let window = c.fill-2.new.self in
    let opened = opened_more c.args.size before (held_by window) c.requires.bytes c.fill-2.ensures.front (opened_is c.args.size before c.requires.opened) in (
      c.place.ensures ∙ c.fill-2.ensures.place,
      subst (HasNoRecord kinds) (λ i. bytes_between (c.fill-2.ensures.place i) (c.fill-2.ensures.limit i) image)
          (none_begins kinds c.args.size (held_by window) (ahead_of window image) (subst IsBytes c.held.ensures c.may_stand.ensures.bytes) opened (c.fill-2.ensures.seen seen image left)
          (ap (may_stand c.args.size) (sym c.held.ensures) ∙ sym c.may_stand.ensures.stands ∙ c.if-not-may_stand.true)),
    )
