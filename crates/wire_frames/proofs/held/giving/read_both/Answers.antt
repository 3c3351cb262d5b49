use Rattle.std.proofs.Common.{rules, ◌≡◌, ◌+◌, ◌∷◌, length, drop, None, Some, true, false, refl, ap, ◌∙◌, arith}
use Rattle.rule_model.specs.Acts.{is_asked}
use Rattle.wire_frames.specs.Streams.{whole_in}
use Rattle.wire_frames.specs.Reading.{act_in}
use Rattle.wire_frames.specs.PartialFrames.{bytes_in, kept_act}
use Rattle.byte_strings.specs.Codecs.{IsBytes}
use Rattle.byte_strings.proofs.Fields.{IsBytes-drop}
use Rattle.wire_frames.proofs.Bodies.{act_takes, framed_asked}
use Rattle.wire_frames.proofs.Fronts.{bad_is, whole_is}
use Rattle.wire_frames.proofs.Going.{full_front, held_bad, held_whole}
use Rattle.wire_frames.proofs.held.giving.read_both.Goals as goal

pub returns-in-Err-Bad-clause-read : goal.returns-in-Err-Bad-clause-read
returns-in-Err-Bad-clause-read c =
    let held = bytes_in c.args.held.now in
    let none : act_in (drop 4 held) ≡ None = rw c.in-Err-Bad.field-0-is at c.in-Err-Bad.ensures.read in
    held_bad held c.args.more.now c.bad.result c.bad.ensures.shut c.bad.ensures.used c.bad.ensures.requests c.bad.ensures.tail
    (bad_is held (full_front held c.requires ∙ ap (λ o. whole_in o (length held)) none))

pub returns-clause-read : goal.returns-clause-read
returns-clause-read c =
    let held = bytes_in c.args.held.now in
    let act = kept_act c.in-Ok.kept c.args.held.now.input.items in
    let fits : IsBytes held = λ i. omega (arith, c.in-Ok.ensures.fits i) in
    let some : act_in (drop 4 held) ≡ Some act = c.in-Ok.ensures.read in
    let front = whole_is held act (length held) fits (full_front held c.requires ∙ ap (λ o. whole_in o (length held)) some) in
    let first : c.put_first.new.requests.items ≡ act ∷ c.in_ok-outcome.outcome.requests.items = search rules in
    held_whole held c.args.more.now act c.in_ok-outcome.outcome _ front c.in_ok-outcome.ensures first (ap (λ k. c.in_ok-outcome.outcome.used + k) c.len-used.ensures) refl refl

pub unreachable-requires : goal.unreachable-requires
unreachable-requires c =
    let held = bytes_in c.args.held.now in
    let act = kept_act c.in-Ok.kept c.args.held.now.input.items in
    let fits : IsBytes held = λ i. omega (arith, c.in-Ok.ensures.fits i) in
    let some : act_in (drop 4 held) ≡ Some act = c.in-Ok.ensures.read in
    let takes = act_takes (drop 4 held) act (IsBytes-drop 4 held fits) some in
    let never : false ≡ true = c.in_default.ensures.some.1 (ap is_asked c.give.ensures ∙ framed_asked act takes.1) in
    absurd cc
