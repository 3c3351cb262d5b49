use Rattle.std.proofs.Common.{rules, ◌≡◌, ◌+◌, [], ◌∷◌, ◌++◌, drop, arith, sym, ap, ◌∙◌, subst, refl}
use Rattle.std.specs.List.{AllByRecursion}
use Rattle.wire_frames.specs.Spelling.{IsRequest}
use Rattle.wire_frames.specs.Streams.{IsPart, stream_of}
use Rattle.byte_strings.specs.Codecs.{IsBytes}
use Rattle.wire_frames.proofs.Filling.{behind_is}
use Rattle.wire_frames.proofs.Going.{each_append, read_part, read_bad, round, part_here, bad_here}
use Rattle.wire_frames.proofs.texts.read_on.Goals as goal

pub overflow_add-used : goal.overflow_add-used
overflow_add-used c =
    let i = c.loop-used.invariant in
    let fits : IsBytes c.args.bytes.now = λ i. omega (arith, c.type_inv.bytes i) in
    let r = round c.loop-used.requests.items c.in-Whole.request c.args.bytes.now c.loop-used.used c.in-Whole.size _ fits i.within i.whole (sym c.in_ok-request.ensures ∙ c.in-Whole.is) in
    let within = r.within in
    search (rules, within)

pub loop-used-smaller : goal.loop-used-smaller
loop-used-smaller c =
    let i = c.loop-used.invariant in
    let fits : IsBytes c.args.bytes.now = λ i. omega (arith, c.type_inv.bytes i) in
    let r = round c.loop-used.requests.items c.in-Whole.request c.args.bytes.now c.loop-used.used c.in-Whole.size _ fits i.within i.whole (sym c.in_ok-request.ensures ∙ c.in-Whole.is) in
    let within = r.within in
    let some = r.some in
    omega (arith, within, some)

pub loop-used-preserved : goal.loop-used-preserved
loop-used-preserved c =
    let i = c.loop-used.invariant in
    let fits : IsBytes c.args.bytes.now = λ i. omega (arith, c.type_inv.bytes i) in
    let r = round c.loop-used.requests.items c.in-Whole.request c.args.bytes.now c.loop-used.used c.in-Whole.size _ fits i.within i.whole (sym c.in_ok-request.ensures ∙ c.in-Whole.is) in
    let pushed : c.push.new.self.items ≡ c.loop-used.requests.items ++ c.in-Whole.request ∷ [] = search rules in record {
      within = r.within;
      whole = ap (λ l. stream_of l (drop (c.loop-used.used + c.in-Whole.size) c.args.bytes.now)) pushed ∙ r.whole;
      each = subst (AllByRecursion IsRequest) (sym pushed) (each_append c.loop-used.requests.items (c.in-Whole.request ∷ []) i.each (r.request, tt));
    }

pub held_of-requires : goal.held_of-requires
held_of-requires c = subst IsPart (sym (behind_is c.loop-used.used c.args.bytes.now)) (part_here c.args.bytes.now c.loop-used.used c.in-Part.field-0 (sym c.in_ok-request.ensures ∙ c.in-Part.is))

pub returns-in-Part : goal.returns-in-Part
returns-in-Part c =
    let i = c.loop-used.invariant in
    read_part c.args.bytes.now _ refl i.within i.whole i.each (c.in_ok-tail-in-Part.ensures ∙ behind_is c.loop-used.used c.args.bytes.now) (part_here c.args.bytes.now c.loop-used.used c.in-Part.field-0 (sym c.in_ok-request.ensures ∙ c.in-Part.is))

pub returns-in-Bad : goal.returns-in-Bad
returns-in-Bad c =
    let i = c.loop-used.invariant in
    read_bad c.args.bytes.now _ refl i.within i.whole i.each c.new.ensures (bad_here c.args.bytes.now c.loop-used.used (sym c.in_ok-request.ensures ∙ c.in-Bad.is))
