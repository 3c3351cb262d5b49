use Rattle.std.proofs.Common.{rules, ℕ, ◌+◌, ◌≤◌, Bool, ◌||◌, List, length, subst, sym, ap, ◌∙◌, refl, arith}
use Rattle.std.specs.Vec.Iter.{into_iter_items}
use Rattle.rule_model.specs.declared.event.Act.{Act}
use Rattle.wire_frames.specs.Spelling.{body_of, IsRequest}
use Rattle.connections.specs.Steps.{Goes}
use Rattle.connections.proofs.Framed.{request_length}
use Rattle.connections.proofs.Requests.{goes_none, goes_on, next_is, stops_after}
use Rattle.connections.proofs.answering.answer_all.Goals as goal
use Rattle.tags.specs.declared.limits.TheConstants.{FRAME_BYTES}

pub requests-init : goal.requests-init
requests-init g c =
    let first = c.into_iter-left.ensures.rest in
    record {
      goes = subst (λ (l : List Act). Goes g.L.Link g.A.Answerer.answers c.args.link.now c.args.link.now c.args.answerer c.args.answerer c.args.progress.now c.args.progress.now c.args.requests.items l) (sym first)
          (goes_none g.L.Link g.A.Answerer.answers c.args.link.now c.args.answerer c.args.progress.now c.args.requests.items);
      client = c.requires.client;
      count = omega (arith, c.into_iter-left.ensures.len, ap (λ (l : List Act). length l) first);
    }

pub frame_length-size-requires : goal.frame_length-size-requires
frame_length-size-requires g c =
    let is : IsRequest c.in-Some.request = next_is c.args.requests.items (into_iter_items c.requests.left) (into_iter_items c.next.new.self) c.requests.invariant.goes.talk c.in-Some.request c.requires.framed c.requests.invariant.goes.requests_are c.in-Some.ensures.items in
    let small : length (body_of c.in-Some.request) ≤ FRAME_BYTES = is.1 in
    record { short = omega (arith, small) }

pub answer_one-next-requires : goal.answer_one-next-requires
answer_one-next-requires g c = record { framed = next_is c.args.requests.items (into_iter_items c.requests.left) (into_iter_items c.next.new.self) c.requests.invariant.goes.talk c.in-Some.request c.requires.framed c.requests.invariant.goes.requests_are c.in-Some.ensures.items }

pub returns-in-Err-clause-err : goal.returns-in-Err-clause-err
returns-in-Err-clause-err g c =
    let at = c.requests in
    let act = c.in-Some.request in
    let left = into_iter_items c.next.new.self in
    let goes = subst (λ (l : List Act). Goes g.L.Link g.A.Answerer.answers c.args.link.now at.link c.args.answerer at.answerer c.args.progress.now at.progress c.args.requests.items l) c.in-Some.ensures.items at.invariant.goes in
    let one = c.answer_one-next.ensures in
    stops_after g.L.Link g.A.Answerer.answers c.args.link.now at.link c.tell.new.link c.args.answerer at.answerer c.answer_one-next.result.0 c.args.progress.now at.progress c.args.requests.items left act
    c.answer_one-next.result.1 c.answer_one-next.result.2 one.answers one.joins _ c.in-Err.end goes c.in-Err.ensures.err (search rules) refl

pub requests-preserved : goal.requests-preserved
requests-preserved g c =
    let at = c.requests in
    let act = c.in-Some.request in
    let left = into_iter_items c.next.new.self in
    let goes = subst (λ (l : List Act). Goes g.L.Link g.A.Answerer.answers c.args.link.now at.link c.args.answerer at.answerer c.args.progress.now at.progress c.args.requests.items l) c.in-Some.ensures.items at.invariant.goes in
    let one = c.answer_one-next.ensures in
    let is : IsRequest act = next_is c.args.requests.items (into_iter_items at.left) left at.invariant.goes.talk act c.requires.framed at.invariant.goes.requests_are c.in-Some.ensures.items in
    let was = at.invariant.count in
    let shorter = c.in-Some.ensures.len in
    let items = c.in-Some.ensures.items in
    record {
      goes = goes_on g.L.Link g.A.Answerer.answers c.args.link.now at.link c.tell.new.link c.args.answerer at.answerer c.answer_one-next.result.0 c.args.progress.now at.progress c.args.requests.items left act
          c.answer_one-next.result.1 c.answer_one-next.result.2 one.answers one.joins _ goes c.in_default-tell.ensures.ok (search rules) refl (ap (λ (n : ℕ). at.progress.place + n) (c.frame_length-size.ensures.length ∙ request_length act is));
      client = one.client ∙ ap (λ (b : Bool). b || c.answer_one-next.result.2) at.invariant.client;
      count = omega (arith, was, shorter, ap (λ (l : List Act). length l) items);
    }
