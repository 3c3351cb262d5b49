use Rattle.std.proofs.Common.{rules, Bool, true, ◌≡◌, ℕ, false, [], length, take, subst, sym, ◌∙◌, arith}
use Rattle.std.proofs.lemmas.List.{length-take}
use Rattle.ks_outside.specs.Carried.{Carried}
use Rattle.ks_outside.proofs.Carried.{carried_read_ok, carried_read_err}
use Rattle.connections.specs.Talks.{asked}
use Rattle.connections.proofs.Serving.{going_none, going_on, serves_piece, serves_fault, serves_input, serves_cut}
use Rattle.connections.proofs.connection.serve_requests.Goals as goal
use Rattle.connections.proofs.connection.serve_requests.Goals.{then-at_edge, else-at_edge}

-- a test that is true is not false
false_is : {b : Bool} → b ≡ true → b ≡ false → ⊥
false_is yes_it no_it = cc

pub reads-init : goal.reads-init
reads-init g c = record {
  going = going_none g.L.Link g.A.Answerer.answers c.args.link.now c.args.answerer c.new-frames.result c.args.progress.now c.new-frames.ensures.stands c.requires.unjoined c.requires.start;
  client = c.requires.client ∙ sym c.requires.unjoined;
  reach = omega (arith, c.new-frames.ensures.reach);
  few = omega arith;
}

pub returns-in_default-clause-talked : goal.returns-in_default-clause-talked
returns-in_default-clause-talked g c =
    let at = c.reads in
    let read = c.in_default.ensures in
    serves_fault g.L.Link g.A.Answerer.answers c.args.link.now at.link c.args.answerer at.answerer at.frames at.progress at.taken at.invariant.going c.read.new.self
    (carried_read_err g.L.Link at.link c.read.new.self c.read.new.out c.in_default.field-0 read.bytes read.other read.cause)

pub returns-then-count-eq0-clause-talked : goal.returns-then-count-eq0-clause-talked
returns-then-count-eq0-clause-talked g c =
    let at = c.reads in
    let going = at.invariant.going in
    let read = c.in-Ok.ensures in
    let took = carried_read_ok g.L.Link at.link c.read.new.self c.in-Ok.count c.read.new.out read.bytes read.other read.cause in
    let none = subst (λ (n : ℕ). Carried g.L.Link at.link c.read.new.self (take n c.read.new.out) [] false) c.if-count-eq0.true took in
    let over = read.bytes.1 c.if-count-eq0.true (search rules) in
    let edge = c.at_edge.ensures going.stream (asked going.talk) going.follows.stands in
    elim c.if-at_edge.branch [
      | then-at_edge w ↦ rw w.end-is (serves_input g.L.Link g.A.Answerer.answers c.args.link.now at.link c.args.answerer at.answerer at.frames at.progress at.taken going c.read.new.self none over (edge.0 w.if-at_edge.true))
      | else-at_edge w ↦ rw w.end-is (serves_cut g.L.Link g.A.Answerer.answers c.args.link.now at.link c.args.answerer at.answerer at.frames at.progress at.taken going c.read.new.self none over (λ same. absurd (false_is (edge.1 same) w.if-at_edge.false)))
    ]

pub returns-in-Err-clause-talked : goal.returns-in-Err-clause-talked
returns-in-Err-clause-talked g c =
    let at = c.reads in
    let going = at.invariant.going in
    let read = c.in-Ok.ensures in
    let took = carried_read_ok g.L.Link at.link c.read.new.self c.in-Ok.count c.read.new.out read.bytes read.other read.cause in
    let next = c.serve_piece-next in
    serves_piece g.L.Link g.A.Answerer.answers c.args.link.now at.link c.args.answerer at.answerer at.frames at.progress at.taken going c.read.new.self next.new.link next.result.0 _
    next.new.progress c.in-Err.end took ((rw c.in-Err.is at next.ensures.err) going.stream going.talk going.follows)

pub reads-preserved : goal.reads-preserved
reads-preserved g c =
    let at = c.reads in
    let going = at.invariant.going in
    let read = c.in-Ok.ensures in
    let took = carried_read_ok g.L.Link at.link c.read.new.self c.in-Ok.count c.read.new.out read.bytes read.other read.cause in
    let next = c.serve_piece-next in
    let far = next.ensures.reach in
    let long : length (take c.in-Ok.count c.read.new.out) ≡ c.in-Ok.count = omega (arith, read.within, length-take c.in-Ok.count c.read.new.out) in
    record {
      going = going_on g.L.Link g.A.Answerer.answers c.args.link.now at.link c.args.answerer at.answerer at.frames at.progress at.taken going c.read.new.self next.new.link next.result.0 _
          next.new.frames next.new.progress c.in-Ok.count took long ((rw c.in_default-served.is at next.ensures.ok) going.stream going.talk going.follows);
      client = next.ensures.client;
      reach = omega (arith, far, long, at.invariant.reach);
      few = omega (arith, c.reads-test.true, read.within, c.if-count-eq0.array_long);
    }
