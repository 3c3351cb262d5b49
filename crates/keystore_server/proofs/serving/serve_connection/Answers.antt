use Rattle.std.proofs.Common.{sym, ap, subst, ◌∙◌}
use Rattle.connections.specs.Ends.{Serves}
use Rattle.connection_workers.specs.Workers.{Completes}
use Rattle.shared_service.specs.declared.pass.Pass.{Pass}
use Rattle.shared_service.specs.Passes.{IsOurs, connected_of, number_of}
use Rattle.keystore_server.specs.Calling.{IsAnswered}
use Rattle.keystore_server.proofs.Chains.{completes_by, serves_by}
use Rattle.keystore_server.proofs.serving.serve_connection.Goals as goal

pub serve_link-caller-requires : goal.serve_link-caller-requires
serve_link-caller-requires g c = record { client = ap (λ (p : Pass g.row.N.Denot g.N.Entropy). connected_of p) c.new-caller.ensures.pass ∙ c.requires.free }

pub returns-clause-serves : goal.returns-clause-serves
returns-clause-serves g c =
    let shared = c.args.shared.now in
    let first = c.new-caller.result in
    let last = c.serve_link-caller.result.0 in
    let ours : IsOurs shared first.pass = subst (λ (p : Pass g.row.N.Denot g.N.Entropy). IsOurs shared p) (sym c.new-caller.ensures.pass) c.requires.ours in
    let all = serves_by first last (λ caller. caller.shared.now) (λ caller. caller.clock.now) (λ caller. caller.pass) g.C.Clock.shows shared c.args.clock.now c.new-caller.ensures.shared c.new-caller.ensures.clock ours
    g.L.Link c.args.link.now c.serve_link-caller.new.link c.serve_link-caller.result.1 c.serve_link-caller.ensures.serves in
    subst (λ (z : Pass g.row.N.Denot g.N.Entropy × Pass g.row.N.Denot g.N.Entropy). Serves g.L.Link (IsAnswered shared (g.C.Clock.shows c.args.clock.now)) c.args.link.now c.serve_link-caller.new.link z.0 z.1 c.serve_link-caller.result.1) (λ i. (c.new-caller.ensures.pass i, sym c.into_pass.ensures i)) all.0

pub returns-clause-ours : goal.returns-clause-ours
returns-clause-ours g c =
    let shared = c.args.shared.now in
    let first = c.new-caller.result in
    let last = c.serve_link-caller.result.0 in
    let ours : IsOurs shared first.pass = subst (λ (p : Pass g.row.N.Denot g.N.Entropy). IsOurs shared p) (sym c.new-caller.ensures.pass) c.requires.ours in
    let all = serves_by first last (λ caller. caller.shared.now) (λ caller. caller.clock.now) (λ caller. caller.pass) g.C.Clock.shows shared c.args.clock.now c.new-caller.ensures.shared c.new-caller.ensures.clock ours
    g.L.Link c.args.link.now c.serve_link-caller.new.link c.serve_link-caller.result.1 c.serve_link-caller.ensures.serves in
    subst (λ (p : Pass g.row.N.Denot g.N.Entropy). IsOurs shared p) (sym c.into_pass.ensures) all.1.ours

pub returns-clause-number : goal.returns-clause-number
returns-clause-number g c =
    let shared = c.args.shared.now in
    let first = c.new-caller.result in
    let last = c.serve_link-caller.result.0 in
    let ours : IsOurs shared first.pass = subst (λ (p : Pass g.row.N.Denot g.N.Entropy). IsOurs shared p) (sym c.new-caller.ensures.pass) c.requires.ours in
    let all = serves_by first last (λ caller. caller.shared.now) (λ caller. caller.clock.now) (λ caller. caller.pass) g.C.Clock.shows shared c.args.clock.now c.new-caller.ensures.shared c.new-caller.ensures.clock ours
    g.L.Link c.args.link.now c.serve_link-caller.new.link c.serve_link-caller.result.1 c.serve_link-caller.ensures.serves in
    ap (λ (p : Pass g.row.N.Denot g.N.Entropy). number_of p) c.into_pass.ensures ∙ (all.1.number_is ∙ ap (λ (p : Pass g.row.N.Denot g.N.Entropy). number_of p) c.new-caller.ensures.pass)

pub returns-clause-free : goal.returns-clause-free
returns-clause-free g c = ap (λ (p : Pass g.row.N.Denot g.N.Entropy). connected_of p) c.into_pass.ensures ∙ c.serve_link-caller.ensures.client

pub returns-clause-complete : goal.returns-clause-complete
returns-clause-complete g c =
    let shared = c.args.shared.now in
    let first = c.new-caller.result in
    let ours : IsOurs shared first.pass = subst (λ (p : Pass g.row.N.Denot g.N.Entropy). IsOurs shared p) (sym c.new-caller.ensures.pass) c.requires.ours in
    let all = completes_by first c.serve_link-caller.result.0 (λ caller. caller.shared.now) (λ caller. caller.clock.now) (λ caller. caller.pass) g.C.Clock.shows shared c.args.clock.now c.new-caller.ensures.shared c.new-caller.ensures.clock ours
    g.L.Link c.args.link.now c.serve_link-caller.new.link c.serve_link-caller.result.1 c.serve_link-caller.ensures.complete in
    subst (λ (p : Pass g.row.N.Denot g.N.Entropy). Completes g.L.Link (IsAnswered shared (g.C.Clock.shows c.args.clock.now)) c.args.link.now c.serve_link-caller.new.link p c.serve_link-caller.result.1) c.new-caller.ensures.pass all
