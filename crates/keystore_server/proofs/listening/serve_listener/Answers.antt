use Rattle.std.proofs.Common.{arith}
use mir.Syntax.{named, of_param}
use denote.Exit.{no}
use denote.Param.{param}
use denote.Param.Send.{Quiet-if}
use Rattle.keystore_server.proofs.Sending.{caller_send}
use Rattle.keystore_server.proofs.Pairing.{all_answered, all_free, listened, none_listened, passes_unserved}
use Rattle.keystore_server.proofs.listening.serve_listener.Goals as goal

pub serve_by-listener-requires-clause-some : goal.serve_by-listener-requires-clause-some
serve_by-listener-requires-clause-some g c = omega (arith, c.requires.some, c.add_workers.ensures.paired.count)

pub serve_by-listener-requires-clause-free : goal.serve_by-listener-requires-clause-free
serve_by-listener-requires-clause-free g c κs within =
    all_free c.add_workers.new.workers.items (λ caller. caller.shared.now) (λ caller. caller.clock.now) (λ caller. caller.pass) c.args.shared.now c.args.clock.now c.args.passes.items c.add_workers.ensures.paired c.requires.idle

pub take_passes-requires-clause-answered : goal.take_passes-requires-clause-answered
take_passes-requires-clause-answered g c =
    all_answered c.add_workers.new.workers.items (λ caller. caller.shared.now) (λ caller. caller.clock.now) (λ caller. caller.pass) c.args.shared.now c.args.clock.now g.C.Clock.shows g.B.L.Link g.B.HangsUp.leaves
    c.serve_by-listener.ensures.served.arrivals c.serve_by-listener.new.workers.items c.serve_by-listener.ensures.count c.serve_by-listener.ensures.served.served
    (all_free c.add_workers.new.workers.items (λ caller. caller.shared.now) (λ caller. caller.clock.now) (λ caller. caller.pass) c.args.shared.now c.args.clock.now c.args.passes.items c.add_workers.ensures.paired c.requires.idle)

pub returns-in_default-clause-served : goal.returns-in_default-clause-served
returns-in_default-clause-served g c =
    none_listened g.B.L.Link c.args.shared.now (g.C.Clock.shows c.args.clock.now) g.B.HangsUp.leaves g.B.Listener c.args.connections c.args.listener c.args.passes.items c.requires.ours c.requires.idle

pub returns-in_default-with_capacity-clause-served : goal.returns-in_default-with_capacity-clause-served
returns-in_default-with_capacity-clause-served g c =
    none_listened g.B.L.Link c.args.shared.now (g.C.Clock.shows c.args.clock.now) g.B.HangsUp.leaves g.B.Listener c.args.connections c.args.listener c.args.passes.items c.requires.ours c.requires.idle

pub returns-clause-served : goal.returns-clause-served
returns-clause-served g c =
    listened c.add_workers.new.workers.items (λ caller. caller.shared.now) (λ caller. caller.clock.now) (λ caller. caller.pass) c.args.shared.now c.args.clock.now g.C.Clock.shows g.B.L.Link g.B.HangsUp.leaves g.B.Listener c.args.connections c.args.listener
    c.serve_by-listener.result.0 c.serve_by-listener.result.1 c.serve_by-listener.new.workers.items c.args.passes.items c.take_passes.new.passes.items c.serve_by-listener.ensures.count c.serve_by-listener.ensures.served
    c.requires.ours c.add_workers.ensures.paired c.take_passes.ensures.paired

pub returns-clause-unserved : goal.returns-clause-unserved
returns-clause-unserved g c = λ wanting.
    passes_unserved c.add_workers.new.workers.items (λ caller. caller.shared.now) (λ caller. caller.clock.now) (λ caller. caller.pass) c.args.shared.now c.args.clock.now c.args.passes.items c.take_passes.new.passes.items c.serve_by-listener.new.workers.items
    c.add_workers.ensures.paired (c.serve_by-listener.ensures.unserved wanting) c.take_passes.ensures.paired

pub serve_by-listener-requires-send-A : goal.serve_by-listener-requires-send-A
serve_by-listener-requires-send-A g c κs within =
    let caller = caller_send (param 2 g.row.D) (param 3 g.row.N) (param 4 g.row.C) (param 5 g.row.G) g.D.Disk g.N.Entropy (record { mir = named 4; lft = κs.1.1.1.1.0 })
    c.type_bounds.send-D c.type_bounds.send-N c.type_bounds.sync-C c.type_bounds.sync-G in
    record { owned = caller.owned; leaving = λ k. Quiet-if (k (of_param 2)) _ _ (caller.leaving no) (λ x w. tt) }
