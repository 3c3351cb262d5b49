use Rattle.std.proofs.Common.{ℕ, [], sym, subst, arith}
use Rattle.std.proofs.Math.Logic.{∥∥₁_map}
use Rattle.keystore_core.specs.declared.engine.Engine.{Engine}
use Rattle.keystore_core.specs.Engine.{Stands}
use Rattle.service_book.specs.Book.{history_of, log_of}
use Rattle.shared_service.specs.Drawn.{DrewAll}
use Rattle.shared_service.specs.Passes.{HasAll, IsSetupOf, start_of}
use Rattle.keystore_core.specs.Opening.{store_images}
use Rattle.keystore_server.proofs.Endings.{attended}
use Rattle.keystore_server.proofs.Numbering.{all_idle, all_numbers, all_ours}
use Rattle.keystore_server.proofs.Parting.{none_connected}
use Rattle.keystore_server.proofs.Working.{all_below, has_worked, unserved_empty}
use Rattle.keystore_server.proofs.service.serve_opened.Goals as goal

pub close-engine-requires-clause-ours : goal.close-engine-requires-clause-ours
close-engine-requires-clause-ours g c = all_ours g.B.L.Link c.in-Ok.shared (g.C.Clock.shows c.args.clock.now) g.B.HangsUp.leaves c.serve_listener-passes.ensures.served.arrivals c.in-Ok.passes.items c.serve_listener-passes.result.0.items c.serve_listener-passes.ensures.served.served

pub close-engine-requires-clause-all : goal.close-engine-requires-clause-all
close-engine-requires-clause-all g c =
    subst (λ (m : ℕ). HasAll m c.serve_listener-passes.result.0.items) (sym c.in-Ok.ensures.count.0)
    (all_numbers g.B.L.Link c.in-Ok.shared (g.C.Clock.shows c.args.clock.now) g.B.HangsUp.leaves c.serve_listener-passes.ensures.served.arrivals c.in-Ok.passes.items c.serve_listener-passes.result.0.items c.serve_listener-passes.ensures.served.served _ c.in-Ok.ensures.all)

pub returns-in-Ok : goal.returns-in-Ok
returns-in-Ok g c = record {
  serves = λ setup stands.
      let of : IsSetupOf c.in-Ok.shared setup = subst (λ (e : Engine). Stands setup e []) (sym c.in-Ok.ensures.engine) stands in
      let served = c.serve_listener-passes.ensures.served in
      let closed = c.close-engine.ensures in
      let count = c.in-Ok.ensures.count in
      attended g.B.Listener g.B.L.Link g.D.Disk g.N.Entropy (g.C.Clock.shows c.args.clock.now) g.B.HangsUp.leaves setup c.args.form c.args.listener c.args.disk c.args.entropy c.serve_listener-passes.result.1 c.close-engine.result.1 c.close-engine.result.2 c.serve_listener-passes.result.2
      c.status_after.result c.close-engine.result.3 (start_of c.in-Ok.shared) c.from-connections.result served.arrivals c.status_after.ensures c.from-connections.ensures served.attended
      (closed.legal setup of) c.in-Ok.ensures.counts closed.caused closed.counts
      (all_below c.args.form.workers c.close-engine.result.3 (λ number more. closed.none number (omega (arith, more, count.0))))
      (λ number less. has_worked g.B.L.Link c.in-Ok.shared (g.C.Clock.shows c.args.clock.now) g.B.HangsUp.leaves served.arrivals c.in-Ok.passes.items c.serve_listener-passes.result.0.items c.close-engine.result.3 served.served c.in-Ok.ensures.numbers c.in-Ok.ensures.new closed.fronts closed.own number (omega (arith, less, count.1)))
      (λ number past. served.others number (omega (arith, past, count.1)))
      (λ wanting. unserved_empty _ c.in-Ok.passes.items c.serve_listener-passes.result.0.items c.close-engine.result.3 (c.serve_listener-passes.ensures.unserved wanting) count.1
      c.in-Ok.ensures.numbers c.in-Ok.ensures.new closed.own (λ number more. closed.none number (omega (arith, more, count.0))))
      (none_connected c.in-Ok.shared c.close-engine.result.3 _ c.serve_listener-passes.result.0.items (all_numbers g.B.L.Link c.in-Ok.shared (g.C.Clock.shows c.args.clock.now) g.B.HangsUp.leaves c.serve_listener-passes.ensures.served.arrivals c.in-Ok.passes.items c.serve_listener-passes.result.0.items served.served _ c.in-Ok.ensures.all)
      (all_ours g.B.L.Link c.in-Ok.shared (g.C.Clock.shows c.args.clock.now) g.B.HangsUp.leaves c.serve_listener-passes.ensures.served.arrivals c.in-Ok.passes.items c.serve_listener-passes.result.0.items served.served) (all_idle g.B.L.Link c.in-Ok.shared (g.C.Clock.shows c.args.clock.now) g.B.HangsUp.leaves c.serve_listener-passes.ensures.served.arrivals c.in-Ok.passes.items c.serve_listener-passes.result.0.items served.served) closed.own
      (λ number more. closed.none number (omega (arith, more, count.0))))
      (∥∥₁_map (closed.store setup of) (λ s. store_images g.D.Disk setup c.close-engine.result.0 c.close-engine.result.1 (history_of (log_of c.close-engine.result.3)) s))
      (subst (λ (begin : g.row.N.Denot). ∥ DrewAll g.N.Entropy begin c.close-engine.result.2 c.close-engine.result.3 ∥₁) c.in-Ok.ensures.entropy closed.drew);
}
