use Rattle.std.proofs.Common.{None}
use Rattle.std.proofs.Math.Logic.{∥∥₁_map}
use Rattle.turn_lock.specs.Resting.{resting_front}
use Rattle.service_book.specs.Book.{log_of}
use Rattle.shared_service.specs.Names.{counts_before}
use Rattle.shared_service.specs.Passes.{front_of, service_lock, service_name}
use Rattle.shared_service.proofs.Answering.{answers}
use Rattle.shared_service.proofs.SecondTurn.{back_ran}
use Rattle.shared_service.proofs.shared.Shared.call.Goals as goal

pub bring_back-requires-clause-back : goal.bring_back-requires-clause-back
bring_back-requires-clause-back g c =
    let away = c.in-Out.away in
    ∥∥₁_map c.in-Out.ensures.asks.1 (back_ran (service_name c.args.self.now) (resting_front away.seat) away.ticket c.in-Out.job c.run-back.result c.run-back.ensures.comes c.run-back.ensures.codes)

pub returns-in-Answered-clause-legal : goal.returns-in-Answered-clause-legal
returns-in-Answered-clause-legal g c setup of =
    let self = c.args.self.now in
    ∥∥₁_map (c.in-Answered.pass.seen (service_lock self) (service_name self) c.in-Answered.ensures.asks.ours.resting) (λ s. s.legal setup of)

pub returns-in-Answered-clause-caused : goal.returns-in-Answered-clause-caused
returns-in-Answered-clause-caused g c =
    let self = c.args.self.now in
    ∥∥₁_map (c.in-Answered.pass.seen (service_lock self) (service_name self) c.in-Answered.ensures.asks.ours.resting) (λ s. s.caused)

pub returns-in-Answered-clause-drew : goal.returns-in-Answered-clause-drew
returns-in-Answered-clause-drew g c =
    let self = c.args.self.now in
    ∥∥₁_map (c.in-Answered.pass.seen (service_lock self) (service_name self) c.in-Answered.ensures.asks.ours.resting) (λ s. s.drew)

pub returns-in-Answered-clause-complete : goal.returns-in-Answered-clause-complete
returns-in-Answered-clause-complete g c setup of =
    let self = c.args.self.now in
    ∥∥₁_map (c.in-Answered.pass.seen (service_lock self) (service_name self) c.in-Answered.ensures.asks.ours.resting)
    (λ s. answers setup None (counts_before (service_name self)) (log_of (front_of c.in-Answered.pass)) (s.legal setup of) s.caused)

pub returns-in-Out-clause-legal : goal.returns-in-Out-clause-legal
returns-in-Out-clause-legal g c setup of =
    let self = c.args.self.now in
    let brought = c.bring_back.ensures.brings c.args.pass c.args.reading c.args.request c.in-Out.ensures.asks.0 in
    ∥∥₁_map (c.bring_back.result.0.seen (service_lock self) (service_name self) brought.ours.resting) (λ s. s.legal setup of)

pub returns-in-Out-clause-caused : goal.returns-in-Out-clause-caused
returns-in-Out-clause-caused g c =
    let self = c.args.self.now in
    let brought = c.bring_back.ensures.brings c.args.pass c.args.reading c.args.request c.in-Out.ensures.asks.0 in
    ∥∥₁_map (c.bring_back.result.0.seen (service_lock self) (service_name self) brought.ours.resting) (λ s. s.caused)

pub returns-in-Out-clause-drew : goal.returns-in-Out-clause-drew
returns-in-Out-clause-drew g c =
    let self = c.args.self.now in
    let brought = c.bring_back.ensures.brings c.args.pass c.args.reading c.args.request c.in-Out.ensures.asks.0 in
    ∥∥₁_map (c.bring_back.result.0.seen (service_lock self) (service_name self) brought.ours.resting) (λ s. s.drew)

pub returns-in-Out-clause-complete : goal.returns-in-Out-clause-complete
returns-in-Out-clause-complete g c setup of =
    let self = c.args.self.now in
    let brought = c.bring_back.ensures.brings c.args.pass c.args.reading c.args.request c.in-Out.ensures.asks.0 in
    ∥∥₁_map (c.bring_back.result.0.seen (service_lock self) (service_name self) brought.ours.resting)
    (λ s. answers setup None (counts_before (service_name self)) (log_of (front_of c.bring_back.result.0)) (s.legal setup of) s.caused)
