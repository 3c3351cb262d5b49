use mathlib.Core.Logic.{∥∥₁_map}
use Rattle.keystore_run.proofs.Tickets.{some_engine, same_jobs}
use Rattle.keystore_run.proofs.session.Session.reserve.Goals as goal

pub next_ticket-next-requires-clause-stands : goal.next_ticket-next-requires-clause-stands
next_ticket-next-requires-clause-stands c = ∥∥₁_map c.args.self.now.stands some_engine

pub invariant_of-self : goal.invariant_of-self
invariant_of-self c = record { stands = ∥∥₁_map c.args.self.now.stands (same_jobs c.reserve.ensures.same) }
