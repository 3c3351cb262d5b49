use Rattle.std.proofs.Common.{◌+◌, sym, ◌∙◌, subst, arith}
use mathlib.Core.Logic.{∥∥₁_map}
use Rattle.keystore_core.specs.Engine.{tickets_of}
use Rattle.keystore_run.specs.Jobs.{Holds}
use Rattle.keystore_run.proofs.KeepLemmas.{keeps_step}
use Rattle.keystore_run.proofs.Tickets.{few_made, held_on, may_go, not_leave, some_engine}
use Rattle.keystore_run.proofs.session.Session.step.Goals as goal

pub next_ticket-next-requires-clause-stands : goal.next_ticket-next-requires-clause-stands
next_ticket-next-requires-clause-stands g c = ∥∥₁_map c.args.self.now.stands some_engine

pub step-settled-requires-clause-takes : goal.step-settled-requires-clause-takes
step-settled-requires-clause-takes g c = ∥∥₁_map c.args.self.now.stands (may_go (sym c.ticket.ensures ∙ c.in_default.is))

pub invariant_of-self : goal.invariant_of-self
invariant_of-self g c = record {
  stands = ∥∥₁_map c.args.self.now.stands (λ is. let done = not_leave is.setup is.past c.args.event.act (sym c.ticket.ensures ∙ c.in_default.is) in record {
    setup = is.setup;
    past = _;
    stands = c.step-settled.ensures.stands is.setup is.past is.stands done;
    held = held_on is.setup is.past c.args.event c.step-settled.result.settled c.step-settled.result.drawn c.step-settled.result.reply c.step-settled.result.job (tickets_of c.args.self.now.engine + 1) c.args.self.now.jobs c.hold.new.self (sym c.ticket.ensures ∙ c.in_default.is) (sym c.is_restart.ensures ∙ c.if-is_restart.false)
        (c.step-settled.ensures.job is.setup is.past is.stands done) (c.step-settled.ensures.stays is.setup is.past is.stands done)
        c.step-settled.ensures.number (subst (λ n. Holds n c.step-settled.result.job c.args.self.now.jobs c.hold.new.self) c.next_ticket-next.ensures c.hold.ensures) is.held;
  });
}

pub returns-clause-steps : goal.returns-clause-steps
returns-clause-steps g c = λ setup past for.
    let done = not_leave setup past c.args.event.act (sym c.ticket.ensures ∙ c.in_default.is) in record {
      follows = c.step-settled.ensures.follows setup past for.stands done;
      stands = c.step-settled.ensures.stands setup past for.stands done;
      store = c.step-settled.ensures.store setup past for.stands for.store;
      held = held_on setup past c.args.event c.step-settled.result.settled c.step-settled.result.drawn c.step-settled.result.reply c.step-settled.result.job (tickets_of c.args.self.now.engine + 1) c.args.self.now.jobs c.hold.new.self (sym c.ticket.ensures ∙ c.in_default.is) (sym c.is_restart.ensures ∙ c.if-is_restart.false)
          (c.step-settled.ensures.job setup past for.stands done) (c.step-settled.ensures.stays setup past for.stands done)
          c.step-settled.ensures.number (subst (λ n. Holds n c.step-settled.result.job c.args.self.now.jobs c.hold.new.self) c.next_ticket-next.ensures c.hold.ensures) for.held;
      keeps = keeps_step g.D.Disk setup c.args.disk.now c.step-settled.new.disk past c.step-settled.result.settled c.args.event c.step-settled.result.drawn c.step-settled.result.reply
          (c.step-settled.ensures.passes setup past for.stands for.store) c.step-settled.ensures.goes.cause c.step-settled.ensures.goes.telling (c.step-settled.ensures.same setup past for.stands for.store);
    }

pub returns-clause-entries : goal.returns-clause-entries
returns-clause-entries g c = omega (arith, c.step-settled.ensures.entries, few_made c.step-settled.result.settled)
