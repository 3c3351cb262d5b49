use Rattle.std.proofs.Common.{subst, arith}
use mathlib.Core.Logic.{∥∥₁_map}
use Rattle.keystore_run.specs.Jobs.{ClearsJobs}
use Rattle.keystore_run.proofs.KeepLemmas.{keeps_step}
use Rattle.keystore_run.proofs.Tickets.{few_made, held_restarted, may_go, no_leave, not_leave}
use Rattle.keystore_run.proofs.session.Session.restart.Goals as goal

pub step-stepped-requires-clause-takes : goal.step-stepped-requires-clause-takes
step-stepped-requires-clause-takes g c = ∥∥₁_map c.args.self.now.stands (may_go (no_leave c.args.event.act c.requires.act))

pub invariant_of-self : goal.invariant_of-self
invariant_of-self g c = record {
  stands = ∥∥₁_map c.args.self.now.stands (λ is. let done = not_leave is.setup is.past c.args.event.act (no_leave c.args.event.act c.requires.act) in record {
    setup = is.setup;
    past = _;
    stands = c.step-stepped.ensures.stands is.setup is.past is.stands done;
    held = held_restarted is.setup is.past c.args.event c.step-stepped.result.settled c.step-stepped.result.drawn c.step-stepped.result.reply c.args.self.now.jobs c.clear_if.new.self c.requires.act
        (c.step-stepped.ensures.stays is.setup is.past is.stands done) (subst (λ all. ClearsJobs all c.args.self.now.jobs c.clear_if.new.self) c.is_done.ensures c.clear_if.ensures) is.held;
  });
}

pub returns-clause-steps : goal.returns-clause-steps
returns-clause-steps g c = λ setup past for.
    let done = not_leave setup past c.args.event.act (no_leave c.args.event.act c.requires.act) in record {
      follows = c.step-stepped.ensures.follows setup past for.stands done;
      stands = c.step-stepped.ensures.stands setup past for.stands done;
      store = c.step-stepped.ensures.store setup past for.stands for.store;
      held = held_restarted setup past c.args.event c.step-stepped.result.settled c.step-stepped.result.drawn c.step-stepped.result.reply c.args.self.now.jobs c.clear_if.new.self c.requires.act
          (c.step-stepped.ensures.stays setup past for.stands done) (subst (λ all. ClearsJobs all c.args.self.now.jobs c.clear_if.new.self) c.is_done.ensures c.clear_if.ensures) for.held;
      keeps = keeps_step g.D.Disk setup c.args.disk.now c.step-stepped.new.disk past c.step-stepped.result.settled c.args.event c.step-stepped.result.drawn c.step-stepped.result.reply
          (c.step-stepped.ensures.passes setup past for.stands for.store) c.step-stepped.ensures.goes.cause c.step-stepped.ensures.goes.telling (c.step-stepped.ensures.same setup past for.stands for.store);
    }

pub returns-clause-entries : goal.returns-clause-entries
returns-clause-entries g c = omega (arith, c.step-stepped.ensures.entries, few_made c.step-stepped.result.settled)
