use Rattle.std.proofs.Common.{◌≡◌, ◌+◌, false, is_some, ap, ◌∙◌}
use Rattle.std.proofs.Math.Bool.{Bool-set}
use mathlib.Core.Logic.{∥∥₁_elim, ∥∥₁_map}
use Rattle.keystore_core.specs.Engine.{entries_of}
use Rattle.keystore_run.proofs.KeepLemmas.{keeps_step}
use Rattle.keystore_run.proofs.Tickets.{comes_back, held_left, leave_alone, may_leave, one_made}
use Rattle.keystore_run.proofs.session.Session.leave.Goals as goal

pub step-requires-clause-takes : goal.step-requires-clause-takes
step-requires-clause-takes g c = ∥∥₁_map c.args.self.now.stands (may_leave c.args.ticket c.args.event.act c.take.result c.run_job-done.result c.requires.act c.take.ensures.job c.run_job-done.ensures)

pub invariant_of-self : goal.invariant_of-self
invariant_of-self g c = record {
  stands = ∥∥₁_map c.args.self.now.stands (λ is. let done = comes_back is.setup is.past c.args.ticket c.args.event.act c.args.self.now.jobs c.take.result c.run_job-done.result c.requires.act c.take.ensures.job is.held c.run_job-done.ensures in record {
    setup = is.setup;
    past = _;
    stands = c.step.ensures.stands is.setup is.past is.stands done;
    held = held_left is.setup is.past c.args.ticket c.args.event c.step.result.settled c.step.result.drawn c.step.result.reply c.args.self.now.jobs c.take.new.self c.requires.act
        (c.step.ensures.follows is.setup is.past is.stands done) (c.step.ensures.stays is.setup is.past is.stands done) c.take.ensures.taken is.held;
  });
}

pub returns-clause-steps : goal.returns-clause-steps
returns-clause-steps g c = λ setup past for.
    let done = comes_back setup past c.args.ticket c.args.event.act c.args.self.now.jobs c.take.result c.run_job-done.result c.requires.act c.take.ensures.job for.held c.run_job-done.ensures in record {
      follows = c.step.ensures.follows setup past for.stands done;
      stands = c.step.ensures.stands setup past for.stands done;
      store = c.step.ensures.store setup past for.stands for.store;
      held = held_left setup past c.args.ticket c.args.event c.step.result.settled c.step.result.drawn c.step.result.reply c.args.self.now.jobs c.take.new.self c.requires.act
          (c.step.ensures.follows setup past for.stands done) (c.step.ensures.stays setup past for.stands done) c.take.ensures.taken for.held;
      keeps = keeps_step g.D.Disk setup c.args.disk.now c.step.new.disk past c.step.result.settled c.args.event c.step.result.drawn c.step.result.reply
          (c.step.ensures.passes setup past for.stands for.store) c.step.ensures.goes.cause c.step.ensures.goes.telling (c.step.ensures.same setup past for.stands for.store);
    }

pub returns-clause-entries : goal.returns-clause-entries
returns-clause-entries g c =
    let none : is_some c.step.result.settled ≡ false = ∥∥₁_elim c.args.self.now.stands (Bool-set _ _) (λ is.
    let done = comes_back is.setup is.past c.args.ticket c.args.event.act c.args.self.now.jobs c.take.result c.run_job-done.result c.requires.act c.take.ensures.job is.held c.run_job-done.ensures in
    leave_alone is.setup is.past c.args.ticket c.step.result.settled c.args.event c.step.result.drawn c.step.result.reply c.requires.act (c.step.ensures.follows is.setup is.past is.stands done)) in
    c.step.ensures.entries ∙ ap (λ n. entries_of c.args.self.now.engine + n) (one_made c.step.result.settled none)
