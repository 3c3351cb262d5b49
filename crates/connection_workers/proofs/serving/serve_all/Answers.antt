use Rattle.std.proofs.Common.{length, ap, subst, ◌∙◌, arith}
use Rattle.connection_workers.specs.Arrivals.{arrived}
use Rattle.connection_workers.specs.declared.intake.Intake.{Intake}
use Rattle.connection_workers.specs.declared.intake.Start.{Start}
use Rattle.connection_workers.specs.Workers.{HadMemory, IsAttended}
use Rattle.connection_workers.proofs.Rounds.{all_ours, all_served, free_still, free_turned, none_else, none_served}
use Rattle.connection_workers.proofs.serving.serve_all.Goals as goal

pub serve_together-requires-clause-free : goal.serve_together-requires-clause-free
serve_together-requires-clause-free g c κs within =
    free_still g.B.L.Link g.A.Answerer.answers g.B.HangsUp.leaves g.A.Answerer.connected c.args.workers.now c.let_all_in.new.workers c.let_all_in.ensures.same c.requires.free

pub let_all_out-requires-clause-passes : goal.let_all_out-requires-clause-passes
let_all_out-requires-clause-passes g c =
    all_ours g.B.L.Link g.A.Answerer.answers g.B.HangsUp.leaves g.A.Answerer.connected c.in-Ok.opened.0 c.let_all_in.new.workers c.serve_together.new.workers c.serve_together.ensures.count c.serve_together.ensures.turned

pub finish-requires-clause-free : goal.finish-requires-clause-free
finish-requires-clause-free g c =
    let first = free_still g.B.L.Link g.A.Answerer.answers g.B.HangsUp.leaves g.A.Answerer.connected c.args.workers.now c.let_all_in.new.workers c.let_all_in.ensures.same c.requires.free in
    let then = free_turned g.B.L.Link g.A.Answerer.answers g.B.HangsUp.leaves g.A.Answerer.connected c.in-Ok.opened.0 c.let_all_in.new.workers c.serve_together.new.workers c.serve_together.ensures.count first c.serve_together.ensures.turned in
    free_still g.B.L.Link g.A.Answerer.answers g.B.HangsUp.leaves g.A.Answerer.connected c.serve_together.new.workers c.let_all_out.new.workers c.let_all_out.ensures.same then

pub returns-clause-served : goal.returns-clause-served
returns-clause-served g c =
    let first = free_still g.B.L.Link g.A.Answerer.answers g.B.HangsUp.leaves g.A.Answerer.connected c.args.workers.now c.let_all_in.new.workers c.let_all_in.ensures.same c.requires.free in
    let then = free_turned g.B.L.Link g.A.Answerer.answers g.B.HangsUp.leaves g.A.Answerer.connected c.in-Ok.opened.0 c.let_all_in.new.workers c.serve_together.new.workers c.serve_together.ensures.count first c.serve_together.ensures.turned in
    let free = free_still g.B.L.Link g.A.Answerer.answers g.B.HangsUp.leaves g.A.Answerer.connected c.serve_together.new.workers c.let_all_out.new.workers c.let_all_out.ensures.same then in
    let now = arrived c.finish.new.intake in
    let attended = c.ended.ensures.attended _ (c.finish.ensures.goes_on _ c.intake_of-intake.ensures.fits) in
    let named = subst (λ (s : Start _). IsAttended g.B.Listener s.connections (length now) s.begin.value c.ended.result.0 c.ended.result.1) c.in-Ok.ensures.lock attended in
    let made = c.let_all_out.ensures.made in
    let own = c.another-own.ensures in
    record {
      arrivals = now;
      attended = subst (λ b. IsAttended g.B.Listener c.args.connections (length now) b c.ended.result.0 c.ended.result.1) c.of.ensures named;
      served = all_served g.B.L.Link g.A.Answerer.answers g.B.HangsUp.leaves g.A.Answerer.connected c.in-Ok.opened.0 c.let_all_out.new.closing (arrived c.intake_of-intake.result) now c.args.workers.now c.let_all_in.new.workers c.serve_together.new.workers
          c.let_all_out.new.workers c.finish.new.workers c.let_all_in.ensures.same c.serve_together.ensures.count c.serve_together.ensures.turned c.let_all_out.ensures.took c.let_all_out.ensures.same c.intake_of-intake.ensures.kept free c.finish.ensures.finished c.requires.some;
      others = none_else g.B.L.Link g.A.Answerer.answers g.B.HangsUp.leaves g.A.Answerer.connected c.in-Ok.opened.0 c.let_all_out.new.closing (arrived c.intake_of-intake.result) now c.args.workers.now c.let_all_in.new.workers c.serve_together.new.workers
          c.let_all_out.new.workers c.finish.new.workers c.let_all_in.ensures.same c.serve_together.ensures.count c.serve_together.ensures.turned c.let_all_out.ensures.took c.let_all_out.ensures.same c.intake_of-intake.ensures.kept free c.finish.ensures.finished
          c.another-own.result (c.let_all_out.ensures.kept c.another-own.result c.last_turn-closing.ensures.taken) (own.number ∙ c.let_all_in.ensures.made) own.front (omega (arith, made, c.last_turn-closing.ensures.made, own.maker.1, c.let_all_in.ensures.made)) c.requires.some;
    }

pub returns-in-Err-clause-served : goal.returns-in-Err-clause-served
returns-in-Err-clause-served g c =
    none_served g.B.L.Link g.A.Answerer.answers g.B.HangsUp.leaves g.A.Answerer.connected g.B.Listener c.args.connections c.args.listener c.into_listener.result c.args.workers.now
    (c.into_listener.ensures ∙ ap (λ (i : Intake _ _). i.listener) c.in-Err.ensures.back) c.requires.free

pub returns-clause-unserved : goal.returns-clause-unserved
returns-clause-unserved g c = λ wanting. absurd (subst HadMemory wanting c.ended.ensures.memory)
