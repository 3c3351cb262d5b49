use Rattle.std.proofs.Common.{Some, subst}
use Rattle.keystore_run.specs.Answers.{text_in}
use Rattle.keystore_run.specs.Follows.{leave_at}
use Rattle.keystore_run.specs.Session.{StepsTo, devices}
use Rattle.keystore_run.proofs.Adding.{adds_left, adds_step}
use Rattle.keystore_run.proofs.Sessions.{malformed, served, spelled, text_same, went_and_left, went_on}
use Rattle.keystore_run.proofs.Tickets.{reserved}
use Rattle.keystore_run.proofs.session.Session.answer.Goals as goal

pub returns-in-Err-Malformed-clause-serves : goal.returns-in-Err-Malformed-clause-serves
returns-in-Err-Malformed-clause-serves g c = λ setup past for.
    malformed g.D.Disk g.N.Entropy setup c.args.written past c.args.self.now c.args.line.now c.args.disk.now c.args.entropy.now (text_in c.malformed.result) (rw c.in-Err-Malformed.field-0-is at c.in-Err-Malformed.ensures.event) for (text_same _ _ c.malformed.ensures.text)

pub returns-in_default-ticket_due-clause-serves : goal.returns-in_default-ticket_due-clause-serves
returns-in_default-ticket_due-clause-serves g c = λ setup past for.
    let standing = reserved g.D.Disk setup _ c.reserve.new.self _ past c.reserve.ensures.engine (c.reserve.ensures.jobs setup past) for in
    let to = c.step-stepped.ensures.steps setup past standing in
    let stepped = c.step-stepped.result in
    spelled g.D.Disk g.N.Entropy setup c.args.written past _ c.args.line.now c.in-Ok.line _ _ _ c.in-Ok.ensures.event
    (served g.D.Disk g.N.Entropy setup c.args.written past _ (Some c.in-Ok.line) _ _ _ _ _ (text_in c.step.result)
    (went_on g.D.Disk g.N.Entropy setup past _ (devices _ _) (devices _ _) c.in-Ok.line stepped to c.step-stepped.ensures.drew c.in_default-ticket_due.ensures)
    (adds_step c.args.written stepped.settled c.in-Ok.line.event stepped.drawn stepped.reply past)
    (text_same _ _ (c.step.ensures.text c.args.written c.in-Ok.line.event c.in-Ok-of.ensures)))

pub returns-clause-serves : goal.returns-clause-serves
returns-clause-serves g c = λ setup past for.
    let standing = reserved g.D.Disk setup _ c.reserve.new.self _ past c.reserve.ensures.engine (c.reserve.ensures.jobs setup past) for in
    let to = c.step-stepped.ensures.steps setup past standing in
    let stepped = c.step-stepped.result in
    let left = c.leave-left.result in
    spelled g.D.Disk g.N.Entropy setup c.args.written past _ c.args.line.now c.in-Ok.line _ _ _ c.in-Ok.ensures.event
    (served g.D.Disk g.N.Entropy setup c.args.written past _ (Some c.in-Ok.line) _ _ _ _ _ (text_in c.step_and_leave.result)
    (went_and_left g.D.Disk g.N.Entropy setup past c.step-stepped.new.self _ (devices _ _) (devices c.step-stepped.new.disk c.step-stepped.new.entropy) (devices _ _) c.in-Ok.line stepped left _ to c.step-stepped.ensures.drew c.in-Some.ensures
    (λ later stands. subst (λ event. StepsTo g.D.Disk setup later c.leave-left.new.self c.step-stepped.new.disk c.leave-left.new.disk event c.leave-left.result) c.leave_at.ensures (c.leave-left.ensures.steps setup later stands)) c.leave-left.ensures.drew)
    (adds_left c.args.written stepped.settled c.in-Ok.line.event stepped.drawn stepped.reply (leave_at c.in-Ok.line.event.reading c.in-Some.ticket) left.drawn left.reply past)
    (text_same _ _ (rw c.leave_at-2.ensures at (c.step_and_leave.ensures.text c.args.written c.in-Ok.line.event c.in-Ok-of.ensures))))
