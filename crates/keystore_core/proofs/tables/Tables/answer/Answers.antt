use Rattle.std.proofs.Common.{◌≡◌, [], inl, refl, sym, ap, ◌∙◌, arith, subst}
use Rattle.rule_model.specs.Legal.{WithoutMemory}
use Rattle.keystore_core.proofs.Standing.{at_none, leave_is, no_leave, stands_none, without_memory}
use Rattle.rule_model.specs.declared.event.Act.TheVariants.{Leave}
use Rattle.rule_model.specs.declared.event.Event.{Event}
use Rattle.keystore_core.specs.Tables.{AnswersAt, IsAt, event_by}
use Rattle.rule_model.proofs.Kept.{changes_kept}
use Rattle.keystore_core.specs.Writing.{StoreGoesFor, caller_by}
use Rattle.keystore_core.proofs.Written.{leaves_goes}
use Rattle.keystore_core.proofs.Storing.{caller_told, memory_goes}
use Rattle.keystore_core.proofs.tables.Tables.answer.Goals as goal

pub leave-requires : goal.leave-requires
leave-requires g c = subst (λ act. ∥ IsAt c.args.self.now c.args.step act c.args.done ∥₁) (leave_is c.args.event.act c.in-Some.ticket (sym c.ticket.ensures ∙ c.in-Some.is)) c.requires.at

pub serve-requires-clause-at : goal.serve-requires-clause-at
serve-requires-clause-at g c = at_none c.args.self.now c.args.step c.args.event.act c.args.done (no_leave c.args.event.act (sym c.ticket.ensures ∙ c.in_default.is)) c.requires.at

pub serve-requires-clause-comes : goal.serve-requires-clause-comes
serve-requires-clause-comes g c = no_leave c.args.event.act (sym c.ticket.ensures ∙ c.in_default.is)

pub returns-in-Some-clause-answers : goal.returns-in-Some-clause-answers
returns-in-Some-clause-answers g c =
    let act_is = leave_is c.args.event.act c.in-Some.ticket (sym c.ticket.ensures ∙ c.in-Some.is) in
    let event_is : event_by c.caller-caller.result (Leave c.in-Some.ticket) ≡ c.args.event =
    λ i. record { reading = c.caller-caller.ensures.reading i; client = c.caller-caller.ensures.client i; act = sym act_is i } in
    subst (λ (e : Event). AnswersAt c.args.step c.args.done c.args.self.now c.leave.new.self e c.leave.result) event_is c.leave.ensures.serves

pub returns-in-Ok-clause-answers : goal.returns-in-Ok-clause-answers
returns-in-Ok-clause-answers g c = λ setup past at.
    (rw (c.caller-caller.ensures.reading, c.caller-caller.ensures.client) at c.in-Ok.ensures.serves) setup past
    (stands_none setup past c.args.self.now c.args.step c.args.event.act c.args.done (no_leave c.args.event.act (sym c.ticket.ensures ∙ c.in_default.is)) at)

pub returns-in-Err-clause-answers : goal.returns-in-Err-clause-answers
returns-in-Err-clause-answers g c = λ setup past at.
    let after = without_memory setup past c.args.self.now c.serve.new.self c.args.event [] at.tables_stand c.in-Err.ensures.memory c.in-Err.ensures.serves in
    rw (c.without_memory.ensures.reply, c.without_memory.ensures.job, c.without_memory.ensures.drawn, c.empty.ensures) (record {
      follows = λ ready. WithoutMemory (record { ready = inl refl; drew = omega arith; takes = c.in-Err.ensures.memory; is_want = refl });
      stands = after.0;
      has_job = refl;
      stays = after.1;
    })

pub returns-in-Ok-clause-store : goal.returns-in-Ok-clause-store
returns-in-Ok-clause-store g c =
    subst (λ who. StoreGoesFor g.D.Disk c.args.self.now c.serve.new.self c.args.disk.now c.serve.new.disk who c.args.event.act c.in-Ok.answered)
    (caller_told c.args.self.now c.args.event c.caller-caller.result c.caller-caller.ensures.caller c.caller-caller.ensures.reading c.caller-caller.ensures.client) c.in-Ok.ensures.store

pub returns-in-Err-clause-store : goal.returns-in-Err-clause-store
returns-in-Err-clause-store g c =
    rw c.without_memory.ensures.reply (memory_goes g.D.Disk c.args.self.now.keys c.serve.new.self.keys c.args.disk.now c.serve.new.disk _ _ c.in-Err.ensures.store)

pub returns-in-Some-clause-store : goal.returns-in-Some-clause-store
returns-in-Some-clause-store g c =
    leaves_goes g.D.Disk c.args.disk.now c.args.self.now c.leave.new.self (caller_by c.args.self.now c.args.event) c.args.event.act c.leave.result c.leave.ensures.store
    (ap changes_kept (leave_is c.args.event.act c.in-Some.ticket (sym c.ticket.ensures ∙ c.in-Some.is)))
