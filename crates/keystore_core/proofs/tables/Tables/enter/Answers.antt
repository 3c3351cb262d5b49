use Rattle.std.proofs.Common.{false, Some, ap, refl, sym, subst, ◌∙◌}
use Rattle.rule_model.specs.Replies.{no_fields}
use mathlib.Core.Logic.{∥∥₁_elim}
use denote.Struct.Props.{≡_prop}
use Rattle.std.specs.Coded.{coded_bool}
use Rattle.step_rules.specs.Table.{answer}
use Rattle.operation_slots.specs.Table.{held}
use Rattle.rule_model.specs.Kept.{is_live, operation_at}
use Rattle.keystore_core.specs.Tables.{row_at}
use Rattle.rule_model.specs.Settling.{is_disk_fault}
use Rattle.std.proofs.Math.Bool.{Bool-set}
use Rattle.rule_model.specs.StepFacts.{brought_by}
use Rattle.keystore_core.specs.Stepping.{used_by, used_in}
use Rattle.rule_model.specs.Acts.{is_restart}
use Rattle.rule_model.specs.declared.reply.Reply.TheVariants.{Broken}
use Rattle.keystore_core.specs.Stepping.{entering}
use Rattle.keystore_core.specs.Writing.{StoreGoes, change_for}
use Rattle.keystore_core.proofs.Written.{denied_goes}
use Rattle.keystore_core.proofs.Entered.{closes_store, entered_after, entering_change, entering_restarts, goes_into, is_told, unspent_after, use_met}
use Rattle.keystore_core.proofs.Standing.{few_tickets, same_but_tickets, still}
use Rattle.keystore_core.proofs.Stepped.{CanWork-prop, MayGrow-prop, can_work, ends_idle, idle_facts, may_grow, refused, row_found, slot_found, step_enters}
use Rattle.keystore_core.proofs.tables.Tables.enter.Goals as goal

pub deny-requires : goal.deny-requires
deny-requires g c = λ ends. ∥∥₁_elim c.requires.tables (≡_prop coded_bool _ _) (λ t.
    ends_idle t.setup t.past c.args.self.now c.args.caller c.args.op _ _ t.stands (c.step_facts-facts.ensures t.setup t.past c.args.op t.stands c.look_up.ensures) (c.in-Err.ensures.ends ends))

pub returns-in-Err-clause-serves : goal.returns-in-Err-clause-serves
returns-in-Err-clause-serves g c = λ setup past stands.
    let facts = rw c.brought_by-brought.ensures at c.step_facts-facts.ensures setup past c.args.op stands c.look_up.ensures in
    rw (c.deny.ensures.reply, c.deny.ensures.job, c.deny.ensures.drawn)
    (refused setup past c.args.self.now c.args.caller c.args.op stands c.requires.caller c.args.work _ _ _ (sym (c.in-Err.ensures.first ∙ ap answer facts)) (λ ends. rw facts at (c.in-Err.ensures.ends ends)) c.deny.ensures.closes)

pub room_on-requires : goal.room_on-requires
room_on-requires g c = ∥∥₁_elim c.requires.tables (MayGrow-prop _ c.args.work) (λ t.
    let facts = rw c.brought_by-brought.ensures at c.step_facts-facts.ensures t.setup t.past c.args.op t.stands c.look_up.ensures in
    rw c.look_up.ensures
    (may_grow (is_live t.setup t.past) c.args.caller c.args.work _ _ (row_found t.setup t.past c.args.self.now c.args.op t.stands)
    (rw facts at c.in_default.ensures.own) (step_enters t.setup t.past c.args.caller c.args.op c.args.work _ facts c.in_default.ensures.enters)))

pub next-ticket-requires : goal.next-ticket-requires
next-ticket-requires g c = few_tickets c.args.self.now c.requires.tables

pub reserve-requires : goal.reserve-requires
reserve-requires g c = few_tickets c.args.self.now c.requires.tables

pub spend-reply-requires-clause-can : goal.spend-reply-requires-clause-can
spend-reply-requires-clause-can g c = λ id used. (
  ∥∥₁_elim c.requires.tables (Bool-set _ _) (λ t.
      let facts = rw c.brought_by-brought.ensures at c.step_facts-facts.ensures t.setup t.past c.args.op t.stands c.look_up.ensures in
      let kind = rw (c.look_up.ensures, c.brought_by-brought.ensures) at c.used_key-used.ensures in
      use_met t.setup t.past c.args.self.now c.args.caller c.args.op c.args.work id t.stands t.legal (sym kind ∙ used)
      (step_enters t.setup t.past c.args.caller c.args.op c.args.work _ facts c.in_default.ensures.enters).live),
  (λ e. cc, λ e. cc),
)

pub send-job-requires-clause-state : goal.send-job-requires-clause-state
send-job-requires-clause-state g c = ∥∥₁_elim c.requires.tables (CanWork-prop _ c.in_ok-room.room) (λ t.
    let facts = rw c.brought_by-brought.ensures at c.step_facts-facts.ensures t.setup t.past c.args.op t.stands c.look_up.ensures in
    can_work (is_live t.setup t.past) c.args.caller c.args.work (row_at c.args.self.now c.args.op) (operation_at t.setup t.past c.args.op) (held c.args.self.now.slots c.args.op) c.in_ok-room.room
    (row_found t.setup t.past c.args.self.now c.args.op t.stands) (slot_found t.setup t.past c.args.self.now c.args.op t.stands)
    (rw facts at c.in_default.ensures.idle) (step_enters t.setup t.past c.args.caller c.args.op c.args.work _ facts c.in_default.ensures.enters) (rw c.look_up.ensures at c.in_ok-room.ensures))

pub send-job-requires-clause-few : goal.send-job-requires-clause-few
send-job-requires-clause-few g c = rw c.in_ok-reserve.ensures.same.given (few_tickets c.args.self.now c.requires.tables)

pub unspent-requires : goal.unspent-requires
unspent-requires g c = λ fault. ∥∥₁_elim c.requires.tables (≡_prop coded_bool _ _) (λ t.
    idle_facts t.setup t.past c.args.self.now c.args.caller c.args.op _ _ t.stands (c.step_facts-facts.ensures t.setup t.past c.args.op t.stands c.look_up.ensures) c.in_default.ensures.own c.in_default.ensures.idle)

pub returns-clause-serves : goal.returns-clause-serves
returns-clause-serves g c = λ setup past stands.
    let facts = rw c.brought_by-brought.ensures at c.step_facts-facts.ensures setup past c.args.op stands c.look_up.ensures in
    let now = still setup past c.args.self.now (record c.args.self.now { tickets = c.reserve.new.self }) stands (same_but_tickets c.args.self.now c.reserve.new.self c.in_ok-reserve.ensures.same) in
    rw (c.entered.ensures.reply, c.entered.ensures.job, c.entered.ensures.drawn)
    (entered_after setup past (record c.args.self.now { tickets = c.reserve.new.self }) c.spend-reply.new.keys c.args.caller c.args.op c.args.work now c.requires.caller c.requires.settled c.send-job.new.self c.look_up.result.1 c.in_ok-room.room c.send-job.result
    c.next-ticket.result c.spend-reply.result (sym c.is_done.ensures ∙ c.if-not-is_done.false) (sym (c.in_default.ensures.first ∙ ap answer facts)) (rw facts at c.in_default.ensures.own) (rw facts at c.in_default.ensures.idle)
    (step_enters setup past c.args.caller c.args.op c.args.work _ facts c.in_default.ensures.enters) (rw c.look_up.ensures at c.in_ok-room.ensures) (rw c.in_ok-reserve.ensures.same.given c.next-ticket.ensures)
    (rw (c.used_key-used.ensures, c.look_up.ensures, c.brought_by-brought.ensures) at c.spend-reply.ensures.written) (rw c.brought_by-brought.ensures at c.send-job.ensures))

pub returns-clause-store : goal.returns-clause-store
returns-clause-store g c =
    let used = rw (c.used_key-used.ensures, c.look_up.ensures, c.brought_by-brought.ensures) at c.spend-reply.ensures.store in
    let told = is_told c.args.self.now.keys c.spend-reply.new.keys (used_by c.used_key-used.result) (record no_fields { ticket = Some c.next-ticket.result }) c.spend-reply.result c.spend-reply.ensures.written (sym c.is_done.ensures ∙ c.if-not-is_done.false) in
    rw (entering_change c.args.self.now c.args.caller c.args.op c.args.work c.entered.result, entering_restarts c.args.op c.args.work, c.entered.ensures.reply)
    (goes_into g.D.Disk c.args.self.now.keys c.spend-reply.new.keys c.send-job.new.self.keys c.args.disk.now c.spend-reply.new.disk false (used_by (used_in c.args.self.now c.args.op (brought_by c.args.work).kind)) _ c.send-job.ensures.keys.store_is
    (subst (λ r. StoreGoes g.D.Disk c.args.self.now.keys c.spend-reply.new.keys c.args.disk.now c.spend-reply.new.disk false (used_by (used_in c.args.self.now c.args.op (brought_by c.args.work).kind)) r) told used))

pub returns-then-not-is_done-clause-serves : goal.returns-then-not-is_done-clause-serves
returns-then-not-is_done-clause-serves g c = λ setup past stands.
    let facts = rw c.brought_by-brought.ensures at c.step_facts-facts.ensures setup past c.args.op stands c.look_up.ensures in
    let now = still setup past c.args.self.now (record c.args.self.now { tickets = c.reserve.new.self }) stands (same_but_tickets c.args.self.now c.reserve.new.self c.in_ok-reserve.ensures.same) in
    rw (c.unspent.ensures.reply, c.unspent.ensures.job, c.unspent.ensures.drawn)
    (unspent_after setup past (record c.args.self.now { tickets = c.reserve.new.self }) c.spend-reply.new.keys c.args.caller c.args.op c.args.work now c.requires.caller c.requires.settled c.unspent.new.self
    c.next-ticket.result c.spend-reply.result (sym c.is_done.ensures ∙ c.if-not-is_done.true) (sym (c.in_default.ensures.first ∙ ap answer facts)) (rw facts at c.in_default.ensures.idle)
    (rw c.in_ok-reserve.ensures.same.given c.next-ticket.ensures) (rw (c.used_key-used.ensures, c.look_up.ensures, c.brought_by-brought.ensures) at c.spend-reply.ensures.written) c.unspent.ensures.closes)

pub returns-then-not-is_done-clause-store : goal.returns-then-not-is_done-clause-store
returns-then-not-is_done-clause-store g c =
    let used = rw (c.used_key-used.ensures, c.look_up.ensures, c.brought_by-brought.ensures) at c.spend-reply.ensures.store in
    rw (entering_change c.args.self.now c.args.caller c.args.op c.args.work c.unspent.result, entering_restarts c.args.op c.args.work, c.unspent.ensures.reply)
    (goes_into g.D.Disk c.args.self.now.keys c.spend-reply.new.keys c.unspent.new.self.keys c.args.disk.now c.spend-reply.new.disk false (used_by (used_in c.args.self.now c.args.op (brought_by c.args.work).kind)) c.spend-reply.result
    (closes_store (is_disk_fault c.spend-reply.result) c.args.op _ c.unspent.new.self c.unspent.ensures.closes) used)

pub returns-in-Err-clause-store : goal.returns-in-Err-clause-store
returns-in-Err-clause-store g c =
    rw c.deny.ensures.reply
    (denied_goes g.D.Disk c.args.disk.now c.args.self.now.keys c.deny.new.self.keys (is_restart (entering c.args.op c.args.work)) (change_for c.args.self.now c.args.caller (entering c.args.op c.args.work) c.deny.result)
    (Broken c.in-Err.rule c.in-Err.code) (closes_store _ c.args.op c.args.self.now c.deny.new.self c.deny.ensures.closes) refl refl)
