use Rattle.std.proofs.Common.{◌≡◌, Some, refl, sym, ap, ◌∙◌}
use Rattle.std.proofs.Props.{props}
use mathlib.Core.Logic.{∥∥₁_elim}
use denote.Struct.Props.{≡_prop}
use Rattle.std.specs.Coded.{coded_bool}
use Rattle.operation_slots.specs.Table.{held, is_busy}
use Rattle.rule_model.specs.Answer.{given_or}
use Rattle.keystore_core.specs.Stepping.{reply_of}
use Rattle.keystore_core.proofs.Left.{came_back, is_back, no_disk_fault_of, no_fault, none_out, not_out, replied, slot_busy, some_done}
use Rattle.keystore_core.proofs.Standing.{at_later}
use Rattle.keystore_core.proofs.Stepped.{slot_found}
use Rattle.keystore_core.proofs.tables.Tables.leave.Goals as goal

pub returns-in_default-clause-serves : goal.returns-in_default-clause-serves
returns-in_default-clause-serves c = λ setup past at.
    rw (c.undrawn.ensures.reply, c.undrawn.ensures.job, c.undrawn.ensures.drawn)
    (not_out setup past c.args.self.now c.args.caller c.args.ticket at.tables_stand (none_out _ _ (at.tables_stand.tickets.outs c.args.ticket) (sym c.get.ensures ∙ c.in_default.is)))

pub unreachable-requires : goal.unreachable-requires
unreachable-requires c = ∥∥₁_elim c.requires (hlevel props) (λ t.
    some_done t.setup t.past _ _ c.in-Some.out c.args.done (t.stands.tables_stand.tickets.outs c.args.ticket) (sym c.get.ensures ∙ c.in-Some.is) t.stands.done_is c.in_default-done.is)

pub take_back-requires-clause-busy : goal.take_back-requires-clause-busy
take_back-requires-clause-busy c = ∥∥₁_elim c.requires (≡_prop coded_bool _ _) (λ t.
    let back = is_back t.setup t.past c.args.ticket _ _ c.in-Some.out c.args.done c.in-Some-done.done (t.stands.tables_stand.tickets.outs c.args.ticket) (sym c.get.ensures ∙ c.in-Some.is) refl
    (λ e is. t.stands.tables_stand.tickets.busy c.args.ticket e is) t.stands.done_is c.in-Some-done.is in
    ap (λ op. is_busy (held c.args.self.now.slots op)) back.same.op
    ∙ slot_busy (held c.args.self.now.slots back.op) (Some back.o) c.args.ticket back.work (rw back.open_is at (slot_found t.setup t.past c.args.self.now back.op t.stands.tables_stand)) back.busy)

pub take_back-requires-clause-later : goal.take_back-requires-clause-later
take_back-requires-clause-later c = at_later c.args.self.now c.args.step _ c.args.done c.requires

pub returns-clause-serves : goal.returns-clause-serves
returns-clause-serves c = λ setup past at.
    let back = is_back setup past c.args.ticket _ _ c.in-Some.out c.args.done c.in-Some-done.done (at.tables_stand.tickets.outs c.args.ticket) (sym c.get.ensures ∙ c.in-Some.is) refl
    (λ e is. at.tables_stand.tickets.busy c.args.ticket e is) at.done_is c.in-Some-done.is in
    let reply : c.undrawn-2.result.reply ≡ given_or back.work c.in-Some-done.done.result =
    c.undrawn-2.ensures.reply ∙ c.reply_of.ensures ∙ ap (λ b. reply_of b.kind c.in-Some-done.done.result) back.same.brought ∙ replied back.work c.in-Some-done.done.result in
    rw (reply, c.undrawn-2.ensures.job, c.undrawn-2.ensures.drawn)
    (came_back setup past c.args.self.now c.args.caller c.args.ticket at.tables_stand c.take_back.new.self back.op back.work c.in-Some.out back.o c.args.step c.in-Some-done.done
    back.out_is back.same back.open_is back.busy back.done_is at.step_is c.take_back.ensures)

pub returns-clause-drew : goal.returns-clause-drew
returns-clause-drew c = record {
  nothing = c.undrawn-2.ensures.drawn;
  no_fault = ∥∥₁_elim c.requires (≡_prop coded_bool _ _) (λ t.
      let back = is_back t.setup t.past c.args.ticket _ _ c.in-Some.out c.args.done c.in-Some-done.done (t.stands.tables_stand.tickets.outs c.args.ticket) (sym c.get.ensures ∙ c.in-Some.is) refl
      (λ e is. t.stands.tables_stand.tickets.busy c.args.ticket e is) t.stands.done_is c.in-Some-done.is in
      rw (c.undrawn-2.ensures.reply, c.reply_of.ensures) (no_fault c.in-Some.out.brought.kind c.in-Some-done.done.result back.done_is.refuses));
}

pub returns-clause-store : goal.returns-clause-store
returns-clause-store c = record {
  keys = c.take_back.ensures.keys;
  no_fault = ∥∥₁_elim c.requires (≡_prop coded_bool _ _) (λ t.
      let back = is_back t.setup t.past c.args.ticket _ _ c.in-Some.out c.args.done c.in-Some-done.done (t.stands.tables_stand.tickets.outs c.args.ticket) (sym c.get.ensures ∙ c.in-Some.is) refl
      (λ e is. t.stands.tables_stand.tickets.busy c.args.ticket e is) t.stands.done_is c.in-Some-done.is in
      rw (c.undrawn-2.ensures.reply, c.reply_of.ensures) (no_disk_fault_of c.in-Some.out.brought.kind c.in-Some-done.done.result back.done_is.refuses));
}
