use Rattle.std.proofs.Common.{◌≡◌, is_some, refl, sym, ap, ◌∙◌, arith}
use Rattle.operation_slots.specs.declared.cells.Cell.{Cell}
use Rattle.operation_slots.specs.Boards.{operations_in, operations_on}
use Rattle.operation_slots.proofs.Reading.{cell_read, named_at}
use Rattle.operation_slots.proofs.Boards.{absent, present, place_within, length_entries, operations_less, slice_is}
use Rattle.operation_slots.specs.Table.{is_idle, idle_value}
use Rattle.operation_slots.proofs.Reading.{on_some, if_none, none_of_false}
use Rattle.operation_slots.proofs.board.SlotBoard.close.Goals as goal

pub index-requires-2 : goal.index-requires-2
index-requires-2 g c =
    omega (arith, place_within c.args.self.now.cells.items c.args.self.now.index.items c.args.self.now.free.items c.args.self.now.counts c.args.self.now.idle c.args.self.now.capacity c.requires.linked c.in-Ok.at c.index.result.now (rw c.deref.ensures.value at c.in-Ok.ensures.found).within c.index.ensures)

pub returns-in-Err-clause-value : goal.returns-in-Err-clause-value
returns-in-Err-clause-value g c =
    rw (absent c.args.self.now.cells.items c.args.self.now.index.items c.args.self.now.free.items c.args.self.now.counts c.args.self.now.idle c.args.self.now.capacity c.requires.linked c.args.op c.in-Err._at (rw c.deref.ensures.value at c.in-Err.ensures.absent)) refl

pub returns-then-not-is_idle-clause-value : goal.returns-then-not-is_idle-clause-value
returns-then-not-is_idle-clause-value g c =
    sym (ap (λ o. idle_value o) (present c.args.self.now.cells.items c.args.self.now.index.items c.args.self.now.free.items c.args.self.now.counts c.args.self.now.idle c.args.self.now.capacity c.requires.linked c.in-Ok.at c.index.result.now (rw c.deref.ensures.value at c.in-Ok.ensures.found).within c.index.ensures c.args.op (rw c.deref.ensures.value at c.in-Ok.ensures.found)) ∙ none_of_false _ (ap (λ (k : Cell _). is_idle k.operation) (sym (cell_read c.args.self.now.cells.items c.index.result.now.place c.index-2.result.now (place_within c.args.self.now.cells.items c.args.self.now.index.items c.args.self.now.free.items c.args.self.now.counts c.args.self.now.idle c.args.self.now.capacity c.requires.linked c.in-Ok.at c.index.result.now (rw c.deref.ensures.value at c.in-Ok.ensures.found).within c.index.ensures) c.index-2.ensures)) ∙ sym c.is_idle.ensures ∙ c.if-not-is_idle.true))

pub take_out_at-requires-clause-at : goal.take_out_at-requires-clause-at
take_out_at-requires-clause-at g c =
    omega (arith, (rw c.deref.ensures.value at c.in-Ok.ensures.found).within, length_entries c.args.self.now.cells.items c.args.self.now.index.items c.args.self.now.free.items c.args.self.now.counts c.args.self.now.idle c.args.self.now.capacity c.requires.linked)

pub returns-clause-value : goal.returns-clause-value
returns-clause-value g c =
    (c.take_out_at.ensures.value _ (slice_is c.args.self.now.cells.items c.args.self.now.index.items c.args.self.now.free.items c.args.self.now.counts c.args.self.now.idle c.args.self.now.capacity c.requires.linked c.in-Ok.at c.index.result.now (rw c.deref.ensures.value at c.in-Ok.ensures.found).within c.index.ensures)) ∙ sym (ap (λ o. idle_value o) (present c.args.self.now.cells.items c.args.self.now.index.items c.args.self.now.free.items c.args.self.now.counts c.args.self.now.idle c.args.self.now.capacity c.requires.linked c.in-Ok.at c.index.result.now (rw c.deref.ensures.value at c.in-Ok.ensures.found).within c.index.ensures c.args.op (rw c.deref.ensures.value at c.in-Ok.ensures.found)))

pub returns-clause-some : goal.returns-clause-some
returns-clause-some g c =
    on_some c.take_out_at.result (ap operations_in c.take_out_at.ensures.entries ∙ operations_less c.args.self.now.cells.items c.args.self.now.index.items c.args.self.now.free.items c.args.self.now.counts c.args.self.now.idle c.args.self.now.capacity c.requires.linked c.in-Ok.at c.index.result.now (rw c.deref.ensures.value at c.in-Ok.ensures.found).within c.index.ensures c.args.op (named_at c.args.self.now.index.items c.args.op c.in-Ok.at c.index.result.now (rw c.deref.ensures.value at c.in-Ok.ensures.found) c.index.ensures))

pub returns-clause-none : goal.returns-clause-none
returns-clause-none g c =
    if_none (operations_on c.take_out_at.new.self ≡ operations_on c.args.self.now) c.take_out_at.result (ap (λ o. is_some o) (c.take_out_at.ensures.value _ (slice_is c.args.self.now.cells.items c.args.self.now.index.items c.args.self.now.free.items c.args.self.now.counts c.args.self.now.idle c.args.self.now.capacity c.requires.linked c.in-Ok.at c.index.result.now (rw c.deref.ensures.value at c.in-Ok.ensures.found).within c.index.ensures)) ∙ ap (λ (k : Cell _). is_idle k.operation) (sym (cell_read c.args.self.now.cells.items c.index.result.now.place c.index-2.result.now (place_within c.args.self.now.cells.items c.args.self.now.index.items c.args.self.now.free.items c.args.self.now.counts c.args.self.now.idle c.args.self.now.capacity c.requires.linked c.in-Ok.at c.index.result.now (rw c.deref.ensures.value at c.in-Ok.ensures.found).within c.index.ensures) c.index-2.ensures)) ∙ sym c.is_idle.ensures ∙ c.if-not-is_idle.false)
