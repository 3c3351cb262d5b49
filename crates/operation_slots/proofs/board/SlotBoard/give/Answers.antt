use Rattle.std.proofs.Common.{sym, ap, subst, arith}
use Rattle.operation_slots.specs.declared.cells.Cell.{Cell}
use Rattle.operation_slots.specs.Boards.{IsHeld, entries, operations_in}
use Rattle.operation_slots.proofs.Keeping.{kept_given}
use Rattle.operation_slots.proofs.Reading.{none_of_busy, cell_read, named_at}
use Rattle.operation_slots.proofs.Boards.{absent, present, place_within, in_no_chain, operations_given, linked_given}
use Rattle.operation_slots.proofs.board.SlotBoard.give.Goals as goal

pub unreachable-requires : goal.unreachable-requires
unreachable-requires g c =
    let busy = rw (absent c.args.self.now.cells.items c.args.self.now.index.items c.args.self.now.free.items c.args.self.now.counts c.args.self.now.idle c.args.self.now.capacity c.requires.kept.linked c.args.op c.in-Err._at (rw c.deref.ensures.value at c.in-Err.ensures.absent)) at c.requires.busy in cc

pub index-requires-2 : goal.index-requires-2
index-requires-2 g c =
    omega (arith, place_within c.args.self.now.cells.items c.args.self.now.index.items c.args.self.now.free.items c.args.self.now.counts c.args.self.now.idle c.args.self.now.capacity c.requires.kept.linked c.in-Ok.at c.index.result.now (rw c.deref.ensures.value at c.in-Ok.ensures.found).within c.index.ensures)

pub give_value-requires-clause-place : goal.give_value-requires-clause-place
give_value-requires-clause-place g c =
    place_within c.args.self.now.cells.items c.args.self.now.index.items c.args.self.now.free.items c.args.self.now.counts c.args.self.now.idle c.args.self.now.capacity c.requires.kept.linked c.in-Ok.at c.index.result.now (rw c.deref.ensures.value at c.in-Ok.ensures.found).within c.index.ensures

pub give_value-requires-clause-busy : goal.give_value-requires-clause-busy
give_value-requires-clause-busy g c =
    (none_of_busy _ (rw (present c.args.self.now.cells.items c.args.self.now.index.items c.args.self.now.free.items c.args.self.now.counts c.args.self.now.idle c.args.self.now.capacity c.requires.kept.linked c.in-Ok.at c.index.result.now (rw c.deref.ensures.value at c.in-Ok.ensures.found).within c.index.ensures c.args.op (rw c.deref.ensures.value at c.in-Ok.ensures.found)) at c.requires.busy))

pub push_newest-requires-clause-free : goal.push_newest-requires-clause-free
push_newest-requires-clause-free g c =
    in_no_chain c.args.self.now.cells.items c.args.self.now.index.items c.args.self.now.free.items c.args.self.now.counts c.args.self.now.idle c.args.self.now.capacity c.requires.kept.linked c.in-Ok.at c.index.result.now (rw c.deref.ensures.value at c.in-Ok.ensures.found).within c.index.ensures (none_of_busy _ (rw (present c.args.self.now.cells.items c.args.self.now.index.items c.args.self.now.free.items c.args.self.now.counts c.args.self.now.idle c.args.self.now.capacity c.requires.kept.linked c.in-Ok.at c.index.result.now (rw c.deref.ensures.value at c.in-Ok.ensures.found).within c.index.ensures c.args.op (rw c.deref.ensures.value at c.in-Ok.ensures.found)) at c.requires.busy))

pub push_newest-requires-clause-within : goal.push_newest-requires-clause-within
push_newest-requires-clause-within g c =
    omega (arith, place_within c.args.self.now.cells.items c.args.self.now.index.items c.args.self.now.free.items c.args.self.now.counts c.args.self.now.idle c.args.self.now.capacity c.requires.kept.linked c.in-Ok.at c.index.result.now (rw c.deref.ensures.value at c.in-Ok.ensures.found).within c.index.ensures, c.requires.kept.linked.cells_few, c.requires.kept.linked.idle_room)

pub returns-clause-kept : goal.returns-clause-kept
returns-clause-kept g c =
    record { held = subst (λ l. IsHeld l c.args.self.now.capacity) (sym (operations_given c.args.self.now.cells.items c.args.self.now.index.items c.args.self.now.free.items c.args.self.now.counts c.args.self.now.idle c.args.self.now.capacity c.requires.kept.linked c.in-Ok.at c.index.result.now (rw c.deref.ensures.value at c.in-Ok.ensures.found).within c.index.ensures c.give_value.new.cells.items c.args.stamp c.args.value c.give_value.ensures.size c.give_value.ensures.puts (none_of_busy _ (rw (present c.args.self.now.cells.items c.args.self.now.index.items c.args.self.now.free.items c.args.self.now.counts c.args.self.now.idle c.args.self.now.capacity c.requires.kept.linked c.in-Ok.at c.index.result.now (rw c.deref.ensures.value at c.in-Ok.ensures.found).within c.index.ensures c.args.op (rw c.deref.ensures.value at c.in-Ok.ensures.found)) at c.requires.busy)) c.requires.later c.args.op (named_at c.args.self.now.index.items c.args.op c.in-Ok.at c.index.result.now (rw c.deref.ensures.value at c.in-Ok.ensures.found) c.index.ensures))) (kept_given (operations_in (entries c.args.self.now.cells.items c.args.self.now.index.items)) c.args.self.now.capacity c.args.op c.args.stamp c.args.value c.requires.kept.held c.requires.later); linked = linked_given c.args.self.now.cells.items c.args.self.now.index.items c.args.self.now.free.items c.args.self.now.counts c.args.self.now.idle c.args.self.now.capacity c.requires.kept.linked c.in-Ok.at c.index.result.now (rw c.deref.ensures.value at c.in-Ok.ensures.found).within c.index.ensures c.give_value.new.cells.items c.args.stamp c.args.value c.give_value.ensures.size c.give_value.ensures.puts (none_of_busy _ (rw (present c.args.self.now.cells.items c.args.self.now.index.items c.args.self.now.free.items c.args.self.now.counts c.args.self.now.idle c.args.self.now.capacity c.requires.kept.linked c.in-Ok.at c.index.result.now (rw c.deref.ensures.value at c.in-Ok.ensures.found).within c.index.ensures c.args.op (rw c.deref.ensures.value at c.in-Ok.ensures.found)) at c.requires.busy)) c.requires.later c.push_newest.new.self (rw (ap (λ (k : Cell _). k.operation.uid) (cell_read c.args.self.now.cells.items c.index.result.now.place c.index-2.result.now (place_within c.args.self.now.cells.items c.args.self.now.index.items c.args.self.now.free.items c.args.self.now.counts c.args.self.now.idle c.args.self.now.capacity c.requires.kept.linked c.in-Ok.at c.index.result.now (rw c.deref.ensures.value at c.in-Ok.ensures.found).within c.index.ensures) c.index-2.ensures)) at c.push_newest.ensures.pushes) c.push_newest.ensures.sound; memory = record { for_cells = omega (arith, c.give_value.ensures.capacity, c.requires.kept.memory.for_cells); for_index = c.requires.kept.memory.for_index; for_free = c.requires.kept.memory.for_free; for_counts = c.requires.kept.memory.for_counts } }

pub returns-clause-operations : goal.returns-clause-operations
returns-clause-operations g c =
    operations_given c.args.self.now.cells.items c.args.self.now.index.items c.args.self.now.free.items c.args.self.now.counts c.args.self.now.idle c.args.self.now.capacity c.requires.kept.linked c.in-Ok.at c.index.result.now (rw c.deref.ensures.value at c.in-Ok.ensures.found).within c.index.ensures c.give_value.new.cells.items c.args.stamp c.args.value c.give_value.ensures.size c.give_value.ensures.puts (none_of_busy _ (rw (present c.args.self.now.cells.items c.args.self.now.index.items c.args.self.now.free.items c.args.self.now.counts c.args.self.now.idle c.args.self.now.capacity c.requires.kept.linked c.in-Ok.at c.index.result.now (rw c.deref.ensures.value at c.in-Ok.ensures.found).within c.index.ensures c.args.op (rw c.deref.ensures.value at c.in-Ok.ensures.found)) at c.requires.busy)) c.requires.later c.args.op (named_at c.args.self.now.index.items c.args.op c.in-Ok.at c.index.result.now (rw c.deref.ensures.value at c.in-Ok.ensures.found) c.index.ensures)
