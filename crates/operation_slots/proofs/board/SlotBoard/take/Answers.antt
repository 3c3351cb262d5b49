use Rattle.std.proofs.Common.{is_some, refl, sym, ap, ◌∙◌, subst, arith}
use Rattle.operation_slots.specs.Table.{made_busy}
use Rattle.operation_slots.specs.Boards.{IsHeld, entries, operations_in}
use Rattle.operation_slots.proofs.Lists.{unchanged, not_found}
use Rattle.operation_slots.proofs.Keeping.{kept_taken}
use Rattle.operation_slots.proofs.Reading.{named_at}
use Rattle.operation_slots.proofs.Boards.{absent, present, place_within, in_chain, operations_taken, linked_taken, linked_busy, operations_same}
use Rattle.operation_slots.proofs.board.SlotBoard.take.Goals as goal

pub returns-in-Err-clause-answer : goal.returns-in-Err-clause-answer
returns-in-Err-clause-answer g c =
    rw (absent c.args.self.now.cells.items c.args.self.now.index.items c.args.self.now.free.items c.args.self.now.counts c.args.self.now.idle c.args.self.now.capacity c.requires.linked c.args.op c.in-Err._at (rw c.deref.ensures.value at c.in-Err.ensures.absent)) refl

pub returns-in-Err-clause-operations : goal.returns-in-Err-clause-operations
returns-in-Err-clause-operations g c =
    sym (unchanged c.args.op made_busy (operations_in (entries c.args.self.now.cells.items c.args.self.now.index.items)) (not_found c.args.op (operations_in (entries c.args.self.now.cells.items c.args.self.now.index.items)) (absent c.args.self.now.cells.items c.args.self.now.index.items c.args.self.now.free.items c.args.self.now.counts c.args.self.now.idle c.args.self.now.capacity c.requires.linked c.args.op c.in-Err._at (rw c.deref.ensures.value at c.in-Err.ensures.absent))))

pub take_value-requires : goal.take_value-requires
take_value-requires g c =
    place_within c.args.self.now.cells.items c.args.self.now.index.items c.args.self.now.free.items c.args.self.now.counts c.args.self.now.idle c.args.self.now.capacity c.requires.linked c.in-Ok.at c.index.result.now (rw c.deref.ensures.value at c.in-Ok.ensures.found).within c.index.ensures

pub unlink-requires : goal.unlink-requires
unlink-requires g c =
    in_chain c.args.self.now.cells.items c.args.self.now.index.items c.args.self.now.free.items c.args.self.now.counts c.args.self.now.idle c.args.self.now.capacity c.requires.linked c.in-Ok.at c.index.result.now (rw c.deref.ensures.value at c.in-Ok.ensures.found).within c.index.ensures (ap (λ o. is_some o) (sym c.take_value.ensures.value ∙ c.in-Some.is))

pub returns-in-Some-clause-kept : goal.returns-in-Some-clause-kept
returns-in-Some-clause-kept g c =
    record { held = subst (λ l. IsHeld l c.args.self.now.capacity) (sym (operations_taken c.args.self.now.cells.items c.args.self.now.index.items c.args.self.now.free.items c.args.self.now.counts c.args.self.now.idle c.args.self.now.capacity c.requires.linked c.in-Ok.at c.index.result.now (rw c.deref.ensures.value at c.in-Ok.ensures.found).within c.index.ensures c.take_value.new.cells.items c.take_value.ensures.size c.take_value.ensures.puts c.args.op (named_at c.args.self.now.index.items c.args.op c.in-Ok.at c.index.result.now (rw c.deref.ensures.value at c.in-Ok.ensures.found) c.index.ensures))) (kept_taken (operations_in (entries c.args.self.now.cells.items c.args.self.now.index.items)) c.args.self.now.capacity c.args.op c.requires.held); linked = linked_taken c.args.self.now.cells.items c.args.self.now.index.items c.args.self.now.free.items c.args.self.now.counts c.args.self.now.idle c.args.self.now.capacity c.requires.linked c.in-Ok.at c.index.result.now (rw c.deref.ensures.value at c.in-Ok.ensures.found).within c.index.ensures c.take_value.new.cells.items c.take_value.ensures.size c.take_value.ensures.puts c.unlink.new.self c.unlink.ensures.unlinks c.unlink.ensures.sound; memory = record { for_cells = omega (arith, c.take_value.ensures.capacity, c.requires.memory.for_cells); for_index = c.requires.memory.for_index; for_free = c.requires.memory.for_free; for_counts = c.requires.memory.for_counts } }

pub returns-in-Some-clause-answer : goal.returns-in-Some-clause-answer
returns-in-Some-clause-answer g c =
    rw (present c.args.self.now.cells.items c.args.self.now.index.items c.args.self.now.free.items c.args.self.now.counts c.args.self.now.idle c.args.self.now.capacity c.requires.linked c.in-Ok.at c.index.result.now (rw c.deref.ensures.value at c.in-Ok.ensures.found).within c.index.ensures c.args.op (rw c.deref.ensures.value at c.in-Ok.ensures.found), (sym c.take_value.ensures.value ∙ c.in-Some.is)) refl

pub returns-in-Some-clause-operations : goal.returns-in-Some-clause-operations
returns-in-Some-clause-operations g c =
    operations_taken c.args.self.now.cells.items c.args.self.now.index.items c.args.self.now.free.items c.args.self.now.counts c.args.self.now.idle c.args.self.now.capacity c.requires.linked c.in-Ok.at c.index.result.now (rw c.deref.ensures.value at c.in-Ok.ensures.found).within c.index.ensures c.take_value.new.cells.items c.take_value.ensures.size c.take_value.ensures.puts c.args.op (named_at c.args.self.now.index.items c.args.op c.in-Ok.at c.index.result.now (rw c.deref.ensures.value at c.in-Ok.ensures.found) c.index.ensures)

pub returns-in-None-clause-kept : goal.returns-in-None-clause-kept
returns-in-None-clause-kept g c =
    record { held = subst (λ l. IsHeld l c.args.self.now.capacity) (sym (operations_same c.args.self.now.cells.items c.args.self.now.index.items c.args.self.now.free.items c.args.self.now.counts c.args.self.now.idle c.args.self.now.capacity c.requires.linked c.in-Ok.at c.index.result.now (rw c.deref.ensures.value at c.in-Ok.ensures.found).within c.index.ensures c.take_value.new.cells.items c.take_value.ensures.size c.take_value.ensures.puts (sym c.take_value.ensures.value ∙ c.in-None.is))) c.requires.held; linked = linked_busy c.args.self.now.cells.items c.args.self.now.index.items c.args.self.now.free.items c.args.self.now.counts c.args.self.now.idle c.args.self.now.capacity c.requires.linked c.in-Ok.at c.index.result.now (rw c.deref.ensures.value at c.in-Ok.ensures.found).within c.index.ensures c.take_value.new.cells.items c.take_value.ensures.size c.take_value.ensures.puts (sym c.take_value.ensures.value ∙ c.in-None.is); memory = record { for_cells = omega (arith, c.take_value.ensures.capacity, c.requires.memory.for_cells); for_index = c.requires.memory.for_index; for_free = c.requires.memory.for_free; for_counts = c.requires.memory.for_counts } }

pub returns-in-None-clause-answer : goal.returns-in-None-clause-answer
returns-in-None-clause-answer g c =
    rw (present c.args.self.now.cells.items c.args.self.now.index.items c.args.self.now.free.items c.args.self.now.counts c.args.self.now.idle c.args.self.now.capacity c.requires.linked c.in-Ok.at c.index.result.now (rw c.deref.ensures.value at c.in-Ok.ensures.found).within c.index.ensures c.args.op (rw c.deref.ensures.value at c.in-Ok.ensures.found), (sym c.take_value.ensures.value ∙ c.in-None.is)) refl

pub returns-in-None-clause-operations : goal.returns-in-None-clause-operations
returns-in-None-clause-operations g c =
    operations_taken c.args.self.now.cells.items c.args.self.now.index.items c.args.self.now.free.items c.args.self.now.counts c.args.self.now.idle c.args.self.now.capacity c.requires.linked c.in-Ok.at c.index.result.now (rw c.deref.ensures.value at c.in-Ok.ensures.found).within c.index.ensures c.take_value.new.cells.items c.take_value.ensures.size c.take_value.ensures.puts c.args.op (named_at c.args.self.now.index.items c.args.op c.in-Ok.at c.index.result.now (rw c.deref.ensures.value at c.in-Ok.ensures.found) c.index.ensures)

pub returns-in-None-clause-same : goal.returns-in-None-clause-same
returns-in-None-clause-same g c =
    λ e. operations_same c.args.self.now.cells.items c.args.self.now.index.items c.args.self.now.free.items c.args.self.now.counts c.args.self.now.idle c.args.self.now.capacity c.requires.linked c.in-Ok.at c.index.result.now (rw c.deref.ensures.value at c.in-Ok.ensures.found).within c.index.ensures c.take_value.new.cells.items c.take_value.ensures.size c.take_value.ensures.puts (sym c.take_value.ensures.value ∙ c.in-None.is)
