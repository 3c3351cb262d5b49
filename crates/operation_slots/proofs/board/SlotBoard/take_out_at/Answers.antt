use Rattle.std.proofs.Common.{is_some, refl, sym, ap, ◌∙◌, subst, arith}
use Rattle.operation_slots.specs.declared.cells.Cell.{Cell}
use Rattle.operation_slots.specs.Boards.{IsHeld, entries, operations_in}
use Rattle.operation_slots.proofs.Keeping.{kept_without}
use Rattle.operation_slots.proofs.Reading.{cell_read}
use Rattle.operation_slots.proofs.Boards.{place_within, in_chain, length_entries, entries_less, operations_less, linked_closed, linked_ended, is_counted, read_at}
use Rattle.operation_slots.specs.Boards.{PlacedOperation}
use Rattle.operation_slots.proofs.board.SlotBoard.take_out_at.Goals as goal

pub remove-place-requires : goal.remove-place-requires
remove-place-requires g c =
    omega (arith, c.requires.at, length_entries c.args.self.now.cells.items c.args.self.now.index.items c.args.self.now.free.items c.args.self.now.counts c.args.self.now.idle c.args.self.now.capacity c.requires.kept.linked)

pub set_free-requires : goal.set_free-requires
set_free-requires g c =
    omega (arith, c.requires.at, length_entries c.args.self.now.cells.items c.args.self.now.index.items c.args.self.now.free.items c.args.self.now.counts c.args.self.now.idle c.args.self.now.capacity c.requires.kept.linked, c.requires.kept.linked.rest, c.requires.kept.linked.cells_few, c.requires.kept.memory.for_free)

pub index-requires : goal.index-requires
index-requires g c =
    omega (arith, place_within c.args.self.now.cells.items c.args.self.now.index.items c.args.self.now.free.items c.args.self.now.counts c.args.self.now.idle c.args.self.now.capacity c.requires.kept.linked c.args.at c.remove-place.result (omega (arith, c.requires.at, length_entries c.args.self.now.cells.items c.args.self.now.index.items c.args.self.now.free.items c.args.self.now.counts c.args.self.now.idle c.args.self.now.capacity c.requires.kept.linked)) c.remove-place.ensures.value)

pub lower-requires : goal.lower-requires
lower-requires g c =
    rw (cell_read c.args.self.now.cells.items c.remove-place.result.place c.index.result.now (place_within c.args.self.now.cells.items c.args.self.now.index.items c.args.self.now.free.items c.args.self.now.counts c.args.self.now.idle c.args.self.now.capacity c.requires.kept.linked c.args.at c.remove-place.result (omega (arith, c.requires.at, length_entries c.args.self.now.cells.items c.args.self.now.index.items c.args.self.now.free.items c.args.self.now.counts c.args.self.now.idle c.args.self.now.capacity c.requires.kept.linked)) c.remove-place.ensures.value) c.index.ensures) (is_counted c.args.self.now.cells.items c.args.self.now.index.items c.args.self.now.free.items c.args.self.now.counts c.args.self.now.idle c.args.self.now.capacity c.requires.kept.linked c.args.at c.remove-place.result (omega (arith, c.requires.at, length_entries c.args.self.now.cells.items c.args.self.now.index.items c.args.self.now.free.items c.args.self.now.counts c.args.self.now.idle c.args.self.now.capacity c.requires.kept.linked)) c.remove-place.ensures.value)

pub take_value-requires : goal.take_value-requires
take_value-requires g c =
    place_within c.args.self.now.cells.items c.args.self.now.index.items c.args.self.now.free.items c.args.self.now.counts c.args.self.now.idle c.args.self.now.capacity c.requires.kept.linked c.args.at c.remove-place.result (omega (arith, c.requires.at, length_entries c.args.self.now.cells.items c.args.self.now.index.items c.args.self.now.free.items c.args.self.now.counts c.args.self.now.idle c.args.self.now.capacity c.requires.kept.linked)) c.remove-place.ensures.value

pub unlink-requires : goal.unlink-requires
unlink-requires g c =
    in_chain c.args.self.now.cells.items c.args.self.now.index.items c.args.self.now.free.items c.args.self.now.counts c.args.self.now.idle c.args.self.now.capacity c.requires.kept.linked c.args.at c.remove-place.result (omega (arith, c.requires.at, length_entries c.args.self.now.cells.items c.args.self.now.index.items c.args.self.now.free.items c.args.self.now.counts c.args.self.now.idle c.args.self.now.capacity c.requires.kept.linked)) c.remove-place.ensures.value (ap (λ o. is_some o) (sym c.take_value.ensures.value ∙ c.in-Some.is))

pub returns-in-Some-clause-kept : goal.returns-in-Some-clause-kept
returns-in-Some-clause-kept g c =
    record { held = rw c.remove-place.ensures.items (subst (λ l. IsHeld l c.args.self.now.capacity) (sym (ap operations_in (entries_less c.args.self.now.cells.items c.args.self.now.index.items c.args.self.now.free.items c.args.self.now.counts c.args.self.now.idle c.args.self.now.capacity c.requires.kept.linked c.args.at c.remove-place.result (omega (arith, c.requires.at, length_entries c.args.self.now.cells.items c.args.self.now.index.items c.args.self.now.free.items c.args.self.now.counts c.args.self.now.idle c.args.self.now.capacity c.requires.kept.linked)) c.remove-place.ensures.value c.take_value.new.cells.items c.take_value.ensures.size c.take_value.ensures.puts) ∙ operations_less c.args.self.now.cells.items c.args.self.now.index.items c.args.self.now.free.items c.args.self.now.counts c.args.self.now.idle c.args.self.now.capacity c.requires.kept.linked c.args.at c.remove-place.result (omega (arith, c.requires.at, length_entries c.args.self.now.cells.items c.args.self.now.index.items c.args.self.now.free.items c.args.self.now.counts c.args.self.now.idle c.args.self.now.capacity c.requires.kept.linked)) c.remove-place.ensures.value c.remove-place.result.number refl)) (kept_without (operations_in (entries c.args.self.now.cells.items c.args.self.now.index.items)) c.args.self.now.capacity c.remove-place.result.number c.requires.kept.held)); linked = rw (c.remove-place.ensures.items, c.set_free.ensures.items) (linked_closed c.args.self.now.cells.items c.args.self.now.index.items c.args.self.now.free.items c.args.self.now.counts c.args.self.now.idle c.args.self.now.capacity c.requires.kept.linked c.args.at c.remove-place.result (omega (arith, c.requires.at, length_entries c.args.self.now.cells.items c.args.self.now.index.items c.args.self.now.free.items c.args.self.now.counts c.args.self.now.idle c.args.self.now.capacity c.requires.kept.linked)) c.remove-place.ensures.value c.take_value.new.cells.items c.take_value.ensures.size c.take_value.ensures.puts c.lower.new.self c.unlink.new.self (rw (ap (λ (k : Cell _). k.operation.uid) (cell_read c.args.self.now.cells.items c.remove-place.result.place c.index.result.now (place_within c.args.self.now.cells.items c.args.self.now.index.items c.args.self.now.free.items c.args.self.now.counts c.args.self.now.idle c.args.self.now.capacity c.requires.kept.linked c.args.at c.remove-place.result (omega (arith, c.requires.at, length_entries c.args.self.now.cells.items c.args.self.now.index.items c.args.self.now.free.items c.args.self.now.counts c.args.self.now.idle c.args.self.now.capacity c.requires.kept.linked)) c.remove-place.ensures.value) c.index.ensures)) at c.lower.ensures) c.unlink.ensures.unlinks c.unlink.ensures.sound); memory = record { for_cells = omega (arith, c.take_value.ensures.capacity, c.requires.kept.memory.for_cells); for_index = omega (arith, c.remove-place.ensures.capacity, c.requires.kept.memory.for_index); for_free = omega (arith, c.set_free.ensures.capacity, c.requires.kept.memory.for_free); for_counts = omega (arith, c.lower.ensures.room, c.requires.kept.memory.for_counts) } }

pub returns-in-Some-clause-value : goal.returns-in-Some-clause-value
returns-in-Some-clause-value g c =
    λ e h. sym (sym c.take_value.ensures.value ∙ c.in-Some.is) ∙ ap (λ (x : PlacedOperation _). x.cell.operation.value) (read_at c.args.self.now.cells.items c.args.self.now.index.items c.args.self.now.free.items c.args.self.now.counts c.args.self.now.idle c.args.self.now.capacity c.requires.kept.linked c.args.at c.remove-place.result (omega (arith, c.requires.at, length_entries c.args.self.now.cells.items c.args.self.now.index.items c.args.self.now.free.items c.args.self.now.counts c.args.self.now.idle c.args.self.now.capacity c.requires.kept.linked)) c.remove-place.ensures.value e h)

pub returns-in-Some-clause-entries : goal.returns-in-Some-clause-entries
returns-in-Some-clause-entries g c =
    rw c.remove-place.ensures.items (entries_less c.args.self.now.cells.items c.args.self.now.index.items c.args.self.now.free.items c.args.self.now.counts c.args.self.now.idle c.args.self.now.capacity c.requires.kept.linked c.args.at c.remove-place.result (omega (arith, c.requires.at, length_entries c.args.self.now.cells.items c.args.self.now.index.items c.args.self.now.free.items c.args.self.now.counts c.args.self.now.idle c.args.self.now.capacity c.requires.kept.linked)) c.remove-place.ensures.value c.take_value.new.cells.items c.take_value.ensures.size c.take_value.ensures.puts)

pub returns-in-None-clause-kept : goal.returns-in-None-clause-kept
returns-in-None-clause-kept g c =
    record { held = rw c.remove-place.ensures.items (subst (λ l. IsHeld l c.args.self.now.capacity) (sym (ap operations_in (entries_less c.args.self.now.cells.items c.args.self.now.index.items c.args.self.now.free.items c.args.self.now.counts c.args.self.now.idle c.args.self.now.capacity c.requires.kept.linked c.args.at c.remove-place.result (omega (arith, c.requires.at, length_entries c.args.self.now.cells.items c.args.self.now.index.items c.args.self.now.free.items c.args.self.now.counts c.args.self.now.idle c.args.self.now.capacity c.requires.kept.linked)) c.remove-place.ensures.value c.take_value.new.cells.items c.take_value.ensures.size c.take_value.ensures.puts) ∙ operations_less c.args.self.now.cells.items c.args.self.now.index.items c.args.self.now.free.items c.args.self.now.counts c.args.self.now.idle c.args.self.now.capacity c.requires.kept.linked c.args.at c.remove-place.result (omega (arith, c.requires.at, length_entries c.args.self.now.cells.items c.args.self.now.index.items c.args.self.now.free.items c.args.self.now.counts c.args.self.now.idle c.args.self.now.capacity c.requires.kept.linked)) c.remove-place.ensures.value c.remove-place.result.number refl)) (kept_without (operations_in (entries c.args.self.now.cells.items c.args.self.now.index.items)) c.args.self.now.capacity c.remove-place.result.number c.requires.kept.held)); linked = rw (c.remove-place.ensures.items, c.set_free.ensures.items) (linked_ended c.args.self.now.cells.items c.args.self.now.index.items c.args.self.now.free.items c.args.self.now.counts c.args.self.now.idle c.args.self.now.capacity c.requires.kept.linked c.args.at c.remove-place.result (omega (arith, c.requires.at, length_entries c.args.self.now.cells.items c.args.self.now.index.items c.args.self.now.free.items c.args.self.now.counts c.args.self.now.idle c.args.self.now.capacity c.requires.kept.linked)) c.remove-place.ensures.value c.take_value.new.cells.items c.take_value.ensures.size c.take_value.ensures.puts c.lower.new.self (rw (ap (λ (k : Cell _). k.operation.uid) (cell_read c.args.self.now.cells.items c.remove-place.result.place c.index.result.now (place_within c.args.self.now.cells.items c.args.self.now.index.items c.args.self.now.free.items c.args.self.now.counts c.args.self.now.idle c.args.self.now.capacity c.requires.kept.linked c.args.at c.remove-place.result (omega (arith, c.requires.at, length_entries c.args.self.now.cells.items c.args.self.now.index.items c.args.self.now.free.items c.args.self.now.counts c.args.self.now.idle c.args.self.now.capacity c.requires.kept.linked)) c.remove-place.ensures.value) c.index.ensures)) at c.lower.ensures) (sym c.take_value.ensures.value ∙ c.in-None.is)); memory = record { for_cells = omega (arith, c.take_value.ensures.capacity, c.requires.kept.memory.for_cells); for_index = omega (arith, c.remove-place.ensures.capacity, c.requires.kept.memory.for_index); for_free = omega (arith, c.set_free.ensures.capacity, c.requires.kept.memory.for_free); for_counts = omega (arith, c.lower.ensures.room, c.requires.kept.memory.for_counts) } }

pub returns-in-None-clause-value : goal.returns-in-None-clause-value
returns-in-None-clause-value g c =
    λ e h. sym (sym c.take_value.ensures.value ∙ c.in-None.is) ∙ ap (λ (x : PlacedOperation _). x.cell.operation.value) (read_at c.args.self.now.cells.items c.args.self.now.index.items c.args.self.now.free.items c.args.self.now.counts c.args.self.now.idle c.args.self.now.capacity c.requires.kept.linked c.args.at c.remove-place.result (omega (arith, c.requires.at, length_entries c.args.self.now.cells.items c.args.self.now.index.items c.args.self.now.free.items c.args.self.now.counts c.args.self.now.idle c.args.self.now.capacity c.requires.kept.linked)) c.remove-place.ensures.value e h)

pub returns-in-None-clause-entries : goal.returns-in-None-clause-entries
returns-in-None-clause-entries g c =
    rw c.remove-place.ensures.items (entries_less c.args.self.now.cells.items c.args.self.now.index.items c.args.self.now.free.items c.args.self.now.counts c.args.self.now.idle c.args.self.now.capacity c.requires.kept.linked c.args.at c.remove-place.result (omega (arith, c.requires.at, length_entries c.args.self.now.cells.items c.args.self.now.index.items c.args.self.now.free.items c.args.self.now.counts c.args.self.now.idle c.args.self.now.capacity c.requires.kept.linked)) c.remove-place.ensures.value c.take_value.new.cells.items c.take_value.ensures.size c.take_value.ensures.puts)
