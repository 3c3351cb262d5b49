use Rattle.std.proofs.Common.{get_or, sym, subst, arith}
use Rattle.operation_slots.specs.Boards.{IsHeld, entries, operations_in}
use Rattle.operation_slots.proofs.Keeping.{kept_begun}
use Rattle.operation_slots.proofs.Boards.{present, open_is, out_of_chains, operations_begun, linked_begun}
use Rattle.std.proofs.lemmas.List.{get_or_default}
use Rattle.operation_slots.proofs.board.SlotBoard.begin.Goals as goal

pub lay-place-requires-clause-places : goal.lay-place-requires-clause-places
lay-place-requires-clause-places g c =
    λ n. omega (arith, c.requires.kept.linked.apart n)

pub lay-place-requires-clause-spare : goal.lay-place-requires-clause-spare
lay-place-requires-clause-spare g c =
    c.requires.kept.linked.spare

pub lay-place-requires-clause-room : goal.lay-place-requires-clause-room
lay-place-requires-clause-room g c =
    λ e. omega (arith, e, c.requires.kept.linked.rest, c.requires.room, open_is c.args.self.now.cells.items c.args.self.now.index.items c.args.self.now.free.items c.args.self.now.counts c.args.self.now.idle c.args.self.now.capacity c.requires.kept.linked, c.requires.kept.memory.for_cells)

pub lay-place-requires-clause-few : goal.lay-place-requires-clause-few
lay-place-requires-clause-few g c =
    omega (arith, c.requires.kept.linked.cells_few, c.requires.kept.held.few)

pub unreachable-requires : goal.unreachable-requires
unreachable-requires g c =
    let found = rw (present c.args.self.now.cells.items c.args.self.now.index.items c.args.self.now.free.items c.args.self.now.counts c.args.self.now.idle c.args.self.now.capacity c.requires.kept.linked c.in-Ok._at (get_or c.args.self.now.index.items c.in-Ok._at (record { number = 0; place = 0 })) (rw c.deref.ensures.value at c.in-Ok.ensures.found).within (get_or_default c.args.self.now.index.items c.in-Ok._at (record { number = 0; place = 0 }) (get_or c.args.self.now.index.items c.in-Ok._at (record { number = 0; place = 0 })) (rw c.deref.ensures.value at c.in-Ok.ensures.found).within) c.args.operation.number (rw c.deref.ensures.value at c.in-Ok.ensures.found)) at c.requires.fresh in cc

pub put_number-requires-clause-within : goal.put_number-requires-clause-within
put_number-requires-clause-within g c =
    (rw c.deref.ensures.value at c.in-Err.ensures.absent).within

pub put_number-requires-clause-room : goal.put_number-requires-clause-room
put_number-requires-clause-room g c =
    omega (arith, c.requires.room, open_is c.args.self.now.cells.items c.args.self.now.index.items c.args.self.now.free.items c.args.self.now.counts c.args.self.now.idle c.args.self.now.capacity c.requires.kept.linked, c.requires.kept.memory.for_index)

pub raise-requires-clause-room : goal.raise-requires-clause-room
raise-requires-clause-room g c =
    omega (arith, c.requires.room, open_is c.args.self.now.cells.items c.args.self.now.index.items c.args.self.now.free.items c.args.self.now.counts c.args.self.now.idle c.args.self.now.capacity c.requires.kept.linked, c.requires.kept.linked.all, c.requires.kept.memory.for_counts)

pub raise-requires-clause-few : goal.raise-requires-clause-few
raise-requires-clause-few g c =
    omega (arith, c.requires.room, open_is c.args.self.now.cells.items c.args.self.now.index.items c.args.self.now.free.items c.args.self.now.counts c.args.self.now.idle c.args.self.now.capacity c.requires.kept.linked, c.requires.kept.linked.all, c.requires.kept.held.few)

pub push_newest-requires-clause-within : goal.push_newest-requires-clause-within
push_newest-requires-clause-within g c =
    omega (arith, c.lay-place.ensures.lays.within, c.requires.kept.linked.idle_room, c.lay-place.ensures.lays.fits c.args.self.now.capacity c.requires.kept.linked.cells_few (λ e. omega (arith, e, c.requires.kept.linked.rest, c.requires.room, open_is c.args.self.now.cells.items c.args.self.now.index.items c.args.self.now.free.items c.args.self.now.counts c.args.self.now.idle c.args.self.now.capacity c.requires.kept.linked)))

pub push_newest-requires-clause-free : goal.push_newest-requires-clause-free
push_newest-requires-clause-free g c =
    out_of_chains c.args.self.now.cells.items c.args.self.now.index.items c.args.self.now.free.items c.args.self.now.counts c.args.self.now.idle c.args.self.now.capacity c.requires.kept.linked c.lay-place.new.cells.items c.lay-place.new.free.items c.lay-place.result c.args.operation c.in-Err.at c.lay-place.ensures.lays (rw c.deref.ensures.value at c.in-Err.ensures.absent) c.requires.later c.requires.idle

pub returns-clause-kept : goal.returns-clause-kept
returns-clause-kept g c =
    record { held = rw c.put_number.ensures.items (subst (λ l. IsHeld l c.args.self.now.capacity) (sym (operations_begun c.args.self.now.cells.items c.args.self.now.index.items c.args.self.now.free.items c.args.self.now.counts c.args.self.now.idle c.args.self.now.capacity c.requires.kept.linked c.lay-place.new.cells.items c.lay-place.new.free.items c.lay-place.result c.args.operation c.in-Err.at c.lay-place.ensures.lays (rw c.deref.ensures.value at c.in-Err.ensures.absent) c.requires.later c.requires.idle)) (kept_begun (operations_in (entries c.args.self.now.cells.items c.args.self.now.index.items)) c.args.self.now.capacity c.args.operation c.requires.kept.held c.requires.fresh c.requires.later c.requires.room)); linked = rw c.put_number.ensures.items (linked_begun c.args.self.now.cells.items c.args.self.now.index.items c.args.self.now.free.items c.args.self.now.counts c.args.self.now.idle c.args.self.now.capacity c.requires.kept.linked c.lay-place.new.cells.items c.lay-place.new.free.items c.lay-place.result c.args.operation c.in-Err.at c.lay-place.ensures.lays (rw c.deref.ensures.value at c.in-Err.ensures.absent) c.requires.later c.requires.idle (omega (arith, c.requires.room, open_is c.args.self.now.cells.items c.args.self.now.index.items c.args.self.now.free.items c.args.self.now.counts c.args.self.now.idle c.args.self.now.capacity c.requires.kept.linked)) c.raise.new.self c.push_newest.new.self c.raise.ensures c.push_newest.ensures.pushes c.push_newest.ensures.sound); memory = record { for_cells = omega (arith, c.lay-place.ensures.cells_capacity, c.requires.kept.memory.for_cells); for_index = omega (arith, c.put_number.ensures.capacity, c.requires.kept.memory.for_index); for_free = omega (arith, c.lay-place.ensures.free_capacity, c.requires.kept.memory.for_free); for_counts = omega (arith, c.raise.ensures.room, c.requires.kept.memory.for_counts) } }

pub returns-clause-operations : goal.returns-clause-operations
returns-clause-operations g c =
    rw c.put_number.ensures.items (operations_begun c.args.self.now.cells.items c.args.self.now.index.items c.args.self.now.free.items c.args.self.now.counts c.args.self.now.idle c.args.self.now.capacity c.requires.kept.linked c.lay-place.new.cells.items c.lay-place.new.free.items c.lay-place.result c.args.operation c.in-Err.at c.lay-place.ensures.lays (rw c.deref.ensures.value at c.in-Err.ensures.absent) c.requires.later c.requires.idle)
