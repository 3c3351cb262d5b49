use Rattle.std.proofs.Common.{get_or, sym, ap, ◌∙◌, arith}
use Rattle.operation_slots.specs.Boards.{operations_in}
use Rattle.operation_slots.proofs.Reading.{none_of_busy, named_at}
use Rattle.operation_slots.proofs.Boards.{absent, present, length_entries, operations_less, slice_is}
use Rattle.std.proofs.lemmas.List.{get_or_default}
use Rattle.operation_slots.proofs.board.SlotBoard.end.Goals as goal

pub unreachable-requires : goal.unreachable-requires
unreachable-requires g c =
    let busy = rw (absent c.args.self.now.cells.items c.args.self.now.index.items c.args.self.now.free.items c.args.self.now.counts c.args.self.now.idle c.args.self.now.capacity c.requires.kept.linked c.args.op c.in-Err._at (rw c.deref.ensures.value at c.in-Err.ensures.absent)) at c.requires.busy in cc

pub take_out_at-requires-clause-at : goal.take_out_at-requires-clause-at
take_out_at-requires-clause-at g c =
    omega (arith, (rw c.deref.ensures.value at c.in-Ok.ensures.found).within, length_entries c.args.self.now.cells.items c.args.self.now.index.items c.args.self.now.free.items c.args.self.now.counts c.args.self.now.idle c.args.self.now.capacity c.requires.kept.linked)

pub unreachable-requires-in-Some : goal.unreachable-requires-in-Some
unreachable-requires-in-Some g c =
    let no = sym c.in-Some.is ∙ (c.take_out_at.ensures.value _ (slice_is c.args.self.now.cells.items c.args.self.now.index.items c.args.self.now.free.items c.args.self.now.counts c.args.self.now.idle c.args.self.now.capacity c.requires.kept.linked c.in-Ok.at (get_or c.args.self.now.index.items c.in-Ok.at (record { number = 0; place = 0 })) (rw c.deref.ensures.value at c.in-Ok.ensures.found).within (get_or_default c.args.self.now.index.items c.in-Ok.at (record { number = 0; place = 0 }) (get_or c.args.self.now.index.items c.in-Ok.at (record { number = 0; place = 0 })) (rw c.deref.ensures.value at c.in-Ok.ensures.found).within))) ∙ (none_of_busy _ (rw (present c.args.self.now.cells.items c.args.self.now.index.items c.args.self.now.free.items c.args.self.now.counts c.args.self.now.idle c.args.self.now.capacity c.requires.kept.linked c.in-Ok.at (get_or c.args.self.now.index.items c.in-Ok.at (record { number = 0; place = 0 })) (rw c.deref.ensures.value at c.in-Ok.ensures.found).within (get_or_default c.args.self.now.index.items c.in-Ok.at (record { number = 0; place = 0 }) (get_or c.args.self.now.index.items c.in-Ok.at (record { number = 0; place = 0 })) (rw c.deref.ensures.value at c.in-Ok.ensures.found).within) c.args.op (rw c.deref.ensures.value at c.in-Ok.ensures.found)) at c.requires.busy)) in cc

pub returns-clause-operations : goal.returns-clause-operations
returns-clause-operations g c =
    ap operations_in c.take_out_at.ensures.entries ∙ operations_less c.args.self.now.cells.items c.args.self.now.index.items c.args.self.now.free.items c.args.self.now.counts c.args.self.now.idle c.args.self.now.capacity c.requires.kept.linked c.in-Ok.at (get_or c.args.self.now.index.items c.in-Ok.at (record { number = 0; place = 0 })) (rw c.deref.ensures.value at c.in-Ok.ensures.found).within (get_or_default c.args.self.now.index.items c.in-Ok.at (record { number = 0; place = 0 }) (get_or c.args.self.now.index.items c.in-Ok.at (record { number = 0; place = 0 })) (rw c.deref.ensures.value at c.in-Ok.ensures.found).within) c.args.op (named_at c.args.self.now.index.items c.args.op c.in-Ok.at (get_or c.args.self.now.index.items c.in-Ok.at (record { number = 0; place = 0 })) (rw c.deref.ensures.value at c.in-Ok.ensures.found) (get_or_default c.args.self.now.index.items c.in-Ok.at (record { number = 0; place = 0 }) (get_or c.args.self.now.index.items c.in-Ok.at (record { number = 0; place = 0 })) (rw c.deref.ensures.value at c.in-Ok.ensures.found).within))
