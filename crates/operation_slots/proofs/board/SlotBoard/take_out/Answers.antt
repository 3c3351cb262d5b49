use Rattle.std.proofs.Common.{get_or, sym, ap, ◌∙◌, arith}
use Rattle.operation_slots.specs.Boards.{operations_in, operations_on}
use Rattle.operation_slots.proofs.Lists.{all_left}
use Rattle.operation_slots.proofs.Reading.{named_at}
use Rattle.operation_slots.proofs.Boards.{absent, length_entries, operations_less}
use Rattle.std.proofs.lemmas.List.{get_or_default}
use Rattle.operation_slots.proofs.board.SlotBoard.take_out.Goals as goal

pub take_out_at-requires-clause-at : goal.take_out_at-requires-clause-at
take_out_at-requires-clause-at g c =
    omega (arith, (rw c.deref.ensures.value at c.in-Ok.ensures.found).within, length_entries c.args.self.now.cells.items c.args.self.now.index.items c.args.self.now.free.items c.args.self.now.counts c.args.self.now.idle c.args.self.now.capacity c.requires.linked)

pub returns-in-Err-clause-operations : goal.returns-in-Err-clause-operations
returns-in-Err-clause-operations g c =
    sym (all_left c.args.op (operations_on c.args.self.now) (absent c.args.self.now.cells.items c.args.self.now.index.items c.args.self.now.free.items c.args.self.now.counts c.args.self.now.idle c.args.self.now.capacity c.requires.linked c.args.op c.in-Err._at (rw c.deref.ensures.value at c.in-Err.ensures.absent)))

pub returns-clause-operations : goal.returns-clause-operations
returns-clause-operations g c =
    ap operations_in c.take_out_at.ensures.entries ∙ operations_less c.args.self.now.cells.items c.args.self.now.index.items c.args.self.now.free.items c.args.self.now.counts c.args.self.now.idle c.args.self.now.capacity c.requires.linked c.in-Ok.at (get_or c.args.self.now.index.items c.in-Ok.at (record { number = 0; place = 0 })) (rw c.deref.ensures.value at c.in-Ok.ensures.found).within (get_or_default c.args.self.now.index.items c.in-Ok.at (record { number = 0; place = 0 }) (get_or c.args.self.now.index.items c.in-Ok.at (record { number = 0; place = 0 })) (rw c.deref.ensures.value at c.in-Ok.ensures.found).within) c.args.op (named_at c.args.self.now.index.items c.args.op c.in-Ok.at (get_or c.args.self.now.index.items c.in-Ok.at (record { number = 0; place = 0 })) (rw c.deref.ensures.value at c.in-Ok.ensures.found) (get_or_default c.args.self.now.index.items c.in-Ok.at (record { number = 0; place = 0 }) (get_or c.args.self.now.index.items c.in-Ok.at (record { number = 0; place = 0 })) (rw c.deref.ensures.value at c.in-Ok.ensures.found).within))
