use Rattle.std.proofs.Common.{sym, subst, arith}
use Rattle.operation_slots.specs.declared.cells.Cell.{Cell}
use Rattle.operation_slots.specs.Boards.{operations_on}
use Rattle.operation_slots.proofs.Reading.{cell_read}
use Rattle.operation_slots.specs.Table.{IsOldestAmong}
use Rattle.operation_slots.proofs.OldestIdle.{first_is, none_left}
use Rattle.operation_slots.proofs.board.SlotBoard.oldest_idle.Goals as goal

pub returns-in_err-place-clause-none : goal.returns-in_err-place-clause-none
returns-in_err-place-clause-none g c =
    rw c.from_residual.ensures (none_left c.args.self.now.cells.items c.args.self.now.index.items c.args.self.now.free.items c.args.self.now.counts c.args.self.now.idle c.args.self.now.capacity c.requires.linked c.args.uid c.in_err-place.ensures.first)

pub index-requires : goal.index-requires
index-requires g c =
    omega (arith, (first_is c.args.self.now.cells.items c.args.self.now.index.items c.args.self.now.free.items c.args.self.now.counts c.args.self.now.idle c.args.self.now.capacity c.requires.linked c.args.uid c.in_ok-place.place c.in_ok-place.ensures.first).within)

pub returns-clause-some : goal.returns-clause-some
returns-clause-some g c =
    subst (λ (k : Cell _). IsOldestAmong (operations_on c.args.self.now) c.args.uid k.operation.number k.operation.stamp) (sym (cell_read c.args.self.now.cells.items c.in_ok-place.place c.index.result.now (first_is c.args.self.now.cells.items c.args.self.now.index.items c.args.self.now.free.items c.args.self.now.counts c.args.self.now.idle c.args.self.now.capacity c.requires.linked c.args.uid c.in_ok-place.place c.in_ok-place.ensures.first).within c.index.ensures)) (first_is c.args.self.now.cells.items c.args.self.now.index.items c.args.self.now.free.items c.args.self.now.counts c.args.self.now.idle c.args.self.now.capacity c.requires.linked c.args.uid c.in_ok-place.place c.in_ok-place.ensures.first).oldest
