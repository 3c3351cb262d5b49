use Rattle.std.proofs.Common.{◌<◌, All}
use Rattle.operation_slots.specs.Boards.{operations_on}
use Rattle.operation_slots.proofs.Keeping.{later_without}
use Rattle.operation_slots.proofs.Lists.{found_without}
use Rattle.operation_slots.proofs.slots.Slots.take_out.Goals as goal

pub returns-clause-found : goal.returns-clause-found
returns-clause-found g c =
    λ number. rw (c.take_out.ensures.operations, ← c.self.view_is) (found_without c.args.op (operations_on c.self.inside.board) number)

pub returns-clause-later : goal.returns-clause-later
returns-clause-later g c =
    λ next h. let before : All (λ o. o.stamp < next) (operations_on c.self.inside.board) = rw (← c.self.view_is) at h in rw c.take_out.ensures.operations (later_without c.args.op (operations_on c.self.inside.board) next before)
