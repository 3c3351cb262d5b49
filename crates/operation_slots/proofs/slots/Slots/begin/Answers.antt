use Rattle.std.proofs.Common.{◌<◌, All}
use Rattle.std.proofs.lemmas.Bool.{ltb-true}
use Rattle.operation_slots.specs.Table.{idle_operation}
use Rattle.operation_slots.specs.Boards.{operations_on}
use Rattle.operation_slots.proofs.Keeping.{later_begun}
use Rattle.operation_slots.proofs.Lists.{found_begun}
use Rattle.operation_slots.proofs.slots.Slots.begin.Goals as goal

pub begin-requires-clause-room : goal.begin-requires-clause-room
begin-requires-clause-room g c =
    ltb-true _ _ (rw (← c.self.view_is) at c.requires.room)

pub begin-requires-clause-fresh : goal.begin-requires-clause-fresh
begin-requires-clause-fresh g c =
    rw (← c.self.view_is) at c.requires.fresh

pub begin-requires-clause-later : goal.begin-requires-clause-later
begin-requires-clause-later g c =
    rw (← c.self.view_is) at c.requires.later

pub returns-clause-found : goal.returns-clause-found
returns-clause-found g c =
    λ number. rw (c.begin.ensures.operations, ← c.self.view_is) (found_begun (operations_on c.self.inside.board) (idle_operation c.args.op c.args.uid c.args.client c.args.stamp c.args.value) number (rw (← c.self.view_is) at c.requires.fresh))

pub returns-clause-later : goal.returns-clause-later
returns-clause-later g c =
    λ next h l. let before : All (λ o. o.stamp < next) (operations_on c.self.inside.board) = rw (← c.self.view_is) at h in rw c.begin.ensures.operations (later_begun (operations_on c.self.inside.board) (idle_operation c.args.op c.args.uid c.args.client c.args.stamp c.args.value) next before l)
