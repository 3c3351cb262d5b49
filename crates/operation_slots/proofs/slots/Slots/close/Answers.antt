use Rattle.std.proofs.Common.{◌<◌, All, subst}
use Rattle.operation_slots.specs.Table.{IsSound}
use Rattle.operation_slots.specs.Boards.{operations_on}
use Rattle.operation_slots.proofs.Seeing.{sound_seen, found_closed, later_closed, room_closed}
use Rattle.operation_slots.proofs.slots.Slots.close.Goals as goal

pub returns-clause-sound : goal.returns-clause-sound
returns-clause-sound g c =
    subst IsSound c.self.view_is (sound_seen c.self.inside.board c.self.invariant)

pub returns-clause-found : goal.returns-clause-found
returns-clause-found g c =
    rw (← c.self.view_is) (found_closed c.close.result (operations_on c.self.inside.board) (operations_on c.close.new.self) c.args.op c.close.ensures.some)

pub returns-clause-later : goal.returns-clause-later
returns-clause-later g c =
    λ next h. let before : All (λ o. o.stamp < next) (operations_on c.self.inside.board) = rw (← c.self.view_is) at h in later_closed c.close.result (operations_on c.self.inside.board) (operations_on c.close.new.self) c.args.op next c.close.ensures.some c.close.ensures.none before

pub returns-clause-room : goal.returns-clause-room
returns-clause-room g c =
    rw c.close.ensures.capacity (room_closed c.close.result (operations_on c.self.inside.board) (operations_on c.close.new.self) c.self.inside.board.capacity c.args.op c.self.invariant.held.within c.close.ensures.value c.close.ensures.some)
