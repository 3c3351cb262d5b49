use Rattle.std.proofs.Common.{◌<◌, All, refl, subst}
use Rattle.operation_slots.specs.Table.{IsSound, given_back}
use Rattle.operation_slots.specs.Boards.{operations_on}
use Rattle.operation_slots.proofs.Keeping.{later_change}
use Rattle.operation_slots.proofs.Lists.{found_change}
use Rattle.operation_slots.proofs.Seeing.{sound_seen}
use Rattle.operation_slots.proofs.slots.Slots.give.Goals as goal

pub give-requires-clause-busy : goal.give-requires-clause-busy
give-requires-clause-busy g c =
    rw (← c.self.view_is) at c.requires.busy

pub give-requires-clause-later : goal.give-requires-clause-later
give-requires-clause-later g c =
    rw (← c.self.view_is) at c.requires.later

pub returns-clause-sound : goal.returns-clause-sound
returns-clause-sound g c =
    subst IsSound c.self.view_is (sound_seen c.self.inside.board c.self.invariant)

pub returns-clause-found : goal.returns-clause-found
returns-clause-found g c =
    λ number. rw (c.give.ensures.operations, ← c.self.view_is) (found_change c.args.op (given_back c.args.stamp c.args.value) (λ o. refl) (operations_on c.self.inside.board) number)

pub returns-clause-later : goal.returns-clause-later
returns-clause-later g c =
    λ next h l. let before : All (λ o. o.stamp < next) (operations_on c.self.inside.board) = rw (← c.self.view_is) at h in rw c.give.ensures.operations (later_change c.args.op (given_back c.args.stamp c.args.value) (operations_on c.self.inside.board) next before (λ o k. l))
