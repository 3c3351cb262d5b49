use Rattle.std.proofs.Common.{subst}
use Rattle.operation_slots.specs.Table.{IsSound}
use Rattle.operation_slots.proofs.Seeing.{sound_seen}
use Rattle.operation_slots.proofs.slots.Slots.idle_owners.Goals as goal

pub returns-clause-sound : goal.returns-clause-sound
returns-clause-sound g c =
    subst IsSound c.self.view_is (sound_seen c.self.inside.board c.self.invariant)
