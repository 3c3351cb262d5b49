use Rattle.std.proofs.Common.{subst, arith}
use Rattle.operation_slots.specs.Table.{IsSound}
use Rattle.operation_slots.proofs.Seeing.{sound_seen, open_seen}
use Rattle.operation_slots.proofs.slots.Slots.open_count.Goals as goal

pub returns-clause-count : goal.returns-clause-count
returns-clause-count g c =
    rw (← c.self.view_is) (omega (arith, c.len.ensures, open_seen c.self.inside.board c.self.invariant))

pub returns-clause-sound : goal.returns-clause-sound
returns-clause-sound g c =
    subst IsSound c.self.view_is (sound_seen c.self.inside.board c.self.invariant)
