use Rattle.std.proofs.Common.{ap, arith}
use Rattle.operation_slots.specs.Table.{open_count}
use Rattle.operation_slots.proofs.Seeing.{all_seen, count_seen}
use Rattle.operation_slots.proofs.slots.Slots.open_of.Goals as goal

pub returns-clause-count : goal.returns-clause-count
returns-clause-count g c =
    rw (c.of.ensures.count, ← c.self.view_is) (count_seen c.self.inside.board c.self.invariant c.args.uid)

pub returns-clause-within : goal.returns-clause-within
returns-clause-within g c =
    omega (arith, c.of.ensures.within, all_seen c.self.inside.board c.self.invariant, ap (λ o. open_count o) c.self.view_is)
