use Rattle.operation_slots.proofs.slots.Slots.oldest_idle.Goals as goal

pub returns-clause-some : goal.returns-clause-some
returns-clause-some g c =
    rw (← c.self.view_is) c.oldest_idle.ensures.some

pub returns-clause-none : goal.returns-clause-none
returns-clause-none g c =
    rw (← c.self.view_is) c.oldest_idle.ensures.none
