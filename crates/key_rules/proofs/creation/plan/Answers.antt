use Rattle.key_rules.proofs.creation.plan.Goals as goal

pub returns-clause-plan : goal.returns-clause-plan
returns-clause-plan c =
    rw (c.limit-limit.ensures, c.drawn_size-size.ensures.size, c.in_ok-app_id.ensures.id, c.in_ok-app_bytes.ensures.id, c.in_ok-list.ensures.kept, c.is_some.ensures)
