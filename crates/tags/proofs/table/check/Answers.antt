use Rattle.tags.proofs.table.check.Goals as goal

pub returns-else-holds-clause-first : goal.returns-else-holds-clause-first
returns-else-holds-clause-first c = rw c.if-holds.false

pub returns-else-holds-clause-holds : goal.returns-else-holds-clause-holds
returns-else-holds-clause-holds c = tt
