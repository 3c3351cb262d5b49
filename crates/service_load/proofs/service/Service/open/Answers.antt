use Rattle.service_load.proofs.service.Service.open.Goals as goal

pub returns-in-Ok-new-clause-count : goal.returns-in-Ok-new-clause-count
returns-in-Ok-new-clause-count c = c.in-Ok-new.ensures.count
