use Rattle.keystore_server.proofs.workers.add.Goals as goal

pub returns-clause-added : goal.returns-clause-added
returns-clause-added g c = c.in-Ok.ensures.items
