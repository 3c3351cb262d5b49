use Rattle.keystore_server.proofs.words.form_in.Goals as goal

pub returns-clause-form : goal.returns-clause-form
returns-clause-form c = rw (← c.in_ok-port.ensures.number, ← c.in_ok-connections.ensures.number, ← c.in_ok-workers.ensures.number)
