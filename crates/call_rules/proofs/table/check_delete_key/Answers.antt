use Rattle.call_rules.proofs.table.check_delete_key.Goals as goal

pub returns-clause-first : goal.returns-clause-first
returns-clause-first c = rw c.names_key.ensures at c.check_key_call.ensures.first
