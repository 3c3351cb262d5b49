use Rattle.shared_service.proofs.record.Record.settle.Goals as goal

pub returns-in-Some-clause-added : goal.returns-in-Some-clause-added
returns-in-Some-clause-added c = rw c.in-Some.is (cc)
