use Rattle.keystore_server.proofs.service.refusal.Goals as goal

pub returns-in-Corrupted : goal.returns-in-Corrupted
returns-in-Corrupted c = rw c.in-Corrupted.is
