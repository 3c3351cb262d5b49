use Rattle.keystore_server.proofs.service.status_after.Goals as goal

pub returns-in-ListenFault : goal.returns-in-ListenFault
returns-in-ListenFault c = rw c.in-ListenFault.is
