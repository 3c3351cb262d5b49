use Rattle.shared_service.proofs.prepared.client_event.Goals as goal

pub returns : goal.returns
returns c = rw c.client_by.ensures
