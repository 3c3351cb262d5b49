use Rattle.std.proofs.lemmas.List.{map-append}
use Rattle.disk_model.proofs.calls.CallList.push_sync.Goals as goal

pub returns-clause-made : goal.returns-clause-made
returns-clause-made c = rw (c.in_ok-push.ensures.items, map-append, ← c.self.view_is)
