use Rattle.shared_service.specs.Passes.{service_lock, service_name}
use Rattle.shared_service.proofs.Naming.{seen_named}
use Rattle.shared_service.proofs.shared.Shared.seated.Goals as goal

pub invariant_of-result : goal.invariant_of-result
invariant_of-result g c =
    let self = c.args.self.now in
    record { seen = λ lock name at. seen_named c.args.pass (service_lock self) lock (service_name self) name _ _ c.args.kept.client c.args.kept.connected c.requires.resting at c.requires.seen }
