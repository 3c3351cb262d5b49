use Rattle.shared_service.proofs.NewPasses.{seen_nothing}
use Rattle.shared_service.proofs.shared.making.new_pass.Goals as goal

pub invariant_of-result : goal.invariant_of-result
invariant_of-result g c = record { seen = λ lock name at. seen_nothing name _ _ c.requires.new }
