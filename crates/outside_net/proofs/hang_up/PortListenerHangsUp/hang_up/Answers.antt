use Rattle.std.proofs.Common.{refl}
use Rattle.outside_net.proofs.hang_up.PortListenerHangsUp.hang_up.Goals as goal

pub returns : goal.returns
returns g c = record { leaves = refl }
