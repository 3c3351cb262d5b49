use Rattle.std.proofs.Common.{refl}
use Rattle.outside_net.proofs.listener.PortListenerListener.done.Goals as goal

pub returns-clause-gives : goal.returns-clause-gives
returns-clause-gives g c = refl
