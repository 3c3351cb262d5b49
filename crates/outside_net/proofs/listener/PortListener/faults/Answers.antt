use Rattle.outside_net.proofs.listener.PortListener.faults.Goals as goal

pub returns : goal.returns
returns g c = c.count.ensures
