use Rattle.std.proofs.Common.{refl}
use Rattle.ks_outside.proofs.listener.MemoryListenerListener.next.Goals as goal

pub returns-in-None-clause-gives : goal.returns-in-None-clause-gives
returns-in-None-clause-gives c = refl

pub returns-in-None-clause-ends : goal.returns-in-None-clause-ends
returns-in-None-clause-ends c = c.saturating_add-self-in-None.ensures
