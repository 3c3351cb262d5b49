use Rattle.slot_chain.proofs.Calls.{sound_seen}
use Rattle.slot_chain.proofs.chains.Chains.owner_count.Goals as goal

pub returns-clause-sound : goal.returns-clause-sound
returns-clause-sound c = sound_seen c.args.self.now c.self.inside.links.items c.self.inside.heads.items _ c.self.view_is c.self.invariant
