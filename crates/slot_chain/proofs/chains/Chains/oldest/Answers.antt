use Rattle.slot_chain.proofs.Calls.{first_found, none_found, sound_seen}
use Rattle.slot_chain.proofs.chains.Chains.oldest.Goals as goal

pub returns-in-Ok-clause-first : goal.returns-in-Ok-clause-first
returns-in-Ok-clause-first g c = first_found c.args.self.now c.self.inside.links.items c.self.inside.heads.items _ c.args.uid c.in-Ok.at c.index.result.now c.self.view_is c.self.invariant (rw c.deref.ensures.value at c.in-Ok.ensures.found) c.index.ensures

pub returns-in-Ok-clause-sound : goal.returns-in-Ok-clause-sound
returns-in-Ok-clause-sound g c = sound_seen c.args.self.now c.self.inside.links.items c.self.inside.heads.items _ c.self.view_is c.self.invariant

pub returns-in-Err-clause-first : goal.returns-in-Err-clause-first
returns-in-Err-clause-first g c = none_found c.args.self.now c.self.inside.links.items c.self.inside.heads.items c.args.uid c.in-Err._at c.self.view_is (rw c.deref.ensures.value at c.in-Err.ensures.absent)

pub returns-in-Err-clause-sound : goal.returns-in-Err-clause-sound
returns-in-Err-clause-sound g c = sound_seen c.args.self.now c.self.inside.links.items c.self.inside.heads.items _ c.self.view_is c.self.invariant
