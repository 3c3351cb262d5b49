use Rattle.std.proofs.Common.{arith}
use Rattle.slot_chain.proofs.Calls.{owner_seen, owner_past, sound_seen}
use Rattle.slot_chain.proofs.chains.Chains.owner.Goals as goal

pub returns-then-at-len-clause-owner : goal.returns-then-at-len-clause-owner
returns-then-at-len-clause-owner c = owner_seen c.args.self.now c.self.inside.links.items c.self.inside.heads.items c.args.at c.index.result.now c.self.view_is (omega arith) c.index.ensures

pub returns-then-at-len-clause-sound : goal.returns-then-at-len-clause-sound
returns-then-at-len-clause-sound c = sound_seen c.args.self.now c.self.inside.links.items c.self.inside.heads.items c.self.inside.heads.cap c.self.view_is c.self.invariant

pub returns-else-at-len-clause-owner : goal.returns-else-at-len-clause-owner
returns-else-at-len-clause-owner c = owner_past c.args.self.now c.self.inside.links.items c.self.inside.heads.items c.args.at c.self.view_is (omega arith)

pub returns-else-at-len-clause-sound : goal.returns-else-at-len-clause-sound
returns-else-at-len-clause-sound c = sound_seen c.args.self.now c.self.inside.links.items c.self.inside.heads.items c.self.inside.heads.cap c.self.view_is c.self.invariant
