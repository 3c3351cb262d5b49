use Rattle.std.proofs.Common.{arith, ap, length}
use Rattle.std.proofs.lemmas.List.{length-map}
use Rattle.slot_chain.specs.Linked.{owner_of}
use Rattle.slot_chain.proofs.Calls.{is_linked, has_head, less_only, less_first, less_last, before_within, after_within, less_inner}
use Rattle.slot_chain.proofs.chains.Chains.unlink.Goals as goal

pub link_at-link-requires : goal.link_at-link-requires
link_at-link-requires c = is_linked c.args.self.now c.self.inside.links.items c.self.inside.heads.items c.self.inside.heads.cap c.args.place c.self.view_is c.self.invariant c.requires

pub unreachable-requires : goal.unreachable-requires
unreachable-requires c = has_head c.args.self.now c.self.inside.links.items c.self.inside.heads.items c.self.inside.heads.cap c.args.place c.self.view_is c.self.invariant c.requires c.link_at-link.result c.link_at-link.ensures c.in-Err._at (rw c.deref.ensures.value at c.in-Err.ensures.absent)

pub invariant_of-self : goal.invariant_of-self
invariant_of-self c = rw (c.end_list.ensures.items, c.end_list.ensures.capacity) (less_only c.args.self.now c.self.inside.links.items c.self.inside.heads.items c.self.inside.heads.cap c.args.place c.self.view_is c.self.invariant c.requires c.link_at-link.result c.link_at-link.ensures c.in-Ok.at c.index-head.result.now (rw c.deref.ensures.value at c.in-Ok.ensures.found) c.index-head.ensures c.if-head-eq1.true).kept

pub returns-then-head-eq1-clause-unlinks : goal.returns-then-head-eq1-clause-unlinks
returns-then-head-eq1-clause-unlinks c = rw c.end_list.ensures.items (less_only c.args.self.now c.self.inside.links.items c.self.inside.heads.items c.self.inside.heads.cap c.args.place c.self.view_is c.self.invariant c.requires c.link_at-link.result c.link_at-link.ensures c.in-Ok.at c.index-head.result.now (rw c.deref.ensures.value at c.in-Ok.ensures.found) c.index-head.ensures c.if-head-eq1.true).unlinks

pub returns-then-head-eq1-clause-sound : goal.returns-then-head-eq1-clause-sound
returns-then-head-eq1-clause-sound c = rw c.end_list.ensures.items (less_only c.args.self.now c.self.inside.links.items c.self.inside.heads.items c.self.inside.heads.cap c.args.place c.self.view_is c.self.invariant c.requires c.link_at-link.result c.link_at-link.ensures c.in-Ok.at c.index-head.result.now (rw c.deref.ensures.value at c.in-Ok.ensures.found) c.index-head.ensures c.if-head-eq1.true).sound

pub invariant_of-self-then-place-head : goal.invariant_of-self-then-place-head
invariant_of-self-then-place-head c = (less_first c.args.self.now c.self.inside.links.items c.self.inside.heads.items c.self.inside.heads.cap c.args.place c.self.view_is c.self.invariant c.requires c.link_at-link.result c.link_at-link.ensures c.in-Ok.at c.index-head.result.now (rw c.deref.ensures.value at c.in-Ok.ensures.found) c.index-head.ensures c.if-head-eq1.false c.if-place-head.true).kept

pub returns-then-place-head-clause-unlinks : goal.returns-then-place-head-clause-unlinks
returns-then-place-head-clause-unlinks c = (less_first c.args.self.now c.self.inside.links.items c.self.inside.heads.items c.self.inside.heads.cap c.args.place c.self.view_is c.self.invariant c.requires c.link_at-link.result c.link_at-link.ensures c.in-Ok.at c.index-head.result.now (rw c.deref.ensures.value at c.in-Ok.ensures.found) c.index-head.ensures c.if-head-eq1.false c.if-place-head.true).unlinks

pub returns-then-place-head-clause-sound : goal.returns-then-place-head-clause-sound
returns-then-place-head-clause-sound c = (less_first c.args.self.now c.self.inside.links.items c.self.inside.heads.items c.self.inside.heads.cap c.args.place c.self.view_is c.self.invariant c.requires c.link_at-link.result c.link_at-link.ensures c.in-Ok.at c.index-head.result.now (rw c.deref.ensures.value at c.in-Ok.ensures.found) c.index-head.ensures c.if-head-eq1.false c.if-place-head.true).sound

pub invariant_of-self-then-place-head-2 : goal.invariant_of-self-then-place-head-2
invariant_of-self-then-place-head-2 c = (less_last c.args.self.now c.self.inside.links.items c.self.inside.heads.items c.self.inside.heads.cap c.args.place c.self.view_is c.self.invariant c.requires c.link_at-link.result c.link_at-link.ensures c.in-Ok.at c.index-head.result.now (rw c.deref.ensures.value at c.in-Ok.ensures.found) c.index-head.ensures c.if-place-head.false c.if-place-head-2.true).kept

pub returns-then-place-head-2-clause-unlinks : goal.returns-then-place-head-2-clause-unlinks
returns-then-place-head-2-clause-unlinks c = (less_last c.args.self.now c.self.inside.links.items c.self.inside.heads.items c.self.inside.heads.cap c.args.place c.self.view_is c.self.invariant c.requires c.link_at-link.result c.link_at-link.ensures c.in-Ok.at c.index-head.result.now (rw c.deref.ensures.value at c.in-Ok.ensures.found) c.index-head.ensures c.if-place-head.false c.if-place-head-2.true).unlinks

pub returns-then-place-head-2-clause-sound : goal.returns-then-place-head-2-clause-sound
returns-then-place-head-2-clause-sound c = (less_last c.args.self.now c.self.inside.links.items c.self.inside.heads.items c.self.inside.heads.cap c.args.place c.self.view_is c.self.invariant c.requires c.link_at-link.result c.link_at-link.ensures c.in-Ok.at c.index-head.result.now (rw c.deref.ensures.value at c.in-Ok.ensures.found) c.index-head.ensures c.if-place-head.false c.if-place-head-2.true).sound

pub put_after-requires : goal.put_after-requires
put_after-requires c = before_within c.args.self.now c.self.inside.links.items c.self.inside.heads.items c.self.inside.heads.cap c.args.place c.self.view_is c.self.invariant c.requires c.link_at-link.result c.link_at-link.ensures c.in-Ok.at c.index-head.result.now (rw c.deref.ensures.value at c.in-Ok.ensures.found) c.index-head.ensures c.if-place-head.false c.if-place-head-2.false

pub put_before-requires : goal.put_before-requires
put_before-requires c = omega (arith, after_within c.args.self.now c.self.inside.links.items c.self.inside.heads.items c.self.inside.heads.cap c.args.place c.self.view_is c.self.invariant c.requires c.link_at-link.result c.link_at-link.ensures c.in-Ok.at c.index-head.result.now (rw c.deref.ensures.value at c.in-Ok.ensures.found) c.index-head.ensures c.if-place-head.false c.if-place-head-2.false, ap length c.put_after.ensures.owners, length-map c.put_after.new.links.items owner_of, length-map c.self.inside.links.items owner_of)

pub invariant_of-self-2 : goal.invariant_of-self-2
invariant_of-self-2 c = (less_inner c.args.self.now c.self.inside.links.items c.self.inside.heads.items c.self.inside.heads.cap c.args.place c.self.view_is c.self.invariant c.requires c.link_at-link.result c.link_at-link.ensures c.in-Ok.at c.index-head.result.now (rw c.deref.ensures.value at c.in-Ok.ensures.found) c.index-head.ensures c.if-place-head.false c.if-place-head-2.false c.put_after.new.links.items c.put_before.new.links.items c.put_after.ensures.puts c.put_after.ensures.size c.put_after.ensures.owners c.put_after.ensures.befores c.put_before.ensures.puts c.put_before.ensures.size c.put_before.ensures.owners c.put_before.ensures.afters).kept

pub returns-clause-unlinks : goal.returns-clause-unlinks
returns-clause-unlinks c = (less_inner c.args.self.now c.self.inside.links.items c.self.inside.heads.items c.self.inside.heads.cap c.args.place c.self.view_is c.self.invariant c.requires c.link_at-link.result c.link_at-link.ensures c.in-Ok.at c.index-head.result.now (rw c.deref.ensures.value at c.in-Ok.ensures.found) c.index-head.ensures c.if-place-head.false c.if-place-head-2.false c.put_after.new.links.items c.put_before.new.links.items c.put_after.ensures.puts c.put_after.ensures.size c.put_after.ensures.owners c.put_after.ensures.befores c.put_before.ensures.puts c.put_before.ensures.size c.put_before.ensures.owners c.put_before.ensures.afters).unlinks

pub returns-clause-sound : goal.returns-clause-sound
returns-clause-sound c = (less_inner c.args.self.now c.self.inside.links.items c.self.inside.heads.items c.self.inside.heads.cap c.args.place c.self.view_is c.self.invariant c.requires c.link_at-link.result c.link_at-link.ensures c.in-Ok.at c.index-head.result.now (rw c.deref.ensures.value at c.in-Ok.ensures.found) c.index-head.ensures c.if-place-head.false c.if-place-head-2.false c.put_after.new.links.items c.put_before.new.links.items c.put_after.ensures.puts c.put_after.ensures.size c.put_after.ensures.owners c.put_after.ensures.befores c.put_before.ensures.puts c.put_before.ensures.size c.put_before.ensures.owners c.put_before.ensures.afters).sound

pub end_list-requires : goal.end_list-requires
end_list-requires c = (rw c.deref.ensures.value at c.in-Ok.ensures.found).within
