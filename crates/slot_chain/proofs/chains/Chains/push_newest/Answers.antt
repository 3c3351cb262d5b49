use Rattle.std.proofs.Common.{arith, ap, length}
use Rattle.std.proofs.lemmas.List.{length-map}
use Rattle.slot_chain.specs.Linked.{owner_of}
use Rattle.slot_chain.proofs.Calls.{is_place, has_room, begun, newest_is, count_fits, pushed}
use Rattle.slot_chain.proofs.chains.Chains.push_newest.Goals as goal

pub put_owner-requires : goal.put_owner-requires
put_owner-requires c = is_place c.args.self.now c.self.inside.links.items c.self.inside.heads.items c.self.inside.heads.cap c.args.uid c.args.place c.self.view_is c.self.invariant c.requires.within c.requires.free

pub begin_list-requires-clause-room : goal.begin_list-requires-clause-room
begin_list-requires-clause-room c = has_room c.args.self.now c.self.inside.links.items c.self.inside.heads.items c.self.inside.heads.cap c.args.uid c.args.place c.self.view_is c.self.invariant c.requires.within c.requires.free

pub invariant_of-self : goal.invariant_of-self
invariant_of-self c = rw c.begin_list.ensures.items (begun c.args.self.now c.self.inside.links.items c.self.inside.heads.items c.self.inside.heads.cap c.args.uid c.args.place c.self.view_is c.self.invariant c.requires.within c.requires.free c.put_owner.new.links.items _ c.in-Err.at c.put_owner.ensures.puts c.put_owner.ensures.size c.put_owner.ensures.befores c.put_owner.ensures.afters c.begin_list.ensures.capacity (rw c.deref.ensures.value at c.in-Err.ensures.absent)).kept

pub returns-in-Err-clause-pushes : goal.returns-in-Err-clause-pushes
returns-in-Err-clause-pushes c = rw c.begin_list.ensures.items (begun c.args.self.now c.self.inside.links.items c.self.inside.heads.items c.self.inside.heads.cap c.args.uid c.args.place c.self.view_is c.self.invariant c.requires.within c.requires.free c.put_owner.new.links.items _ c.in-Err.at c.put_owner.ensures.puts c.put_owner.ensures.size c.put_owner.ensures.befores c.put_owner.ensures.afters c.begin_list.ensures.capacity (rw c.deref.ensures.value at c.in-Err.ensures.absent)).pushes

pub returns-in-Err-clause-sound : goal.returns-in-Err-clause-sound
returns-in-Err-clause-sound c = rw c.begin_list.ensures.items (begun c.args.self.now c.self.inside.links.items c.self.inside.heads.items c.self.inside.heads.cap c.args.uid c.args.place c.self.view_is c.self.invariant c.requires.within c.requires.free c.put_owner.new.links.items _ c.in-Err.at c.put_owner.ensures.puts c.put_owner.ensures.size c.put_owner.ensures.befores c.put_owner.ensures.afters c.begin_list.ensures.capacity (rw c.deref.ensures.value at c.in-Err.ensures.absent)).sound

pub put_after-requires : goal.put_after-requires
put_after-requires c = omega (arith, newest_is c.args.self.now c.self.inside.links.items c.self.inside.heads.items c.self.inside.heads.cap c.args.uid c.args.place c.self.view_is c.self.invariant c.requires.within c.requires.free c.in-Ok.at c.index-head.result.now (rw c.deref.ensures.value at c.in-Ok.ensures.found) c.index-head.ensures, c.put_owner.ensures.size, length-map c.put_owner.new.links.items owner_of, length-map c.self.inside.links.items owner_of)

pub put_before-requires : goal.put_before-requires
put_before-requires c = omega (arith, is_place c.args.self.now c.self.inside.links.items c.self.inside.heads.items c.self.inside.heads.cap c.args.uid c.args.place c.self.view_is c.self.invariant c.requires.within c.requires.free, c.put_owner.ensures.size, length-map c.put_owner.new.links.items owner_of, length-map c.self.inside.links.items owner_of, ap length c.put_after.ensures.owners, length-map c.put_after.new.links.items owner_of)

pub overflow_add-head : goal.overflow_add-head
overflow_add-head c = omega (arith, count_fits c.args.self.now c.self.inside.links.items c.self.inside.heads.items c.self.inside.heads.cap c.args.uid c.args.place c.self.view_is c.self.invariant c.requires.within c.requires.free c.in-Ok.at c.index-head.result.now (rw c.deref.ensures.value at c.in-Ok.ensures.found) c.index-head.ensures)

pub invariant_of-self-2 : goal.invariant_of-self-2
invariant_of-self-2 c = (pushed c.args.self.now c.self.inside.links.items c.self.inside.heads.items c.self.inside.heads.cap c.args.uid c.args.place c.self.view_is c.self.invariant c.requires.within c.requires.free c.in-Ok.at c.index-head.result.now (rw c.deref.ensures.value at c.in-Ok.ensures.found) c.index-head.ensures c.put_owner.new.links.items c.put_after.new.links.items c.put_before.new.links.items c.put_owner.ensures.puts c.put_owner.ensures.size c.put_owner.ensures.befores c.put_owner.ensures.afters c.put_after.ensures.puts c.put_after.ensures.size c.put_after.ensures.owners c.put_after.ensures.befores c.put_before.ensures.puts c.put_before.ensures.size c.put_before.ensures.owners c.put_before.ensures.afters).kept

pub returns-clause-pushes : goal.returns-clause-pushes
returns-clause-pushes c = (pushed c.args.self.now c.self.inside.links.items c.self.inside.heads.items c.self.inside.heads.cap c.args.uid c.args.place c.self.view_is c.self.invariant c.requires.within c.requires.free c.in-Ok.at c.index-head.result.now (rw c.deref.ensures.value at c.in-Ok.ensures.found) c.index-head.ensures c.put_owner.new.links.items c.put_after.new.links.items c.put_before.new.links.items c.put_owner.ensures.puts c.put_owner.ensures.size c.put_owner.ensures.befores c.put_owner.ensures.afters c.put_after.ensures.puts c.put_after.ensures.size c.put_after.ensures.owners c.put_after.ensures.befores c.put_before.ensures.puts c.put_before.ensures.size c.put_before.ensures.owners c.put_before.ensures.afters).pushes

pub returns-clause-sound : goal.returns-clause-sound
returns-clause-sound c = (pushed c.args.self.now c.self.inside.links.items c.self.inside.heads.items c.self.inside.heads.cap c.args.uid c.args.place c.self.view_is c.self.invariant c.requires.within c.requires.free c.in-Ok.at c.index-head.result.now (rw c.deref.ensures.value at c.in-Ok.ensures.found) c.index-head.ensures c.put_owner.new.links.items c.put_after.new.links.items c.put_before.new.links.items c.put_owner.ensures.puts c.put_owner.ensures.size c.put_owner.ensures.befores c.put_owner.ensures.afters c.put_after.ensures.puts c.put_after.ensures.size c.put_after.ensures.owners c.put_after.ensures.befores c.put_before.ensures.puts c.put_before.ensures.size c.put_before.ensures.owners c.put_before.ensures.afters).sound
