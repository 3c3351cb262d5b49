use Rattle.std.proofs.Common.{arith, ap}
use Rattle.operation_slots.specs.Counted.{count_in}
use Rattle.operation_slots.proofs.Counting.{none_there, count_is, kept_changed, lowered, kept_removed, removed}
use Rattle.operation_slots.proofs.counts.UidCounts.lower.Goals as goal

pub unreachable-requires : goal.unreachable-requires
unreachable-requires c = (let none = none_there c.self.inside.rows.items c.self.inside.rows.cap c.args.uid c.in-Err._at c.self.invariant (rw c.deref.ensures.value at c.in-Err.ensures.absent) in let seen = ap (λ o. count_in o c.args.uid) c.self.view_is in omega (arith, none, seen, c.requires))

pub overflow_sub-count : goal.overflow_sub-count
overflow_sub-count c = (let there = count_is c.self.inside.rows.items c.self.inside.rows.cap c.args.uid c.in-Ok.at c.self.invariant c.index.result.now (rw c.deref.ensures.value at c.in-Ok.ensures.found) c.index.ensures in let seen = ap (λ o. count_in o c.args.uid) c.self.view_is in omega (arith, there, seen, c.requires))

pub invariant_of-self : goal.invariant_of-self
invariant_of-self c = rw c.remove.ensures.items (kept_removed c.self.inside.rows.items c.self.inside.rows.cap c.args.uid c.in-Ok.at c.self.invariant c.index.result.now (rw c.deref.ensures.value at c.in-Ok.ensures.found) c.index.ensures)

pub invariant_of-self-else-count-eq0 : goal.invariant_of-self-else-count-eq0
invariant_of-self-else-count-eq0 c = kept_changed c.self.inside.rows.items c.self.inside.rows.cap c.args.uid c.in-Ok.at c.self.invariant c.index.result.now (rw c.deref.ensures.value at c.in-Ok.ensures.found) c.index.ensures _ (omega (arith, c.if-count-eq0.false))

pub returns-then-count-eq0 : goal.returns-then-count-eq0
returns-then-count-eq0 c = rw c.remove.ensures.items (removed c.self.inside.rows.items c.self.inside.rows.cap c.args.uid c.in-Ok.at c.self.invariant c.index.result.now (rw c.deref.ensures.value at c.in-Ok.ensures.found) c.index.ensures c.args.self.now _ c.self.view_is (omega (arith, c.remove.ensures.capacity)) c.if-count-eq0.true (let there = count_is c.self.inside.rows.items c.self.inside.rows.cap c.args.uid c.in-Ok.at c.self.invariant c.index.result.now (rw c.deref.ensures.value at c.in-Ok.ensures.found) c.index.ensures in let seen = ap (λ o. count_in o c.args.uid) c.self.view_is in omega (arith, there, seen, c.requires)))

pub returns-else-count-eq0 : goal.returns-else-count-eq0
returns-else-count-eq0 c = lowered c.self.inside.rows.items c.self.inside.rows.cap c.args.uid c.in-Ok.at c.self.invariant c.index.result.now (rw c.deref.ensures.value at c.in-Ok.ensures.found) c.index.ensures c.args.self.now c.self.view_is (let there = count_is c.self.inside.rows.items c.self.inside.rows.cap c.args.uid c.in-Ok.at c.self.invariant c.index.result.now (rw c.deref.ensures.value at c.in-Ok.ensures.found) c.index.ensures in let seen = ap (λ o. count_in o c.args.uid) c.self.view_is in omega (arith, there, seen, c.requires))
