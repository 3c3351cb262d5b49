use Rattle.std.proofs.Common.{◌≤◌, subst, sym}
use Rattle.operation_slots.specs.Counted.{total}
use Rattle.operation_slots.proofs.Counting.{none_there, count_is, in_table}
use Rattle.operation_slots.proofs.counts.UidCounts.of.Goals as goal

pub returns-in-Ok-clause-count : goal.returns-in-Ok-clause-count
returns-in-Ok-clause-count c = rw (← c.self.view_is) (sym (count_is c.self.inside.rows.items c.self.inside.rows.cap c.args.uid c.in-Ok.at c.self.invariant c.index.result.now (rw c.deref.ensures.value at c.in-Ok.ensures.found) c.index.ensures))

pub returns-in-Ok-clause-within : goal.returns-in-Ok-clause-within
returns-in-Ok-clause-within c = subst (λ o. c.index.result.now.count ≤ total o) c.self.view_is (in_table c.self.inside.rows.items c.self.inside.rows.cap c.args.uid c.in-Ok.at c.self.invariant c.index.result.now (rw c.deref.ensures.value at c.in-Ok.ensures.found) c.index.ensures)

pub returns-in-Err-clause-count : goal.returns-in-Err-clause-count
returns-in-Err-clause-count c = rw (← c.self.view_is) (sym (none_there c.self.inside.rows.items c.self.inside.rows.cap c.args.uid c.in-Err._at c.self.invariant (rw c.deref.ensures.value at c.in-Err.ensures.absent)))
