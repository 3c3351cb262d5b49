use Rattle.std.proofs.Common.{arith, ap, length}
use Rattle.operation_slots.specs.Counted.{total, room_in}
use Rattle.operation_slots.proofs.Counting.{in_table, rows_few, kept_changed, raised, kept_inserted, inserted}
use Rattle.operation_slots.proofs.counts.UidCounts.raise.Goals as goal

pub overflow_add-count : goal.overflow_add-count
overflow_add-count c = (let less = in_table c.self.inside.rows.items c.self.inside.rows.cap c.args.uid c.in-Ok.at c.self.invariant c.index.result.now (rw c.deref.ensures.value at c.in-Ok.ensures.found) c.index.ensures in let few = ap total c.self.view_is in omega (arith, less, few, c.requires.few))

pub invariant_of-self : goal.invariant_of-self
invariant_of-self c = kept_changed c.self.inside.rows.items c.self.inside.rows.cap c.args.uid c.in-Ok.at c.self.invariant c.index.result.now (rw c.deref.ensures.value at c.in-Ok.ensures.found) c.index.ensures _ (omega arith)

pub returns-in-Ok : goal.returns-in-Ok
returns-in-Ok c = raised c.self.inside.rows.items c.self.inside.rows.cap c.args.uid c.in-Ok.at c.self.invariant c.index.result.now (rw c.deref.ensures.value at c.in-Ok.ensures.found) c.index.ensures c.args.self.now c.self.view_is

pub invariant_of-self-in-Ok-insert : goal.invariant_of-self-in-Ok-insert
invariant_of-self-in-Ok-insert c = rw c.in-Ok-insert.ensures.items (kept_inserted c.self.inside.rows.items c.self.inside.rows.cap c.args.uid c.in-Err.at c.self.invariant (rw c.deref.ensures.value at c.in-Err.ensures.absent))

pub returns-in-Ok-insert : goal.returns-in-Ok-insert
returns-in-Ok-insert c = rw c.in-Ok-insert.ensures.items (inserted c.self.inside.rows.items c.self.inside.rows.cap c.args.uid c.in-Err.at c.self.invariant c.args.self.now _ c.self.view_is c.in-Ok-insert.ensures.capacity (rw c.deref.ensures.value at c.in-Err.ensures.absent))

pub unreachable-requires : goal.unreachable-requires
unreachable-requires c =
    let few = rows_few c.self.inside.rows.items c.self.inside.rows.cap c.self.invariant in
    omega (arith, few, ap total c.self.view_is, ap room_in c.self.view_is, c.requires.room, c.in-Err-insert.ensures.full, c.deref.ensures.len, ap length c.deref.ensures.value)
