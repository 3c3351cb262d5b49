use Rattle.std.proofs.Common.{arith, subst}
use Rattle.group_index.specs.Grouped.{Drops}
use Rattle.group_index.proofs.Pairs.{as_before, kept_less, less}
use Rattle.group_index.proofs.index.GroupIndex.take_out.Goals as goal

pub invariant_of-self : goal.invariant_of-self
invariant_of-self c = rw c.remove.ensures.items (kept_less c.args.group c.args.number c.self.inside.pairs.items c.self.inside.pairs.cap c.in-Ok.at c.self.invariant c.ranges.number.fits)

pub returns-in-Ok : goal.returns-in-Ok
returns-in-Ok c =
    rw c.remove.ensures.items
    (less c.args.group c.args.number c.self.inside.pairs.items c.self.inside.pairs.cap c.in-Ok.at c.self.invariant c.ranges.number.fits c.args.self.now _ c.self.view_is (omega (arith, c.remove.ensures.capacity))
    (rw c.deref.ensures.value at c.in-Ok.ensures.found))

pub returns-in_default : goal.returns-in_default
returns-in_default c =
    subst (Drops c.args.group c.args.number c.args.self.now) c.self.view_is
    (as_before c.args.group c.args.number c.self.inside.pairs.items c.self.inside.pairs.cap c.in_default.field-0 c.self.invariant c.ranges.number.fits c.args.self.now c.self.view_is
    (rw c.deref.ensures.value at c.in_default.ensures.absent))
