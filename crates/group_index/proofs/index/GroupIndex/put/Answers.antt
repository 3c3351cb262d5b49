use Rattle.std.proofs.Common.{◌<◌, subst, sym}
use Rattle.std.specs.List.{AllByRecursion}
use Rattle.group_index.specs.Grouped.{numbers_in}
use Rattle.group_index.proofs.Pairs.{kept_more, more, no_such}
use Rattle.group_index.proofs.index.GroupIndex.put.Goals as goal

pub unreachable-requires : goal.unreachable-requires
unreachable-requires c =
    no_such c.args.group c.args.number c.self.inside.pairs.items c.self.inside.pairs.cap c.in-Ok._at c.self.invariant c.ranges.number.fits
    (subst (λ o. AllByRecursion (λ m. m < c.args.number) (numbers_in o c.args.group)) (sym c.self.view_is) c.requires.last) (rw c.deref.ensures.value at c.in-Ok.ensures.found)

pub invariant_of-self : goal.invariant_of-self
invariant_of-self c = rw c.in-Ok-insert.ensures.items (kept_more c.args.group c.args.number c.self.inside.pairs.items c.self.inside.pairs.cap c.in-Err.at c.self.invariant c.ranges.number.fits (rw c.deref.ensures.value at c.in-Err.ensures.absent))

pub returns : goal.returns
returns c =
    rw c.in-Ok-insert.ensures.items
    (more c.args.group c.args.number c.self.inside.pairs.items c.self.inside.pairs.cap c.in-Err.at c.self.invariant c.ranges.number.fits c.args.self.now _ c.self.view_is c.in-Ok-insert.ensures.capacity
    (rw c.deref.ensures.value at c.in-Err.ensures.absent) c.requires.last)
