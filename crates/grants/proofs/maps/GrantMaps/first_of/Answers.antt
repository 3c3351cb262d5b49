use Rattle.std.proofs.Common.{subst}
use Rattle.grants.proofs.Ranges.{IsFrom, first_found, first_beyond, none_from}
use Rattle.grants.proofs.maps.GrantMaps.first_of.Goals as goal

pub returns-in-Some-clause-found : goal.returns-in-Some-clause-found
returns-in-Some-clause-found c =
    rw (← c.self.view_is) (first_found c.self.inside c.args.key c.in-Some.holder.now c.in-Some.row.now c.next.new.self c.self.invariant
    (subst (IsFrom c.self.inside c.args.key) c.in-Some.ensures.steps (c.range.ensures.in_range tt)) c.if-holder-key.true)

pub returns-in_default-clause-none : goal.returns-in_default-clause-none
returns-in_default-clause-none c =
    rw (← c.self.view_is) (first_beyond c.self.inside c.args.key c.in-Some.holder.now c.in-Some.row.now c.next.new.self c.self.invariant
    (subst (IsFrom c.self.inside c.args.key) c.in-Some.ensures.steps (c.range.ensures.in_range tt)) c.if-holder-key.false)

pub returns-in_default-2-clause-none : goal.returns-in_default-2-clause-none
returns-in_default-2-clause-none c =
    rw (← c.self.view_is) (none_from c.self.inside c.args.key c.self.invariant
    (subst (IsFrom c.self.inside c.args.key) (rw c.in_default.is at c.next.ensures.steps).0 (c.range.ensures.in_range tt)))
