-- What is left of the body may fill it as the whole may.
use Rattle.std.proofs.Common.{◌≡◌}
use Rattle.record_areas.specs.BodyLengths.{may_fill}
use Rattle.record_areas.proofs.body_length.may_fill.Given as goal

abbrev pub invariant-texts : goal.invariant-texts
invariant-texts l = may_fill l.count l.behind l.left l.rest ≡ may_fill l.fn.texts l.fn.behind l.fn.size l.fn.front

abbrev pub decreases-texts : goal.decreases-texts
decreases-texts l = l.count
