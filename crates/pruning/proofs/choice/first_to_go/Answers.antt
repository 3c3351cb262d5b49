use Rattle.std.proofs.Common.{arith, refl}
use Rattle.pruning.proofs.Going.{one_more, first_of_all, first_is_idle}
use Rattle.pruning.proofs.choice.first_to_go.Goals as goal

pub returns-clause-first : goal.returns-clause-first
returns-clause-first g c =
    first_of_all c.args.slots.now c.args.now c.loop-place.first c.loop-place.place c.idle_owners-place-end.ensures.sound (omega arith) c.loop-place.invariant.first_is

pub loop-place-preserved : goal.loop-place-preserved
loop-place-preserved g c = record {
  first_is = rw c.earlier.ensures (one_more c.args.slots.now c.args.now c.loop-place.place c.loop-place.first c.oldest_of.result c.loop-place.invariant.first_is c.oldest_of.ensures.oldest);
  later = omega (arith, c.loop-place.invariant.later, c.oldest_of.ensures.steps);
  few = omega (arith, c.loop-place.invariant.few, c.oldest_of.ensures.steps);
}

pub returns-clause-idle : goal.returns-clause-idle
returns-clause-idle g c =
    first_is_idle c.args.slots.now c.args.now c.loop-place.place c.loop-place.first c.idle_owners-place-end.ensures.sound c.loop-place.invariant.first_is

pub loop-place-init : goal.loop-place-init
loop-place-init g c = record { first_is = refl; later = omega arith; few = omega arith }
