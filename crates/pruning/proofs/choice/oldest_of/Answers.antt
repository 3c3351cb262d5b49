use Rattle.std.proofs.Common.{arith, sym}
use Rattle.pruning.proofs.Going.{owner_has_idle, oldest_is_earlier}
use Rattle.pruning.proofs.choice.oldest_of.Goals as goal

pub unreachable-requires-in_default-oldest_idle : goal.unreachable-requires-in_default-oldest_idle
unreachable-requires-in_default-oldest_idle g c =
    let some = owner_has_idle c.args.slots.now c.args.place c.in-Some.uid c.requires.sound (sym c.in-Some.ensures) in
    let none = c.in_default-oldest_idle.ensures.none in
    cc

pub overflow_sub-now : goal.overflow_sub-now
overflow_sub-now g c =
    omega (arith, oldest_is_earlier c.args.slots.now c.args.now c.in-Some.uid c.in-Some-oldest_idle.number c.in-Some-oldest_idle.touched c.requires.later c.in-Some-oldest_idle.ensures.some)

pub returns-clause-oldest : goal.returns-clause-oldest
returns-clause-oldest g c = record {
  uid = c.in-Some.uid;
  owner = sym c.in-Some.ensures;
  oldest = c.in-Some-oldest_idle.ensures.some;
  malus_is = rw (c.open_of.ensures.count, c.count_digits.ensures.digits);
}
