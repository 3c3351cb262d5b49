use Rattle.turn_lock.specs.declared.view.Stage.TheVariants.{Makes}
use Rattle.turn_lock.specs.Views.{blank}
use Rattle.turn_lock.proofs.Resting.{seat_of, seat_single}
use Rattle.turn_lock.proofs.lock.resting.TurnLock+T+E+K.wake_maker.Goals as goal

pub invariant_of-result : goal.invariant_of-result
invariant_of-result g c = record { makes = seat_of c.into_seat.result c.args.maker.badge (Makes c.args.maker.made) blank c.args.maker.makes c.into_seat.ensures.2 c.into_seat.ensures.3; single = seat_single c.into_seat.result c.args.maker.badge c.args.maker.single c.into_seat.ensures.2 }
