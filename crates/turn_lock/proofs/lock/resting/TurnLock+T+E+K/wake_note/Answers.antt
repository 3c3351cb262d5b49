use Rattle.turn_lock.specs.declared.view.Stage.TheVariants.{Idle}
use Rattle.turn_lock.specs.Views.{unnumbered}
use Rattle.turn_lock.proofs.Resting.{seat_of, seat_single}
use Rattle.turn_lock.proofs.lock.resting.TurnLock+T+E+K.wake_note.Goals as goal

pub invariant_of-result : goal.invariant_of-result
invariant_of-result g c = record { rests = seat_of c.into_seat.result c.args.note.badge Idle unnumbered c.args.note.rests c.into_seat.ensures.2 c.into_seat.ensures.3; single = seat_single c.into_seat.result c.args.note.badge c.args.note.single c.into_seat.ensures.2 }
