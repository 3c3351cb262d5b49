use Rattle.turn_lock.specs.declared.view.Stage.TheVariants.{Idle}
use Rattle.turn_lock.specs.Views.{number_to}
use Rattle.turn_lock.proofs.Resting.{badge_of, badge_single}
use Rattle.turn_lock.proofs.lock.resting.TurnLock+T+E+K.rest.Goals as goal

pub invariant_of-result : goal.invariant_of-result
invariant_of-result g c = record { rests = badge_of c.args.pass.seat c.into_badge.result Idle (number_to c.args.pass.number) c.args.pass.rests c.into_badge.ensures.2; single = badge_single c.args.pass.seat c.into_badge.result c.args.pass.single c.into_badge.ensures.2 }
