use Rattle.turn_lock.specs.declared.view.Stage.TheVariants.{Idle}
use Rattle.turn_lock.specs.Views.{unnumbered}
use Rattle.turn_lock.proofs.Resting.{badge_of, badge_single}
use Rattle.turn_lock.proofs.lock.resting.TurnLock+T+E+K.rest_note.Goals as goal

pub invariant_of-result : goal.invariant_of-result
invariant_of-result g c = record { rests = badge_of c.args.note.seat c.into_badge.result Idle unnumbered c.args.note.rests c.into_badge.ensures.2; single = badge_single c.args.note.seat c.into_badge.result c.args.note.single c.into_badge.ensures.2 }
