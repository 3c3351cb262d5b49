use Rattle.turn_lock.specs.declared.view.Stage.TheVariants.{Makes}
use Rattle.turn_lock.specs.Views.{blank}
use Rattle.turn_lock.proofs.Resting.{badge_of, badge_single}
use Rattle.turn_lock.proofs.lock.resting.TurnLock+T+E+K.rest_maker.Goals as goal

pub invariant_of-result : goal.invariant_of-result
invariant_of-result g c = record { makes = badge_of c.args.maker.seat c.into_badge.result (Makes c.args.maker.made) blank c.args.maker.makes c.into_badge.ensures.2; single = badge_single c.args.maker.seat c.into_badge.result c.args.maker.single c.into_badge.ensures.2 }
