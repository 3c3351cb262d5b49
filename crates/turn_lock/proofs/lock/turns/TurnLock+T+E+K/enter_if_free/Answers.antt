use Rattle.std.proofs.Common.{[], ◌∙◌, Some}
use Rattle.turn_lock.specs.declared.view.Stage.TheVariants.{Idle}
use Rattle.turn_lock.specs.Views.{hand, front_in}
use Rattle.turn_lock.proofs.Posing.{open_pass, pose_pass, single}
use Rattle.turn_lock.proofs.lock.turns.TurnLock+T+E+K.enter_if_free.Goals as goal

pub invariant_of-result : goal.invariant_of-result
invariant_of-result g c =
    let p = c.args.pass in
    let name = c.args.self.now.name in
    let front = front_in p.seat.me.0.hands in
    let now = c.in-Err.ensures.out ∙ open_pass _ name p.number p.rests p.single c.requires.ours.named in
    record { rests = pose_pass _ name p.number front now; single = single _ Idle (hand name (Some p.number) front) [] now }
