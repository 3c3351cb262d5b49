use Rattle.std.proofs.Common.{rules, [], ap, ◌∙◌, Some}
use Rattle.turn_lock.specs.declared.view.Stage.TheVariants.{Idle}
use Rattle.turn_lock.specs.Views.{view, hand, front_in, front_to}
use Rattle.turn_lock.proofs.Posing.{open_pass, pose_pass, single}
use Rattle.turn_lock.proofs.Catching.{catches_up}
use Rattle.turn_lock.proofs.lock.notes.TurnLock+T+E+K.catch_up.Goals as goal

pub load-level-requires : goal.load-level-requires
load-level-requires g c =
    let p = c.args.pass in
    let name = c.args.self.now.name in
    let was = open_pass _ name p.number p.rests p.single c.requires.ours.named in (
      search rules,
      search rules,
      catches_up g.T.History.entries g.T.History.maker g.T.History.fits g.T.History.level _ _ _ _ name p.number (front_in p.seat.me.0.hands) (ap (λ m. m.0) was),
    )

pub invariant_of-result : goal.invariant_of-result
invariant_of-result g c =
    let p = c.args.pass in
    let name = c.args.self.now.name in
    let was = open_pass _ name p.number p.rests p.single c.requires.ours.named in
    let e = c.load-level.ensures.2 in
    let end = e.2 ∙ (λ i. (view (was i).0.stage (front_to e.0 (was i).0.hands), (was i).1)) in
    record { rests = pose_pass _ name p.number e.0 end; single = single _ Idle (hand name (Some p.number) e.0) [] end }
