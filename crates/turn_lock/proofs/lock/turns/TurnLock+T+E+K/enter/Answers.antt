use Rattle.std.proofs.Common.{rules, ◌≡◌, ap, ◌∙◌, arith}
use Rattle.turn_lock.specs.declared.view.Stage.TheVariants.{Waits}
use Rattle.turn_lock.specs.Views.{view, numbers_in}
use Rattle.turn_lock.proofs.Posing.{open_pass}
use Rattle.turn_lock.proofs.lock.turns.TurnLock+T+E+K.enter.Goals as goal

pub draw-mine-requires-clause-idle : goal.draw-mine-requires-clause-idle
draw-mine-requires-clause-idle g c =
    let p = c.args.pass in
    ap (λ m. m.0.stage) (open_pass _ c.args.self.now.name p.number p.rests p.single c.requires.ours.named)

pub draw-mine-requires-clause-number : goal.draw-mine-requires-clause-number
draw-mine-requires-clause-number g c =
    let p = c.args.pass in
    let one : numbers_in p.seat.me.0.hands ≡ 1 = ap (λ m. numbers_in m.0.hands) (open_pass _ c.args.self.now.name p.number p.rests p.single c.requires.ours.named) in
    omega arith
