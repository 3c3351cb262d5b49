use Rattle.std.proofs.Common.{rules, [], ◌∷◌, ap, sym, subst, refl, inl, Some}
use Rattle.turn_lock.specs.declared.view.Stage.TheVariants.{Idle}
use Rattle.turn_lock.specs.Views.{view, hand, front_in, made_in}
use Rattle.turn_lock.specs.Steps.{gathered}
use Rattle.turn_lock.specs.Rule.{IsClosing}
use Rattle.turn_lock.proofs.Posing.{open_pass}
use Rattle.turn_lock.proofs.Closings.{has_before, has_behind, has_in}
use Rattle.turn_lock.proofs.Parting.{gathers}
use Rattle.turn_lock.proofs.lock.ending.TurnLock+T+E+K.absorb.Goals as goal

pub join_seat-requires : goal.join_seat-requires
join_seat-requires g c = (search rules, search rules, ap (λ s. s.me.1) c.args.pass.rests, search rules, gathers g.T.History.entries g.T.History.maker g.T.History.fits g.T.History.level _ _ _ _ _ (ap (λ s. s.me.0.stage) c.args.pass.rests))

pub returns-clause-taken : goal.returns-clause-taken
returns-clause-taken g c =
    let p = c.args.pass in
    let u = c.args.closing.now.seat.me.0 in
    let mine = open_pass _ c.args.self.now.name p.number p.rests p.single c.requires.ours.named in
    let here = has_in p.seat.me (view Idle (hand c.args.self.now.name (Some p.number) (front_in p.seat.me.0.hands) ∷ [])) [] p.number (front_in p.seat.me.0.hands) mine (inl (refl, refl)) in
    has_in c.join_seat.new.seat.me (gathered u p.seat.me.0) c.args.closing.now.seat.me.1 p.number (front_in p.seat.me.0.hands) c.join_seat.ensures.2 (has_behind u.hands p.seat.me.0.hands _ _ here)

pub returns-clause-kept : goal.returns-clause-kept
returns-clause-kept g c other took =
    let p = c.args.pass in
    let u = c.args.closing.now.seat.me.0 in
    let front = front_in other.seat.me.0.hands in
    has_in c.join_seat.new.seat.me (gathered u p.seat.me.0) c.args.closing.now.seat.me.1 other.number front c.join_seat.ensures.2 (has_before u.hands p.seat.me.0.hands other.number front took)

pub returns-clause-closing : goal.returns-clause-closing
returns-clause-closing g c =
    record { here = search rules; closes = subst (λ m. IsClosing m.0) (sym c.join_seat.ensures.2) c.requires.closing.closes }

pub returns-clause-made : goal.returns-clause-made
returns-clause-made g c = ap (λ m. made_in m.0.stage) c.join_seat.ensures.2
