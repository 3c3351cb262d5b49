use Rattle.std.proofs.Common.{rules, [], ◌∙◌, Some, None}
use Rattle.turn_lock.specs.declared.view.Stage.TheVariants.{Idle}
use Rattle.turn_lock.specs.Views.{view, hand, front_in, unnumbered}
use Rattle.turn_lock.proofs.Posing.{open_pass, pose_pass, pose_note, single}
use Rattle.turn_lock.proofs.Parting.{notes}
use Rattle.turn_lock.proofs.lock.notes.TurnLock+T+E+K.note.Goals as goal

pub split_seat-requires : goal.split_seat-requires
split_seat-requires g c = (search rules, search rules, notes g.T.History.entries g.T.History.maker g.T.History.fits g.T.History.level _ _ _)

pub invariant_of-pass : goal.invariant_of-pass
invariant_of-pass g c =
    let p = c.args.pass.now in
    let name = c.args.self.now.name in
    let end = c.split_seat.ensures.2 ∙ open_pass _ name p.number p.rests p.single c.requires.ours.named in
    record { rests = pose_pass _ name p.number (front_in p.seat.me.0.hands) end; single = single _ Idle (hand name (Some p.number) (front_in p.seat.me.0.hands)) [] end }

pub invariant_of-result : goal.invariant_of-result
invariant_of-result g c =
    let p = c.args.pass.now in
    let name = c.args.self.now.name in
    let was = open_pass _ name p.number p.rests p.single c.requires.ours.named in
    let end = c.split_seat.ensures.4 ∙ (λ i. (view Idle (unnumbered (was i).0.hands), [])) in
    record { rests = pose_note _ name (front_in p.seat.me.0.hands) end; single = single _ Idle (hand name None (front_in p.seat.me.0.hands)) [] end }
