use Rattle.std.proofs.Common.{rules, [], ◌++◌, ap, ◌∙◌, Some}
use Rattle.turn_lock.specs.declared.view.Stage.TheVariants.{Idle}
use Rattle.turn_lock.specs.Views.{view, hand, front_in}
use Rattle.turn_lock.specs.Steps.{longer, compare}
use Rattle.turn_lock.proofs.Posing.{open_pass, open_note, pose_pass, single}
use Rattle.turn_lock.proofs.Parting.{gathers, compares}
use Rattle.turn_lock.proofs.lock.notes.TurnLock+T+E+K.meet.Goals as goal

pub join_seat-requires : goal.join_seat-requires
join_seat-requires g c = (search rules, search rules, ap (λ s. s.me.1) c.args.note.rests, search rules, gathers g.T.History.entries g.T.History.maker g.T.History.fits g.T.History.level _ _ _ _ _ (ap (λ s. s.me.0.stage) c.args.note.rests))

pub load-requires : goal.load-requires
load-requires g c =
    let p = c.args.pass in
    let n = c.args.note in
    let name = c.args.self.now.name in
    let was = open_pass _ name p.number p.rests p.single c.requires.ours.named in
    let other = open_note _ name n.rests n.single c.requires.note.named in (
      search rules,
      search rules,
      compares g.T.History.entries g.T.History.maker g.T.History.fits g.T.History.level _ _ _ _ name name p.number (front_in p.seat.me.0.hands) (front_in n.seat.me.0.hands)
          (ap (λ m. m.0) c.join_seat.ensures.2 ∙ (λ i. view (was i).0.stage ((was i).0.hands ++ (other i).0.hands))),
    )

pub invariant_of-result : goal.invariant_of-result
invariant_of-result g c =
    let p = c.args.pass in
    let n = c.args.note in
    let name = c.args.self.now.name in
    let was = open_pass _ name p.number p.rests p.single c.requires.ours.named in
    let other = open_note _ name n.rests n.single c.requires.note.named in
    let front = longer (front_in p.seat.me.0.hands) (front_in n.seat.me.0.hands) in
    let both = c.join_seat.ensures.2 ∙ (λ i. (view (was i).0.stage ((was i).0.hands ++ (other i).0.hands), (was i).1)) in
    let end = c.load.ensures.2.0 ∙ (λ i. (view (both i).0.stage (compare (both i).0.hands), (both i).1)) in
    record { rests = pose_pass _ name p.number front end; single = single _ Idle (hand name (Some p.number) front) [] end }
