use Rattle.std.proofs.Common.{rules, ◌+◌, [], ap, ◌∙◌, Some, None}
use Rattle.turn_lock.specs.declared.view.Stage.TheVariants.{Idle, Makes}
use Rattle.turn_lock.specs.Views.{view, hand, number_to, unnumbered}
use Rattle.turn_lock.proofs.Posing.{open_maker, pose_maker, pose_pass, single}
use Rattle.turn_lock.proofs.Drawing.{draws_number}
use Rattle.turn_lock.proofs.Parting.{heirs}
use Rattle.turn_lock.proofs.lock.making.TurnLock+T+E+K.another.Goals as goal

pub fetch_add-number-requires : goal.fetch_add-number-requires
fetch_add-number-requires g c =
    let m = c.args.maker.now in
    let name = c.args.self.now.name in
    let was = open_maker _ name m.made m.makes m.single c.requires.ours.named in
    (search rules, search rules, draws_number g.T.History.entries g.T.History.maker g.T.History.fits g.T.History.level _ _ _ _ m.made name [] (ap (λ m. m.0) was) c.requires.room)

pub split_seat-heir-requires : goal.split_seat-heir-requires
split_seat-heir-requires g c =
    (search rules, search rules, heirs g.T.History.entries g.T.History.maker g.T.History.fits g.T.History.level _ _ _ (c.fetch_add-number.result + 1) (ap (λ m. m.0.stage) c.fetch_add-number.ensures.2.1))

pub invariant_of-maker : goal.invariant_of-maker
invariant_of-maker g c =
    let m = c.args.maker.now in
    let name = c.args.self.now.name in
    let n = c.fetch_add-number.result in
    let was = open_maker _ name m.made m.makes m.single c.requires.ours.named in
    let drew = c.fetch_add-number.ensures.2.1 ∙ (λ i. (view (Makes (n + 1)) (number_to n (was i).0.hands), (was i).1)) in
    let end = ap (λ s. s.me) c.replace-seat.ensures.after ∙ (c.split_seat-heir.ensures.4 ∙ (λ i. (view (drew i).0.stage (unnumbered (drew i).0.hands), []))) in
    record { makes = pose_maker _ name (n + 1) end; single = single _ (Makes (n + 1)) (hand name None []) [] end }

pub invariant_of-result : goal.invariant_of-result
invariant_of-result g c =
    let m = c.args.maker.now in
    let name = c.args.self.now.name in
    let n = c.fetch_add-number.result in
    let was = open_maker _ name m.made m.makes m.single c.requires.ours.named in
    let drew = c.fetch_add-number.ensures.2.1 ∙ (λ i. (view (Makes (n + 1)) (number_to n (was i).0.hands), (was i).1)) in
    let end = ap (λ s. s.me) c.replace-seat.ensures.value ∙ (c.split_seat-heir.ensures.2 ∙ (λ i. (view Idle (drew i).0.hands, (drew i).1))) in
    record { rests = pose_pass _ name n [] end; single = single _ Idle (hand name (Some n) []) [] end }
