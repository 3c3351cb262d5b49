use Rattle.std.proofs.Common.{rules, [], ◌∙◌, Some}
use Rattle.atomic_table.specs.Table.{rest}
use Rattle.turn_lock.specs.declared.view.Stage.TheVariants.{Idle}
use Rattle.turn_lock.specs.Views.{view, hand, front_in, turn_in, log_in, front_to}
use Rattle.turn_lock.proofs.Posing.{pose_pass, single}
use Rattle.turn_lock.proofs.Passing.{passes_turn_seeing}
use Rattle.turn_lock.proofs.lock.turns.TurnLock+T+E+K.leave_seeing.Goals as goal

pub fetch_add-requires : goal.fetch_add-requires
fetch_add-requires g c =
    let u = c.args.turn.seat.me.0 in
    let name = c.args.self.now.name in
    let n = c.args.turn.number in
    let now = c.put_back-seat.ensures.full in
    (search rules, search rules, passes_turn_seeing g.T.History.entries g.T.History.maker g.T.History.fits g.T.History.level _ _ _ _ (turn_in u.stage) n (log_in u.stage) (front_in u.hands) name c.args.value (search rules) now c.requires.same c.requires.fits)

pub invariant_of-result : goal.invariant_of-result
invariant_of-result g c =
    let u = c.args.turn.seat.me.0 in
    let name = c.args.self.now.name in
    let n = c.args.turn.number in
    let now = c.put_back-seat.ensures.full in
    let end = c.fetch_add.ensures.2 ∙ (λ i. (view Idle (front_to (log_in (now i).0.stage) (now i).0.hands), rest (now i).1)) in
    record { rests = pose_pass _ name n (log_in u.stage) end; single = single _ Idle (hand name (Some n) (log_in u.stage)) [] end }
