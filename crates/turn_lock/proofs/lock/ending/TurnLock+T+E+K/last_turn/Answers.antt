use Rattle.std.proofs.Common.{rules, ap, sym, ◌∙◌, Some, refl, subst, inl}
use Rattle.atomic_table.specs.Table.{rest}
use Rattle.turn_lock.specs.declared.view.Stage.TheVariants.{Closes}
use Rattle.turn_lock.specs.Views.{view, front_in, turn_in, made_in, log_in}
use Rattle.turn_lock.specs.Rule.{IsClosing}
use Rattle.turn_lock.specs.Fronts.{HasHand}
use Rattle.turn_lock.specs.Steps.{completed}
use Rattle.turn_lock.proofs.Passing.{closes}
use Rattle.turn_lock.proofs.Parting.{completes}
use Rattle.turn_lock.proofs.lock.ending.TurnLock+T+E+K.last_turn.Goals as goal

pub load-requires : goal.load-requires
load-requires g c =
    let e = c.enter-turn.ensures in
    let turn = c.enter-turn.result.0 in
    let value = c.enter-turn.result.1 in
    let u = turn.seat.me.0 in
    let name = c.args.self.now.name in
    let now = c.put_back-seat.ensures.full in
    (search rules, search rules, closes g.T.History.entries g.T.History.maker g.T.History.fits g.T.History.level _ _ _ _ (turn_in u.stage) (log_in u.stage) name (Some turn.number) (front_in u.hands) value (search rules) now (sym e.value) e.fits)

pub join_seat-requires : goal.join_seat-requires
join_seat-requires g c =
    let now = c.put_back-seat.ensures.full in
    let end = c.load.ensures.2 ∙ (λ i. (view (Closes (turn_in (now i).0.stage)) (now i).0.hands, rest (now i).1)) in (
      search rules,
      search rules,
      ap (λ s. s.me.1) c.args.maker.makes,
      search rules,
      completes g.T.History.entries g.T.History.maker g.T.History.fits g.T.History.level _ _ _ _ _ _ c.args.maker.made (ap (λ m. m.0.stage) end) (ap (λ s. s.me.0.stage) c.args.maker.makes),
    )

pub returns-clause-closing : goal.returns-clause-closing
returns-clause-closing g c = record { here = search rules; closes = subst (λ m. IsClosing m.0) (sym c.join_seat.ensures.2) refl }

pub returns-clause-taken : goal.returns-clause-taken
returns-clause-taken g c =
    let e = c.enter-turn.ensures in
    let turn = c.enter-turn.result.0 in
    let u = turn.seat.me.0 in
    let number = c.args.pass.number in
    let front = front_in c.args.pass.seat.me.0.hands in
    let now = c.put_back-seat.ensures.full in
    let end = c.load.ensures.2 ∙ (λ i. (view (Closes (turn_in (now i).0.stage)) (now i).0.hands, rest (now i).1)) in
    let both = c.join_seat.ensures.2 ∙ (λ i. (completed (end i).0 c.args.maker.seat.me.0, (end i).1)) in
    subst (λ m. HasHand m.0.hands number front) (sym both) (inl (ap Some e.number, e.front))

pub returns-clause-made : goal.returns-clause-made
returns-clause-made g c = ap (λ m. made_in m.0.stage) c.join_seat.ensures.2 ∙ ap (λ s. made_in s.me.0.stage) c.args.maker.makes
