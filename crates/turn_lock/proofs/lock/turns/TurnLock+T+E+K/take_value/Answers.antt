use Rattle.std.proofs.Common.{rules, ◌≡◌, [], ◌∷◌, ap, ◌∙◌, Some, None}
use mathlib.Core.Option.{none}
use Rattle.atomic_table.specs.Table.{step}
use Rattle.turn_lock.specs.declared.view.Stage.TheVariants.{Waits, Serves}
use Rattle.turn_lock.specs.Views.{view, hand, front_in}
use Rattle.turn_lock.proofs.Posing.{pose_turn, single, put_in, took, has_slot}
use Rattle.turn_lock.proofs.Serving.{looks}
use Rattle.turn_lock.proofs.lock.turns.TurnLock+T+E+K.take_value.Goals as goal

pub load-served-requires : goal.load-served-requires
load-served-requires g c =
    let d = c.requires.drawn in
    (search rules, search rules, looks g.T.History.entries g.T.History.maker g.T.History.fits g.T.History.level _ _ _ _ d.0 (ap (λ m. m.0.stage) (c.loop.invariant.same ∙ d.2)))

pub exchange-requires : goal.exchange-requires
exchange-requires g c =
    let d = c.requires.drawn in
    let h = hand c.args.self.now.name (Some c.args.number) (front_in c.args.seat.me.0.hands) in
    let got = took g.T.History.entries g.T.History.maker g.T.History.fits (step 0 0 0 0 none) _ _ _ d.0 (h ∷ []) (c.loop.invariant.same ∙ d.2) (c.if-served-mine.true ∙ d.1) c.load-served.ensures.2 in
    (search rules, (Some got.0, has_slot _ _ _ got.1))

pub invariant_of-result : goal.invariant_of-result
invariant_of-result g c =
    let d = c.requires.drawn in
    let name = c.args.self.now.name in
    let front = front_in c.args.seat.me.0.hands in
    let h = hand name (Some c.args.number) front in
    let got = took g.T.History.entries g.T.History.maker g.T.History.fits (step 0 0 0 0 none) _ _ _ d.0 (h ∷ []) (c.loop.invariant.same ∙ d.2) (c.if-served-mine.true ∙ d.1) c.load-served.ensures.2 in
    let now = put_in _ _ _ None (Some got.0) got.1 c.exchange.ensures.3 in
    let log = g.T.History.entries got.0 in
    record { serves = pose_turn _ name c.args.number d.0 log front now; single = single _ (Serves d.0 log) h ((0, None) ∷ []) now }
