use Rattle.std.proofs.Common.{◌≡◌, [], ◌∷◌, ◌++◌, sym, ap, ◌∙◌, subst, Some, None}
use Rattle.atomic_table.specs.Table.{opening}
use Rattle.turn_lock.specs.declared.view.Stage.TheVariants.{Makes}
use Rattle.turn_lock.specs.Views.{first_view, hand}
use Rattle.turn_lock.specs.Rule.{IsSound}
use Rattle.turn_lock.proofs.Standing.{opens}
use Rattle.turn_lock.proofs.Posing.{pose_maker, single}
use Rattle.turn_lock.proofs.lock.making.TurnLock+T+E+K.open.Goals as goal

pub new-requires : goal.new-requires
new-requires g c =
    let items : c.push.new.self.items ≡ Some c.args.value ∷ [] = c.in_default.ensures.items ∙ ap (λ l. l ++ Some c.args.value ∷ []) c.new-slots.ensures.items in
    subst (λ xs. IsSound g.T.History.entries g.T.History.maker g.T.History.fits g.T.History.level c.args.name (opening (0 ∷ 0 ∷ 0 ∷ 0 ∷ 0 ∷ []) xs (first_view c.args.name))) (sym items)
    (opens g.T.History.entries g.T.History.maker g.T.History.fits g.T.History.level c.args.name c.args.value c.requires.empty c.requires.fits)

pub invariant_of-result-in-Ok : goal.invariant_of-result-in-Ok
invariant_of-result-in-Ok g c = let e = c.in-Ok.ensures.ok.4 in
    record { makes = pose_maker _ c.args.name 0 e; single = single _ (Makes 0) (hand c.args.name None []) [] e }
