use Rattle.std.proofs.Common.{◌≡◌, true, ap, ◌∙◌, refl, subst}
use Rattle.std.specs.Prelude.{IfOk}
use Rattle.rule_model.specs.declared.facts.Conditions.{Conditions}
use Rattle.keystore_core.proofs.Begun.{admitted_over, facts_are, gathered_facts, key_is}
use Rattle.keystore_core.proofs.tables.Tables.admit.Goals as goal

pub returns-clause-gives : goal.returns-clause-gives
returns-clause-gives c = λ setup past stands has.
    let opens = rw c.table-table.ensures at c.in_ok-own.ensures.opens in
    let own = key_is setup past c.args.self.now c.args.caller c.args.key c.args.params.now c.args.forced stands c.requires c.in_ok-own.own _ _ _ refl refl refl opens.own_is in
    let facts = gathered_facts _ _ _ c.args.caller c.args.key c.args.params.now c.in_ok-own.own c.args.forced c.conditions-conditions.result opens
    ∙ facts_are setup past c.args.self.now c.args.caller c.args.key c.args.params.now c.args.forced stands c.requires c.in_ok-own.own _ c.args.room _ _ own refl refl has c.conditions-conditions.ensures in
    admitted_over c.admit.result c.in_ok-own.own _ _ _ own facts c.admit.ensures.gives

pub returns-clause-room : goal.returns-clause-room
returns-clause-room c =
    subst (λ room. IfOk c.admit.result (λ admitted. room ≡ true)) (ap (λ (k : Conditions). k.room) c.conditions-conditions.ensures) c.admit.ensures.room
