use Rattle.std.proofs.Common.{◌≡◌, true, ◌&&◌, ◌||◌, ◌==◌, ap, sym, ◌∙◌}
use Rattle.std.specs.Prelude.{nat_le}
use Rattle.std.proofs.lemmas.Bool.{eqb-true}
use Rattle.call_rules.proofs.rules.names_owner.Goals as goal
use Rattle.call_rules.proofs.rules.names_owner.Goals.{then-domain-eq-DOMAIN_APP, else-domain-eq-DOMAIN_APP}

pub returns-then-nspace : goal.returns-then-nspace
returns-then-nspace c =
    let app : true ≡ ((c.args.domain == 0) && nat_le c.args.nspace 4294967295) =
    elim c.if-domain-eq-DOMAIN_APP.branch [
      | then-domain-eq-DOMAIN_APP w ↦ rw w.if-domain-eq-DOMAIN_APP.true (sym c.if-nspace.true ∙ w.value-is)
      | else-domain-eq-DOMAIN_APP w ↦ absurd (w.if-domain-eq-DOMAIN_APP.false (eqb-true _ _ (sym w.value-is ∙ c.if-nspace.true)))
    ] in
    c.if-nspace.true ∙ ap (λ b. b || (c.args.domain == 2)) app
