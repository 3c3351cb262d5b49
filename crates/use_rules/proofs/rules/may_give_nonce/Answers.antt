use Rattle.std.proofs.Common.{◌≡◌, ◌∙◌, ap, sym, refl, Bool, true, false, not}
use Rattle.std.proofs.lemmas.Bool.{false≢true}
use Rattle.use_rules.proofs.rules.may_give_nonce.Goals as goal
use Rattle.use_rules.proofs.rules.may_give_nonce.Goals.{then-not-takes_nonce, else-not-takes_nonce, then-not-is_only, else-not-is_only}

true_of : (b : Bool) → not b ≡ false → b ≡ true
true_of true e = refl
true_of false e = absurd (false≢true (sym e))

pub returns-else-not-gives_nonce : goal.returns-else-not-gives_nonce
returns-else-not-gives_nonce c =
    elim c.if-not-is_only.branch [
      | then-not-is_only w ↦ absurd (false≢true (sym c.if-not-gives_nonce.false ∙ w.value-is ∙ w.if-not-is_only.true))
      | else-not-is_only w ↦ (elim c.if-not-takes_nonce.branch [
        | then-not-takes_nonce v ↦ absurd (false≢true (sym w.if-not-is_only.false ∙ v.value-is ∙ ap not v.if-not-takes_nonce.true))
        | else-not-takes_nonce v ↦ (
            let only = true_of _ (sym v.value-is ∙ w.if-not-is_only.false) in
            let given = true_of _ (sym w.value-is ∙ c.if-not-gives_nonce.false) in
            rw (← c.takes_nonce.ensures, ← v.is_only.ensures, ← w.gives_nonce.ensures, v.if-not-takes_nonce.false, only, given) c.stands.ensures)
      ])
    ]
