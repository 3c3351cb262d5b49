use Rattle.std.proofs.Common.{◌∙◌, sym}
use Rattle.std.proofs.lemmas.Bool.{false≢true}
use Rattle.use_rules.proofs.rules.expiry_of.Goals as goal
use Rattle.use_rules.proofs.rules.expiry_of.Goals.{then-is_only, else-is_only}

pub returns-else-is_only-2 : goal.returns-else-is_only-2
returns-else-is_only-2 c =
    elim c.if-is_only.branch [
      | then-is_only w ↦ absurd (false≢true (sym c.if-is_only-2.false ∙ w.value-is ∙ w.if-is_only.true))
      | else-is_only w ↦ rw (← w.if-is_only.ensures, ← w.is_only-else-is_only.ensures, sym w.value-is ∙ c.if-is_only-2.false)
    ]
