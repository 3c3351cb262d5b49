-- When an entry may come: where no change waits to be settled, or its act settles nothing.
use Rattle.std.proofs.Common.{◌≡◌, Bool, true, false, ◌||◌, not, IsTrue, refl, subst}
use Rattle.rule_model.specs.declared.event.Act.{Act}
use Rattle.rule_model.specs.Acts.{fixed_for}
use Rattle.rule_model.specs.Entries.{History}
use Rattle.rule_model.specs.Legal.{is_ready, is_settled}
use Rattle.rule_model.specs.Settling.{is_unsettled}

-- where none waits, any entry may come
pub idle_settled : (past : History) → is_unsettled past ≡ false → IsTrue (is_settled past)
idle_settled past e = rw e refl

pub idle_ready : (past : History) (act : Act) → is_unsettled past ≡ false → IsTrue (is_ready past act)
idle_ready past act e = rw e refl

-- an act that settles first comes only where none waits
pub ready_settled : (past : History) (act : Act) → (fixed_for act).settles ≡ true → IsTrue (is_ready past act) → IsTrue (is_settled past)
ready_settled past act e ready = by_settled (is_settled past) (subst (λ b. IsTrue (is_settled past || not b)) e ready) where
  by_settled : (b : Bool) → IsTrue (b || false) → IsTrue b
  by_settled true t = refl
  by_settled false t = t
