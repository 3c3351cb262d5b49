use Rattle.std.proofs.Common.{◌≡◌, ℕ, [], arith, sym, subst, ◌∙◌}
use Rattle.turn_lock.specs.Passes.{front}
use Rattle.turn_lock.specs.Rule.{own}
use Rattle.shared_list.specs.declared.list.PlainList.{PlainList}
use Rattle.shared_list.specs.Lists.{by, counted}
use Rattle.shared_list.proofs.run.list_of.Goals as goal

pub returns-clause-all : goal.returns-clause-all
returns-clause-all c = λ items k its.
    let same : c.end-slot.ensures.value ≡ c.in-Some.list = cc (c.end-slot.ensures.is, c.in-Some.is) in
    let owned = (c.end-slot.ensures.all its.pass.number (front its.pass) its.took).owned in
    let whole = subst (λ (n : ℕ). own by n (front its.pass) ≡ own by n c.end-slot.ensures.value.entries.items) its.its.number_is owned in
    subst (λ (l : PlainList). own by k l.entries.items ≡ counted k items) same (sym whole ∙ its.its.own_are)

pub returns-clause-none : goal.returns-clause-none
returns-clause-none c = λ k le.
    let same : c.end-slot.ensures.value ≡ c.in-Some.list = cc (c.end-slot.ensures.is, c.in-Some.is) in
    subst (λ (l : PlainList). own by k l.entries.items ≡ []) same (c.end-slot.ensures.none k (omega arith))
