use Rattle.std.proofs.Common.{refl, sym, ap, ◌∙◌, subst}
use Rattle.std.proofs.lemmas.Result.{err_from_is_err_and}
use Rattle.use_rules.specs.declared.facts.BeginFacts.{BeginFacts}
use Rattle.use_rules.specs.Plans.{challenge_wanted}
use Rattle.use_rules.specs.Table.{key_of}
use Rattle.keymint_ops.specs.Begin.{MayBegin}
use Rattle.call_answers.proofs.BeginKeys.{may_not}
use Rattle.call_answers.proofs.begins.BeginKey.admit.Goals as goal

pub returns-clause-gives : goal.returns-clause-gives
returns-clause-gives c =
    let facts = c.into_facts-facts.ensures.facts in
    record {
      may = subst (MayBegin c.in_ok-begin.begin) facts c.in_ok-begin.ensures.gives;
      id_is = refl;
      limited_is = refl;
      material_is = c.into_facts-facts.ensures.material;
      list_is = c.list_of.ensures ∙ ap key_of facts;
      challenge_is = c.challenge_wanted-challenge.ensures ∙ ap (λ (f : BeginFacts). challenge_wanted (key_of f)) facts;
    }

pub returns-in_err-begin-clause-gives : goal.returns-in_err-begin-clause-gives
returns-in_err-begin-clause-gives c =
    let fault = err_from_is_err_and c.from_residual.result c.from_residual.ensures.1 in
    rw (fault.1, fault.2) (may_not _ c.args.self _ _ c.into_facts-facts.ensures.facts c.in_err-begin.ensures.gives)

pub returns-clause-room : goal.returns-clause-room
returns-clause-room c = sym (ap (λ (f : BeginFacts). f.room) c.into_facts-facts.ensures.facts) ∙ c.in_ok-begin.ensures.gives.has_room
