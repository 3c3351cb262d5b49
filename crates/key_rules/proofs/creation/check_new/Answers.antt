use Rattle.key_rules.proofs.Keys.{new_key_is}
use Rattle.key_rules.proofs.creation.check_new.Goals as goal

pub returns-clause-key : goal.returns-clause-key
returns-clause-key c =
    new_key_is c.args.facts.now.params c.args.facts.now.import c.in_ok-list.list c.plan.result c.in_ok-list.ensures.is c.in_ok-list.ensures.size c.in_ok-list.ensures.digest
